use Rattle.std.proofs.Common.{◌∙◌, sym}
use Rattle.acng_head.proofs.Texts.{to_path, to_origin, to_size, to_tag, to_modified, to_checked, to_mark, to_end, whole}
use Rattle.acng_head.proofs.Texts.{text_is, same_text, other_text}
use Rattle.acng_head.proofs.lines.cut.Goals as goal

pub returns-in_err-rest : goal.returns-in_err-rest
returns-in_err-rest c = rw c.from_residual.ensures (λ v h e. c.in_err-rest.ensures _ (sym e ∙ text_is v))

pub returns-in_err-path : goal.returns-in_err-path
returns-in_err-path c = rw c.from_residual-in_err-path.ensures (λ v h e.
    let e0 = to_path v _ _ e c.in_ok-rest.ensures in
    c.in_err-path.ensures _ _ (sym e0))

pub returns-in_err-origin : goal.returns-in_err-origin
returns-in_err-origin c = rw c.from_residual-in_err-origin.ensures (λ v h e.
    let e0 = to_path v _ _ e c.in_ok-rest.ensures in
    let e1 = to_origin v h _ _ _ e0 c.in_ok-path.ensures in
    c.in_err-origin.ensures _ _ (sym e1.1))

pub returns-in_err-size : goal.returns-in_err-size
returns-in_err-size c = rw c.from_residual-in_err-size.ensures (λ v h e.
    let e0 = to_path v _ _ e c.in_ok-rest.ensures in
    let e1 = to_origin v h _ _ _ e0 c.in_ok-path.ensures in
    let e2 = to_size v h _ _ _ e1.1 c.in_ok-origin.ensures in
    c.in_err-size.ensures _ _ (sym e2.1))

pub returns-in_err-checked : goal.returns-in_err-checked
returns-in_err-checked c = rw c.from_residual-in_err-checked.ensures (λ v h e.
    let e0 = to_path v _ _ e c.in_ok-rest.ensures in
    let e1 = to_origin v h _ _ _ e0 c.in_ok-path.ensures in
    let e2 = to_size v h _ _ _ e1.1 c.in_ok-origin.ensures in
    let e3 = to_tag v h _ _ _ e2.1 c.in_ok-size.ensures in
    let o4 = c.optional.ensures in
    let e4 = to_modified v h _ _ _ e3.1 o4.value o4.found o4.missing in
    let o5 = c.optional-2.ensures in
    let e5 = to_checked v h _ _ _ e4.1 o5.value o5.found o5.missing in
    c.in_err-checked.ensures _ _ (sym e5.1))

pub returns-then-ne : goal.returns-then-ne
returns-then-ne c = λ v h e.
    let e0 = to_path v _ _ e c.in_ok-rest.ensures in
    let e1 = to_origin v h _ _ _ e0 c.in_ok-path.ensures in
    let e2 = to_size v h _ _ _ e1.1 c.in_ok-origin.ensures in
    let e3 = to_tag v h _ _ _ e2.1 c.in_ok-size.ensures in
    let o4 = c.optional.ensures in
    let e4 = to_modified v h _ _ _ e3.1 o4.value o4.found o4.missing in
    let o5 = c.optional-2.ensures in
    let e5 = to_checked v h _ _ _ e4.1 o5.value o5.found o5.missing in
    let e6 = to_mark v h _ _ _ e5.1 c.in_ok-checked.ensures in
    let o7 = c.optional-3.ensures in
    let e7 = to_end v h _ _ _ e6.1 o7.value o7.found o7.missing in
    other_text _ _ (sym c.ne.ensures ∙ c.if-ne.true) (sym e7.1 ∙ sym c.as_slice.ensures)

pub returns : goal.returns
returns c =
    let o4 = c.optional.ensures in
    let o5 = c.optional-2.ensures in
    let o7 = c.optional-3.ensures in
    let path = c.in_ok-path.ensures in
    let origin = c.in_ok-origin.ensures in
    let size = c.in_ok-size.ensures in
    let checked = c.in_ok-checked.ensures in
    let end = same_text _ _ (sym c.ne.ensures ∙ c.if-ne.false) ∙ c.as_slice.ensures in (
      record { path = path.0; origin = origin.0; size = size.0; tag = o4.value; modified = o5.value; checked = checked.0; mark = o7.value },
      whole _ _ _ _ _ _ _ _ _ _ c.in_ok-rest.ensures path.1 origin.1 size.1 o4.found o5.found checked.1 o7.found end,
    )

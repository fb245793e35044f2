use Rattle.std.proofs.Common.{◌≡◌, ℕ, ◌^◌, ◌<◌, ◌≤◌, decimal, sym, ap, ◌∙◌, subst, arith}
use Rattle.std.proofs.lemmas.Bool.{false≢true}
use Rattle.std.proofs.lemmas.Fmt.{decimal_injective}
use Rattle.std.specs.Option.{IfSome}
use Rattle.acng_head.specs.declared.head.Head.{Head}
use Rattle.acng_base.specs.Moments.{moment_limit}
use Rattle.acng_head.specs.Records.{IsHead, IsBoundedLabel, Values, values_of}
use Rattle.acng_head.proofs.Lacking.{below}
use Rattle.acng_head.proofs.Same.{moment_same}
use Rattle.acng_head.proofs.Texts.{values_same}
use Rattle.acng_head.proofs.read.head_of.Goals as goal

-- the size that was read is the head's
size_same : (h : Head) (v : Values) (n : ℕ) → IsHead h → values_of h ≡ v → n < 2 ^ 64 → v.size ≡ decimal n → n ≡ h.size
unfolding values_of
size_same h v n is e small read =
    decimal_injective n h.size small (omega (arith, is.bounded.size)) (sym read ∙ sym (ap (λ (w : Values). w.size) e))

pub returns-in_err-size : goal.returns-in_err-size
unfolding values_of
returns-in_err-size c = rw c.from_residual.ensures (λ h is e.
    c.in_err-size.ensures h.size (omega (arith, is.bounded.size)) (sym (ap (λ (v : Values). v.size) e)))

pub returns-in_err-label : goal.returns-in_err-label
unfolding values_of
returns-in_err-label c = rw c.from_residual-in_err-label.ensures (λ h is e.
    let same = size_same h _ c.in_ok-size.size is e c.in_ok-size.ensures.0 c.in_ok-size.ensures.1 in
    c.in_err-label.ensures h.label is.typed.label (subst (λ n. IsBoundedLabel n h.label) (sym same) is.bounded.label)
    (sym (ap (λ (v : Values). v.origin) e)))

pub returns-in_err-tag : goal.returns-in_err-tag
unfolding values_of
returns-in_err-tag c = rw c.from_residual-in_err-tag.ensures (λ h is e.
    c.in_err-tag.ensures h.tag is.typed.tag (ap (λ (v : Values). v.tag) e))

pub returns-in_err-modified : goal.returns-in_err-modified
unfolding values_of
returns-in_err-modified c = rw c.from_residual-in_err-modified.ensures (λ h is e.
    c.in_err-modified.ensures h.modified (below h.modified is.bounded.modified) (ap (λ (v : Values). v.modified) e))

pub returns-in_err-checked : goal.returns-in_err-checked
unfolding values_of
returns-in_err-checked c = rw c.from_residual-in_err-checked.ensures (λ h is e.
    c.in_err-checked.ensures h.checked.0 is.typed.checked (sym (ap (λ (v : Values). v.checked) e)))

pub returns-in_err-mark : goal.returns-in_err-mark
unfolding values_of
returns-in_err-mark c = rw c.from_residual-in_err-mark.ensures (λ h is e.
    c.in_err-mark.ensures h.mark is.typed.mark (ap (λ (v : Values). v.mark) e))

pub returns-then-not-is_bounded : goal.returns-then-not-is_bounded
unfolding values_of
returns-then-not-is_bounded c = λ h is e.
    let same = size_same h _ c.in_ok-size.size is e c.in_ok-size.ensures.0 c.in_ok-size.ensures.1 in
    let modified = moment_same c.in_ok-modified.modified h.modified c.in_ok-modified.ensures.0 (below h.modified is.bounded.modified)
    (c.in_ok-modified.ensures.1 ∙ sym (ap (λ (v : Values). v.modified) e)) in
    let within = subst (λ o. IfSome o (λ m. m.0 < moment_limit)) (sym modified) is.bounded.modified in
    let bytes : c.in_ok-size.size ≤ 2 ^ 41 = omega (arith, same, is.bounded.size) in
    false≢true (sym c.if-not-is_bounded.true ∙ c.is_bounded.ensures.1 (bytes, within))

pub returns : goal.returns
unfolding values_of
returns c =
    let size = c.in_ok-size.ensures in
    let label = c.in_ok-label.ensures in
    let tag = c.in_ok-tag.ensures in
    let modified = c.in_ok-modified.ensures in
    let checked = c.in_ok-checked.ensures in
    let mark = c.in_ok-mark.ensures in
    let within = c.is_bounded.ensures.0 c.if-not-is_bounded.false in (
      record {
        typed = record { path = c.requires.path; label = label.0; tag = tag.1; checked = checked.0; mark = mark.0 };
        bounded = record { label = label.1; size = within.0; modified = within.1 };
      },
      values_same _ _ c.requires.same (sym label.2) (sym size.1) tag.0 modified.1 (sym checked.1) mark.1,
    )

use Rattle.std.proofs.Common.{◌≡◌, ◌+◌, ◌-◌, ◌++◌, sym, ap, ◌∙◌, take, drop, get_or, arith, append_assoc}
use Rattle.acng_base.proofs.Ranges.{rest_is_drop}
use Rattle.acng_report.specs.Pages.{escaped_byte, escaped}
use Rattle.acng_report.proofs.Escapes.{escaped_step, escaped_last}
use Rattle.acng_report.proofs.escape.push_escaped.Goals as goal

pub entity-requires : goal.entity-requires
entity-requires c =
    let s = escaped_step c.args.text.now c.loop-len.start c.in-Some.len c.loop-len.invariant.within (sym c.in-Some.ensures) in
    s.1

pub loop-len-preserved : goal.loop-len-preserved
loop-len-preserved c =
    let text = c.args.text.now in
    let start = c.loop-len.start in
    let len = c.in-Some.len in
    let page = c.loop-len.page.items in
    let piece = take len (drop start text) in
    let written = escaped_byte (get_or text (start + len) 0) in
    let rest = escaped (drop (start + (len + 1)) text) in
    let s = escaped_step text start len c.loop-len.invariant.within (sym c.in-Some.ensures) in
    let k : (start + len) - start ≡ len = omega arith in
    let copied = c.in_ok-extend_from_slice.ensures.items ∙ ap (λ j. page ++ take j (drop start text)) k in
    let pushed = c.in_ok-extend_from_slice-2.ensures.items ∙ ap (λ t. c.extend_from_slice.new.self.items ++ t) c.entity.ensures
    ∙ ap (λ t. t ++ written) copied in
    record {
      within = s.0;
      same = c.loop-len.invariant.same ∙ ap (λ t. page ++ t) s.2 ∙ sym (append_assoc page piece (written ++ rest))
          ∙ sym (append_assoc (page ++ piece) written rest) ∙ ap (λ t. t ++ rest) (sym pushed);
    }

pub returns : goal.returns
returns c =
    let text = c.args.text.now in
    let start = c.loop-len.start in
    let page = c.loop-len.page.items in
    c.in_ok-extend_from_slice-3.ensures.items ∙ ap (λ t. page ++ t) (rest_is_drop start text)
    ∙ sym (c.loop-len.invariant.same ∙ ap (λ t. page ++ t) (escaped_last text start (sym c.in_default.ensures)))

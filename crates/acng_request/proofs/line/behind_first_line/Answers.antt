-- The lines from a place on are those of the text, but for empty ones before its first.
use Rattle.std.proofs.Common.{◌≡◌, ◌+◌, sym, ap, ◌∙◌, true, false}
use Rattle.acng_base.specs.Lines.{lines}
use Rattle.acng_base.proofs.Ranges.{rest_is_drop}
use Rattle.acng_request.specs.RequestHeads.{before_empty, inner_lines}
use Rattle.acng_request.proofs.LineLemmas.{at_empty, lines_step, lines_last, inner_skips, inner_stops}
use Rattle.acng_request.proofs.line.behind_first_line.Goals as goal

pub loop-len-preserved : goal.loop-len-preserved
loop-len-preserved c =
    let text = c.args.block.now in
    let start = c.loop-len.start in
    let len = c.in-Some.len in
    let within = c.loop-len.invariant.within in
    let found = sym c.in-Some.ensures in
    let is : at_empty text start len ≡ true = sym c.is_empty_line.ensures ∙ c.if-not-is_empty_line.false in
    record {
      within = (lines_step text start len within found).0;
      same = c.loop-len.invariant.same ∙ inner_skips text start len within found is;
    }

pub returns-then-not-is_empty_line : goal.returns-then-not-is_empty_line
returns-then-not-is_empty_line c =
    let text = c.args.block.now in
    let start = c.loop-len.start in
    let len = c.in-Some.len in
    let is : at_empty text start len ≡ false = sym c.is_empty_line.ensures ∙ c.if-not-is_empty_line.true in
    ap (λ t. before_empty (lines t)) (rest_is_drop (start + (len + 1)) text)
    ∙ sym (c.loop-len.invariant.same ∙ inner_stops text start len c.loop-len.invariant.within (sym c.in-Some.ensures) is)

pub returns : goal.returns
returns c = sym (c.loop-len.invariant.same ∙ ap inner_lines (lines_last c.args.block.now c.loop-len.start (sym c.in_default.ensures)))

-- So many lines were counted, and the rest stands from the place on.
use Rattle.std.proofs.Common.{◌≡◌, sym, ap, ◌∙◌, true, false, arith}
use Rattle.acng_request.specs.RequestHeads.{before_empty}
use Rattle.acng_request.proofs.LineLemmas.{at_empty, lines_step, lines_last, before_stops, before_counts}
use Rattle.acng_request.proofs.line.count_lines.Goals as goal

pub loop-len-preserved : goal.loop-len-preserved
loop-len-preserved c =
    let text = c.args.text.now in
    let start = c.loop-len.start in
    let len = c.in-Some.len in
    let inv = c.loop-len.invariant in
    let found = sym c.in-Some.ensures in
    let is : at_empty text start len ≡ false = sym c.is_empty_line.ensures ∙ c.if-is_empty_line.false in
    let counts = before_counts text start len inv.within found is in
    record {
      within = (lines_step text start len inv.within found).0;
      few = omega (arith, inv.few);
      same = omega (arith, inv.same, counts);
    }

pub returns-then-is_empty_line : goal.returns-then-is_empty_line
returns-then-is_empty_line c =
    let text = c.args.text.now in
    let start = c.loop-len.start in
    let is : at_empty text start c.in-Some.len ≡ true = sym c.is_empty_line.ensures ∙ c.if-is_empty_line.true in
    let stops = before_stops text start c.in-Some.len c.loop-len.invariant.within (sym c.in-Some.ensures) is in
    omega (arith, c.loop-len.invariant.same, stops)

pub returns : goal.returns
returns c =
    let last = ap before_empty (lines_last c.args.text.now c.loop-len.start (sym c.in_default.ensures)) in
    omega (arith, c.loop-len.invariant.same, last)

use Rattle.std.proofs.Common.{◌≡◌, ◌+◌, ◌-◌, List, ℕ, Ok, Err, Result, cond, length, take, drop, arith, sym, ap, ◌∙◌, subst}
use Rattle.acng_base.proofs.Ranges.{rest_is_drop}
use Rattle.acng_base.specs.Cuts.{pieces, without_cr}
use Rattle.acng_conf.specs.Settings.{Settings}
use Rattle.acng_conf.specs.Readings.{and_then, at_line, after_line, after_lines, GivesAt}
use Rattle.acng_conf.specs.declared.fault.ConfCause.TheVariants.{TooLong}
use Rattle.acng_conf.specs.declared.fault.ConfFault.{ConfFault}
use Rattle.acng_conf.proofs.LineSteps.{lines_step, lines_last}
use Rattle.acng_conf.proofs.read.read_text.Goals as goal

pub returns-in-Err : goal.returns-in-Err
returns-in-Err c = λ real.
    let a = c.args in
    let text = a.text.now in
    let start = c.loop-len.start in
    let len = c.in-Some.len in
    let n = c.loop-len.line in
    let s = lines_step a.over a.lists.now n c.loop-len.conf text start len c.loop-len.invariant.within (sym c.in-Some.ensures) in
    let k : (start + len) - start ≡ len = omega arith in
    let line : c.without_cr.result.now ≡ without_cr (take len (drop start text)) = c.without_cr.ensures ∙ ap (λ j. without_cr (take j (drop start text))) k in
    let step : at_line n (after_line a.lists.now n c.loop-len.conf (without_cr (take len (drop start text)))) ≡ Err c.in-Err.fault =
    ap (λ t. at_line n (after_line a.lists.now n c.loop-len.conf t)) (sym line) ∙ c.in-Err.ensures real in
    c.loop-len.invariant.same ∙ s.1 ∙ ap (λ (r : Result Settings ConfFault). and_then r (λ t. after_lines a.over a.lists.now (n + 1) t (pieces (drop (start + (len + 1)) text)))) step

pub loop-len-preserved : goal.loop-len-preserved
loop-len-preserved c =
    let a = c.args in
    let text = a.text.now in
    let start = c.loop-len.start in
    let len = c.in-Some.len in
    let n = c.loop-len.line in
    let s = lines_step a.over a.lists.now n c.loop-len.conf text start len c.loop-len.invariant.within (sym c.in-Some.ensures) in
    let k : (start + len) - start ≡ len = omega arith in
    let line : c.without_cr.result.now ≡ without_cr (take len (drop start text)) = c.without_cr.ensures ∙ ap (λ j. without_cr (take j (drop start text))) k in
    let step : at_line n (after_line a.lists.now n c.loop-len.conf (without_cr (take len (drop start text)))) ≡ Ok c.in-Ok.next =
    ap (λ t. at_line n (after_line a.lists.now n c.loop-len.conf t)) (sym line) ∙ c.in-Ok.ensures in
    record {
      within = s.0;
      small = c.loop-len.invariant.small;
      few = omega arith;
      same = c.loop-len.invariant.same ∙ s.1 ∙ ap (λ (r : Result Settings ConfFault). and_then r (λ t. after_lines a.over a.lists.now (n + 1) t (pieces (drop (start + (len + 1)) text)))) step;
    }

pub returns : goal.returns
returns c =
    let a = c.args in
    let text = a.text.now in
    let start = c.loop-len.start in
    let n = c.loop-len.line in
    let same : at_line n (cond a.over (Err TooLong) (after_line a.lists.now n c.loop-len.conf (take (length text - start) (drop start text)))) ≡ after_lines a.over a.lists.now 1 a.conf (pieces text) =
    ap (λ (t : List ℕ). at_line n (cond a.over (Err TooLong) (after_line a.lists.now n c.loop-len.conf t))) (rest_is_drop start text)
    ∙ sym (c.loop-len.invariant.same ∙ lines_last a.over a.lists.now n c.loop-len.conf text start (sym c.in_default.ensures)) in
    subst (λ (e : Result Settings ConfFault). GivesAt e c.read_last.result) same c.read_last.ensures

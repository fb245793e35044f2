use Rattle.std.proofs.Common.{◌≡◌, ℕ, ◌+◌, ◌-◌, List, ◌++◌, Ok, Err, take, drop, sym, ap, ◌∙◌, subst, arith}
use Rattle.std.proofs.lemmas.Grind.{common_steps}
use Rattle.acng_base.proofs.Ranges.{rest_is_drop}
use Rattle.acng_index.specs.Texts.{and_then}
use Rattle.acng_index.specs.Releases.{line_entries}
use Rattle.acng_index.proofs.Entries.{left, line_added, line_refused, last_added, last_refused}
use Rattle.acng_index.proofs.entry.read_entries.Goals as goal

pub returns-in-Err : goal.returns-in-Err
returns-in-Err c = λ real.
    let text = c.args.value.now in
    let start = c.loop-len.start in
    let len = c.in-Some.len in
    let line = c.loop-len.line in
    let size : start + len - start ≡ len = omega arith in
    let refused : line_entries line (take len (drop start text)) ≡ Err c.in-Err.fault =
    subst (λ j. line_entries line (take j (drop start text)) ≡ Err c.in-Err.fault) size (c.in-Err.ensures real) in
    c.loop-len.invariant.same
    ∙ line_refused line len start text c.loop-len.entries.items c.in-Err.fault c.loop-len.invariant.within (sym c.in-Some.ensures) refused

pub loop-len-preserved : goal.loop-len-preserved
loop-len-preserved c =
    let text = c.args.value.now in
    let start = c.loop-len.start in
    let len = c.in-Some.len in
    let line = c.loop-len.line in
    let old = c.loop-len.entries.items in
    let new = c.add_line.new.entries.items in
    let size : start + len - start ≡ len = omega arith in
    let added : and_then (line_entries line (take len (drop start text))) (λ es. Ok (old ++ es)) ≡ Ok new =
    subst (λ j. and_then (line_entries line (take j (drop start text))) (λ es. Ok (old ++ es))
    ≡ Ok new) size c.in_default-add_line.ensures in
    let step = line_added line len start text old new c.loop-len.invariant.within (sym c.in-Some.ensures) added in
    let next : line + 1 ≡ c.in-Some-checked_add.next = grind (arith, common_steps) in
    record {
      within = step.0;
      same = c.loop-len.invariant.same ∙ step.1 ∙ ap (λ n. left n (drop (start + (len + 1)) text) new) next;
    }

pub returns-in-Ok : goal.returns-in-Ok
returns-in-Ok c =
    let text = c.args.value.now in
    let start = c.loop-len.start in
    let line = c.loop-len.line in
    let old = c.loop-len.entries.items in
    let new = c.add_line-2.new.entries.items in
    let added : and_then (line_entries line (drop start text)) (λ es. Ok (old ++ es)) ≡ Ok new =
    subst (λ (t : List ℕ). and_then (line_entries line t) (λ es. Ok (old ++ es)) ≡ Ok new) (rest_is_drop start text) c.in-Ok.ensures in
    c.loop-len.invariant.same ∙ last_added line start text old new (sym c.in_default.ensures) added

pub returns-in-Err-add_line : goal.returns-in-Err-add_line
returns-in-Err-add_line c = λ real.
    let text = c.args.value.now in
    let start = c.loop-len.start in
    let line = c.loop-len.line in
    let fault = c.in-Err-add_line.fault in
    let refused : line_entries line (drop start text) ≡ Err fault =
    subst (λ (t : List ℕ). line_entries line t ≡ Err fault) (rest_is_drop start text) (c.in-Err-add_line.ensures real) in
    c.loop-len.invariant.same ∙ last_refused line start text c.loop-len.entries.items fault (sym c.in_default.ensures) refused

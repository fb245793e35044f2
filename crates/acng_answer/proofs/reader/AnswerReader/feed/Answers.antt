-- A stage takes a part of the piece, as many bytes as may come before the limit; where none may, the next is bad.
use Rattle.std.proofs.Common.{rules, subst, arith, sym, ap, ◌∙◌, ◌≡◌, ◌≤◌, ◌+◌, ◌-◌, ℕ, List, Bool, length, take, ◌++◌, [], false, refl}
use Rattle.std.proofs.lemmas.List.{length-take, length-append}
use Rattle.std.proofs.lemmas.Bool.{le-leb}
use borrow.Author.Tests.{eqb-true}
use Rattle.acng_base.specs.Answers.{Reading, within, nothing, Open, Bad}
use Rattle.acng_answer.specs.declared.stage.Stage.TheVariants.{Ended}
use Rattle.acng_answer.specs.Stages.{staged, outcome_of, Fits, due_at}
use Rattle.acng_answer.specs.Reader.{Tells, Stops, rest, Counts, due, step_of}
use Rattle.acng_answer.proofs.LimitLemmas.{limited, limit_reached, ended_within}
use Rattle.acng_answer.proofs.EndLemmas.{stage_open, rest_open, not_over, over_is, ended_counts}
use Rattle.acng_answer.proofs.reader.AnswerReader.feed.Goals as goal

pub returns-in-Ended-clause-over : goal.returns-in-Ended-clause-over
returns-in-Ended-clause-over c = λ step over.
    let s = c.self.inside in
    let t = le-leb 0 (s.limit - s.at) (omega arith) in
    let none : rest c.args.self.now false [] ≡ nothing (outcome_of c.in-Ended.end) =
    subst (λ v. rest v false [] ≡ nothing (outcome_of c.in-Ended.end)) c.self.view_is (rw (t, c.in-Ended.is) refl) in
    (ap (λ s. (0, s)) (c.step.ensures ∙ over_is c.in-Ended.end step (subst (Stops step) none (over false []))), search rules)

pub returns-then-is_empty-clause-tells : goal.returns-then-is_empty-clause-tells
returns-then-is_empty-clause-tells c =
    let s = c.self.inside in
    let piece = c.args.piece.now in
    let left : ℕ = s.limit - s.at in
    let empty : length c.first_bytes-part.result.now ≡ 0 = eqb-true _ _ (sym c.if-is_empty.ensures) in
    let size = ap length c.first_bytes-part.ensures ∙ length-take left piece in
    let none : left ≡ 0 = omega arith in
    let live = stage_open s.stage s.held.items s.at c.self.invariant.fits c.in_default.not-Ended in
    λ ended more. (
      subst (λ v. rest v ended (piece ++ more) ≡ nothing (Bad s.limit)) c.self.view_is
          (limit_reached left s.limit (staged s.stage s.held.items s.at) ended (piece ++ more) none (let size = length-append piece more in omega arith) live),
      ended_within (Bad s.limit) left s.limit (λ _ _. nothing (Bad s.limit)) (record { kept = λ _. refl }) (λ _ _. refl) ended more,
    )

pub returns-then-is_empty-clause-over : goal.returns-then-is_empty-clause-over
returns-then-is_empty-clause-over c = λ step over.
    let s = c.self.inside in
    let live = subst (λ v. rest v false [] ≡ nothing Open) c.self.view_is (rest_open (s.limit - s.at) s.limit s.stage s.held.items s.at c.self.invariant.fits c.in_default.not-Ended) in
    absurd (not_over step (subst (Stops step) live (over false [])))

pub returns-clause-tells : goal.returns-clause-tells
returns-clause-tells c =
    let s = c.self.inside in
    let piece = c.args.piece.now in
    let left : ℕ = s.limit - s.at in
    let r = c.stage_step-used.result in
    let head = c.stage_step-used.new.head in
    let location = c.stage_step-used.new.location in
    let old : Bool → List ℕ → Reading = staged s.stage s.held.items s.at in
    let new : Bool → List ℕ → Reading = staged r.2 c.stage_step-used.new.held.items (s.at + r.0) in
    let step = subst (λ p. Tells r.1 r.0 p head location old new) c.first_bytes-part.ensures c.stage_step-used.ensures.tells in
    let fits : r.0 ≤ length (take left piece) = subst (λ (p : List ℕ). r.0 ≤ length p) c.first_bytes-part.ensures c.stage_step-used.ensures.used in
    let place : left - r.0 ≡ s.limit - (s.at + r.0) = omega arith in
    subst (λ v. Tells r.1 r.0 piece head location (rest v) (within (s.limit - (s.at + r.0)) s.limit new)) c.self.view_is
    (subst (λ k. Tells r.1 r.0 piece head location (within left s.limit old) (within k s.limit new)) place (limited left s.limit r.0 piece old new fits head location r.1 step))

pub returns-clause-over : goal.returns-clause-over
returns-clause-over c = λ step over.
    let s = c.self.inside in
    let live = subst (λ v. rest v false [] ≡ nothing Open) c.self.view_is (rest_open (s.limit - s.at) s.limit s.stage s.held.items s.at c.self.invariant.fits c.in_default.not-Ended) in
    absurd (not_over step (subst (Stops step) live (over false [])))

pub returns-in-Ended-clause-due : goal.returns-in-Ended-clause-due
returns-in-Ended-clause-due c =
    let s = c.self.inside in
    let end = c.in-Ended.end in
    let fits : Fits (Ended end c.in-Ended.due) s.held.items s.at = subst (λ st. Fits st s.held.items s.at) c.in-Ended.is c.self.invariant.fits in
    let law : Counts (step_of end) s.head (due_at s.stage) (due_at s.stage) = subst (λ st. Counts (step_of end) s.head (due_at st) (due_at st)) (sym c.in-Ended.is) (ended_counts end c.in-Ended.due s.head fits) in
    rw c.step.ensures (subst (λ v. Counts (step_of end) v.head (due v) (due v)) c.self.view_is law)

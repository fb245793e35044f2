use Rattle.std.proofs.Common.{◌≡◌, ℕ, ◌≤◌, ◌<◌, ◌^◌, ◌∷◌, ◌++◌, List, decimal, sym, ◌∙◌, arith}
use Rattle.std.proofs.lemmas.Fmt.{decimal_injective}
use Rattle.acng_head.specs.Records.{Lacks}
use Rattle.acng_head.proofs.Cuts.{cut_same}
use Rattle.acng_head.proofs.Numbers.{Lacks-decimal}
use Rattle.acng_head.proofs.values.attempts.Goals as goal
use Rattle.acng_head.proofs.values.attempts.Goals.{else-first-last-via-then-first-last+else-last, else-first-last-via-else-first-last}

-- the two parts are the digits of the two attempts
parts : (text v w : List ℕ) (first last : ℕ) → Lacks 32 v → text ≡ v ++ 32 ∷ w → first ≤ last → last < 2 ^ 63
    → text ≡ decimal first ++ 32 ∷ decimal last → (v ≡ decimal first) × (w ≡ decimal last)
parts text v w first last lacks t ordered small e =
    cut_same 32 v (decimal first) w (decimal last) lacks (Lacks-decimal 32 first (omega arith) (omega arith)) (sym t ∙ e)

pub returns-in_err-first-2 : goal.returns-in_err-first-2
returns-in_err-first-2 c = rw c.from_residual-in_err-first-2.ensures (λ first last ordered small e.
    let cut = c.in_ok-first in
    let p = parts c.args.text.now cut.first.now cut.last.now first last cut.ensures.0 cut.ensures.1 ordered small e in
    c.in_err-first-2.ensures first (omega arith) p.0)

pub returns-in_err-last : goal.returns-in_err-last
returns-in_err-last c = rw c.from_residual-in_err-last.ensures (λ first last ordered small e.
    let cut = c.in_ok-first in
    let p = parts c.args.text.now cut.first.now cut.last.now first last cut.ensures.0 cut.ensures.1 ordered small e in
    c.in_err-last.ensures last (omega arith) p.1)

pub returns-else-first-last : goal.returns-else-first-last
returns-else-first-last c = λ first last ordered small e.
    let cut = c.in_ok-first in
    let p = parts c.args.text.now cut.first.now cut.last.now first last cut.ensures.0 cut.ensures.1 ordered small e in
    let a = c.in_ok-first-2.ensures in
    let b = c.in_ok-last.ensures in
    let f : c.in_ok-first-2.first ≡ first = decimal_injective _ _ a.0 (omega arith) (sym a.1 ∙ p.0) in
    let l : c.in_ok-last.last ≡ last = decimal_injective _ _ b.0 (omega arith) (sym b.1 ∙ p.1) in
    elim c.else-first-last.branch [
      | else-first-last-via-then-first-last+else-last w ↦ omega arith
      | else-first-last-via-else-first-last w ↦ omega arith
    ]

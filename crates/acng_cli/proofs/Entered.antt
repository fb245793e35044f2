-- An import leaves a desk of which no ticket is out.
use Rattle.std.proofs.Common.{◌≡◌, ℕ, ◌+◌, Bool, true, false, List, [], ◌∷◌, cond, refl, sym, subst, ◌∙◌}
use Rattle.acng_rows.specs.Rows.{out_at}
use Rattle.acng_rows.specs.declared.row.Whole.{Whole}
use Rattle.acng_rows.proofs.Wholes.{same_outs}
use Rattle.acng_desk.specs.House.{Plain}
use Rattle.acng_desk.specs.Commands.{Command, Begin, Settle, SetMark, Remove, NewBody, PutImport, Look, step, steps, put_in}
use Rattle.acng_desk.specs.Keeps.{IsIdle}
use Rattle.acng_import.specs.Steps.{May, IsEntering, AreEntering, OnlyEnters}

-- a new body changes no row
made_out : (b : Bool) (p : Plain) (q : List ℕ) → out_at (cond b p (record p { next_id = p.next_id + 1 })).rows q ≡ out_at p.rows q
made_out true p q = refl
made_out false p q = refl

-- a file that enters leaves a ticket as it is
put_out : (b : Bool) (p : Plain) (path : List ℕ) (w : Whole) (q : List ℕ) → out_at (cond b p (put_in path w p)).rows q ≡ out_at p.rows q
put_out true p path w q = refl
put_out false p path w q = same_outs p.rows path _ refl q

step_out : (may : May) (c : Command) (p : Plain) → IsEntering may c → (q : List ℕ) → out_at (step c p).rows q ≡ out_at p.rows q
step_out may (Begin path class now) p is q = absurd is
step_out may (Settle ticket body) p is q = absurd is
step_out may (SetMark path mark) p is q = absurd is
step_out may (Remove path) p is q = absurd is
step_out may NewBody p is q = made_out _ p q
step_out may (PutImport path id hash size now) p is q = put_out _ p path _ q
step_out may Look p is q = absurd is

steps_out : (may : May) (cs : List Command) (p : Plain) → AreEntering may cs → (q : List ℕ) → out_at (steps cs p).rows q ≡ out_at p.rows q
steps_out may [] p each q = refl
steps_out may (c ∷ cs) p each q = steps_out may cs (step c p) each.1 q ∙ step_out may c p each.0 q

pub entered_idle : (may : May) (old new : Plain) → OnlyEnters may old new → IsIdle old → IsIdle new
entered_idle may old new h idle = subst IsIdle (sym h.made) (record { each = λ q. steps_out may h.calls old h.each q ∙ idle.each q })

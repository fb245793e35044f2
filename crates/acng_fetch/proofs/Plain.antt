-- Which line of the table decides.
use Rattle.std.proofs.Common.{◌≡◌, ◌≢◌, ℕ, false, sym, subst, ◌∙◌, if◌then◌else◌}
use Rattle.std.proofs.lemmas.Bool.{ne_eqb, cond-false}
use Rattle.acng_site.specs.declared.place.Place.{Place}
use Rattle.acng_site.specs.Places.{is_redirect}
use Rattle.acng_answer.specs.declared.step.AnswerHead.{AnswerHead}
use Rattle.acng_grow.specs.Effects.{Errand}
use Rattle.acng_grow.specs.Download.{Verdict, Begins, redirect_to, other_status}
use Rattle.acng_fetch.specs.declared.decision.Decision.{Decision}
use Rattle.acng_fetch.specs.Decisions.{IsVerdict, plain_told}

pub plain_other : {P Q : Type 0} (number : P → ℕ) (call : Q → ℕ) (e : Errand) (n followed : ℕ) (h : AnswerHead) (at : Place)
    (d : Decision P Q) → h.status ≢ 200 → is_redirect h.status ≡ false → IsVerdict number call e n h followed (other_status n h.status) d
    → IsVerdict number call e n h followed (plain_told e n followed h at) d
plain_other number call e n followed h at d k l v =
    let redirected = redirect_to n e h.status followed at in
    let other = other_status n h.status in
    subst (λ (w : Verdict). IsVerdict number call e n h followed w d)
    (sym (cond-false _ Begins (if is_redirect h.status then redirected else other) (ne_eqb h.status 200 k)
    ∙ cond-false _ redirected other l)) v

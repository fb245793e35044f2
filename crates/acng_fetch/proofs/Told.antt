-- What is told of a head decides as the head does.
use Rattle.std.proofs.Common.{◌≡◌, ℕ, List, Option, Some, None, refl, ap, sym, ◌∙◌}
use Rattle.acng_base.specs.Heads.{Head}
use Rattle.acng_base.specs.Fields.{location_of}
use Rattle.acng_base.specs.Answers.{Outcome, Reading, after_head}
use Rattle.acng_site.specs.Places.{place_of}
use Rattle.acng_answer.specs.Blocks.{answer_head}
use Rattle.acng_answer.specs.declared.step.AnswerHead.{AnswerHead}
use Rattle.acng_grow.specs.Effects.{Errand, Part}
use Rattle.acng_grow.specs.Download.{Stand, Asking, Going, Verdict, Begins, GoesOn, Stays, Follows, Passes}
use Rattle.acng_grow.specs.Download.{verdict, decides, headed, turn}
use Rattle.acng_fetch.specs.Decisions.{verdict_told, decides_told, headed_told}

module _ (e : Errand) (n : ℕ) (h : Head) where
  verdict_same : (ranged : Option Part) (url : List ℕ) (followed : ℕ)
      → verdict_told e n ranged url followed (answer_head h) (place_of url (location_of h)) ≡ verdict e n ranged url followed h
  verdict_same None url followed = refl
  verdict_same (Some part) url followed = refl

  decides_same : (ranged : Option Part) (url : List ℕ) (rest : List (List ℕ)) (followed : ℕ) (body : List ℕ) (outcome : Outcome)
      (v : Verdict) → decides_told n ranged url rest followed (answer_head h) body outcome v
      ≡ decides n ranged url rest followed h body outcome v
  decides_same ranged url rest followed body outcome Begins = refl
  decides_same ranged url rest followed body outcome (GoesOn part) = refl
  decides_same ranged url rest followed body outcome Stays = refl
  decides_same ranged url rest followed body outcome (Follows to) = refl
  decides_same ranged url rest followed body outcome (Passes cause) = refl

  headed_same : (stand : Stand) (body : List ℕ) (outcome : Outcome)
      → headed_told e n stand (answer_head h) (location_of h) body outcome ≡ headed e n stand h body outcome
  headed_same (Asking last ranged url rest followed) body outcome =
      decides_same ranged url rest followed body outcome
      (verdict_told e n ranged url followed (answer_head h) (place_of url (location_of h)))
      ∙ ap (decides n ranged url rest followed h body outcome) (verdict_same ranged url followed)
  headed_same (Going url facts held kept) body outcome = refl

-- the turn of a reading that begins with a head
pub turn_headed : (e : Errand) (n : ℕ) (stand : Stand) (h : Head) (told : AnswerHead) (location : Option (List ℕ)) (old now : Reading)
    → told ≡ answer_head h → location ≡ location_of h → old ≡ after_head h now
    → turn e n stand old ≡ headed_told e n stand told location now.body now.outcome
turn_headed e n stand h told location old now is at left =
    ap (turn e n stand) left ∙ sym (headed_same e n h stand now.body now.outcome)
    ∙ ap (λ t. headed_told e n stand t (location_of h) now.body now.outcome) (sym is)
    ∙ ap (λ x. headed_told e n stand told x now.body now.outcome) (sym at)

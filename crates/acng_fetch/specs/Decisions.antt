-- What is decided by what is told of a head, before the body opens.
use Rattle.std.specs.Prelude.{◌≡◌, ◌<◌, ◌+◌, ℕ, Bool, true, ◌&&◌, ◌==◌, if◌then◌else◌, cond, bytes_eq, is_some, List, Option, Some, None}
use Rattle.acng_base.specs.Answers.{Outcome}
use Rattle.acng_site.specs.declared.place.Place.{Place}
use Rattle.acng_site.specs.Places.{is_redirect, place_of}
use Rattle.acng_answer.specs.declared.step.AnswerHead.{AnswerHead}
use Rattle.acng_grow.specs.declared.facts.Facts.{Facts}
use Rattle.acng_grow.specs.declared.why.Shown.TheVariants as shown
use Rattle.acng_grow.specs.Causes.{shown_of, may_refuse, named}
use Rattle.acng_grow.specs.Effects.{Errand, Part, Old, Start, GoOn, Resume, Same, Cut}
use Rattle.acng_grow.specs.Download.{Stand, Asking, Going, Turn, Verdict, Begins, GoesOn, Stays, Follows, Passes, since_of, is_rest}
use Rattle.acng_grow.specs.Download.{other_status, redirect_to, led_by, ends_with, goes_to, next_origin, flows}
use Rattle.acng_fetch.specs.declared.decision.Decision.{Decision}
use Rattle.acng_fetch.specs.declared.decision.Decision.TheVariants as decision

-- ---- the download's table, by what is told of a head

abbrev pub facts_told : AnswerHead → Facts
facts_told h = record { total = cond (h.status == 200) h.length None; modified = h.modified; tag = h.tag }

abbrev pub plain_told : Errand → ℕ → ℕ → AnswerHead → Place → Verdict
plain_told e n followed h at =
    if h.status == 200 then Begins
    else if is_redirect h.status then redirect_to n e h.status followed at
    else other_status n h.status

-- a 206 to the ask with a tag at the partial body's own URL, for the rest of it
abbrev pub continues_told : Part → List ℕ → AnswerHead → Bool
continues_told part url h =
    (h.status == 206) && is_some part.facts.tag && bytes_eq url part.url && is_rest part.size part.facts.total h.range

abbrev pub verdict_told : Errand → ℕ → Option Part → List ℕ → ℕ → AnswerHead → Place → Verdict
verdict_told e n None url followed h at = if (h.status == 304) && is_some (since_of e) then Stays else plain_told e n followed h at
verdict_told e n (Some part) url followed h at = if continues_told part url h then GoesOn part else plain_told e n followed h at

abbrev pub decides_told : ℕ → Option Part → List ℕ → List (List ℕ) → ℕ → AnswerHead → List ℕ → Outcome → Verdict → Turn
decides_told n ranged url rest followed h body outcome Begins =
    led_by (Start n url (facts_told h)) (flows n url (facts_told h) 0 body outcome)
decides_told n ranged url rest followed h body outcome (GoesOn part) =
    led_by (GoOn n) (flows n part.url part.facts part.size body outcome)
decides_told n ranged url rest followed h body outcome Stays = ends_with Same
decides_told n ranged url rest followed h body outcome (Follows to) =
    goes_to (Asking (Some (shown.Redirects n)) ranged to rest (followed + 1))
decides_told n ranged url rest followed h body outcome (Passes cause) = next_origin cause rest followed

abbrev pub headed_told : Errand → ℕ → Stand → AnswerHead → Option (List ℕ) → List ℕ → Outcome → Turn
headed_told e n (Asking last ranged url rest followed) h location body outcome =
    decides_told n ranged url rest followed h body outcome (verdict_told e n ranged url followed h (place_of url location))
headed_told e n (Going url facts held kept) h location body outcome =
    if (h.status == 206) && is_rest held facts.total h.range
    then led_by (Resume n) (flows n url facts held body outcome)
    else ends_with (Cut kept)

-- ---- the code's decision

-- it is the verdict, with what is needed of the head
abbrev pub IsVerdict : {P Q : Type 0} → (P → ℕ) → (Q → ℕ) → Errand → ℕ → AnswerHead → ℕ → Verdict → Decision P Q → Type 0
IsVerdict number call e n h followed v (decision.Begins facts) = (v ≡ Begins) × (facts ≡ facts_told h) × (h.status ≡ 200)
IsVerdict number call e n h followed v decision.GoesOn =
    (part : Part) × (e.part ≡ Some part) × (v ≡ GoesOn part) × (h.status ≡ 206) × (is_rest part.size part.facts.total h.range ≡ true)
IsVerdict number call e n h followed v decision.Stays = (old : Old) × (e.old ≡ Some old) × (v ≡ Stays) × (is_some (since_of e) ≡ true)
IsVerdict number call e n h followed v (decision.Follows url) = (v ≡ Follows url) × (followed < e.redir_max)
IsVerdict number call e n h followed v (decision.Passes w) =
    (v ≡ Passes (shown_of number call 0 w)) × (may_refuse (shown_of number call 0 w) ≡ true)
    × (named (shown_of number call 0 w) ≡ Some n)

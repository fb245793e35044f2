-- A download: the effects that it has on its body, as a function of whole readings. The order of asks and the table of
-- answers are this project's own.
use Rattle.std.specs.Prelude.{ℕ, zero, suc, ◌+◌, Bool, false, ◌&&◌, ◌==◌, nat_lt, if◌then◌else◌, bytes_eq}
use Rattle.std.specs.Prelude.{List, [], ◌∷◌, ◌++◌, length, Option, Some, None, is_some, option_and_then}
use Rattle.acng_base.specs.Heads.{Head}
use Rattle.acng_base.specs.Fields.{tag_of, modified_of, content_range, location_of}
use Rattle.acng_base.specs.Framings.{total_of}
use Rattle.acng_base.specs.Answers.{Reading, Outcome}
use Rattle.acng_base.specs.Answers.Outcome.{Whole, Early, Open, Bad}
use Rattle.acng_base.specs.declared.clock.Moment.{Moment}
use Rattle.acng_site.specs.declared.ask.Ask.{Ask}
use Rattle.acng_site.specs.declared.place.Place.{Place}
use Rattle.acng_site.specs.declared.place.Place.TheVariants.{Absent, Stray, Secure, At}
use Rattle.acng_site.specs.Places.{is_redirect, place_of}
use Rattle.acng_grow.specs.declared.facts.Facts.{Facts}
use Rattle.acng_grow.specs.declared.why.Shown.{Shown}
use Rattle.acng_grow.specs.declared.why.Shown.TheVariants as shown
use Rattle.acng_grow.specs.Causes.{is_gone}
use Rattle.acng_grow.specs.Effects.{Effect, Start, GoOn, Resume, Bytes, Finish, Same, Refuse, Cut, Part, Old, Errand}

-- where a download stands between two attempts: before the body opens, with the cause of the last attempt, what is asked
-- next (the partial body's rest, or all), the origins behind it and the redirects followed; or while it runs, after a slip
-- or an early end
pub data Stand : Type 0 where
  Asking : (last : Option Shown) (ranged : Option Part) (url : List ℕ) (rest : List (List ℕ)) (followed : ℕ) → Stand
  Going : (url : List ℕ) (facts : Facts) (held : ℕ) (kept : Shown) → Stand

-- what follows an attempt: nothing, or a further attempt, and the cause where none is left
pub data After : Type 0 where
  Done : After
  On : (stand : Stand) → After

-- the effects of one attempt and what follows
pub record Turn : Type 0 where
  pub effects : List Effect
  pub after : After

abbrev pub ends_with : Effect → Turn
ends_with x = record { effects = x ∷ []; after = Done }

abbrev pub goes_to : Stand → Turn
goes_to s = record { effects = []; after = On s }

abbrev pub led_by : Effect → Turn → Turn
led_by x t = record { effects = x ∷ t.effects; after = t.after }

-- the moment at which the old body was changed
abbrev pub since_of : Errand → Option Moment
since_of e = option_and_then (λ (old : Old). old.facts.modified) e.old

abbrev pub ask_of : Errand → Stand → Ask
ask_of e (Asking last None url rest followed) = record { url = url; from = 0; tag = None; since = since_of e }
ask_of e (Asking last (Some part) url rest followed) = record { url = url; from = part.size; tag = part.facts.tag; since = None }
ask_of e (Going url facts held kept) = record { url = url; from = held; tag = facts.tag; since = None }

-- the next origin, or the end where there is none
abbrev pub next_origin : Shown → List (List ℕ) → ℕ → Turn
next_origin cause [] followed = ends_with (Refuse cause)
next_origin cause (url ∷ rest) followed = goes_to (Asking (Some cause) None url rest followed)

-- ---- what a head decides before the body opens

pub data Verdict : Type 0 where
  Begins : Verdict
  GoesOn : (part : Part) → Verdict
  Stays : Verdict
  Follows : (url : List ℕ) → Verdict
  Passes : (cause : Shown) → Verdict

-- the range from a place to the end of a known total
abbrev pub is_rest : ℕ → Option ℕ → Option (ℕ × ℕ × ℕ) → Bool
is_rest from None range = false
is_rest from (Some total) None = false
is_rest from (Some total) (Some r) = (r.0 == from) && (r.1 + 1 == total) && (r.2 == total)

abbrev pub other_status : ℕ → ℕ → Verdict
other_status n status = if is_gone status then Passes (shown.Gone n) else Passes (shown.Status n status)

abbrev pub redirect_to : ℕ → Errand → ℕ → ℕ → Place → Verdict
redirect_to n e status followed Absent = Passes (shown.Status n status)
redirect_to n e status followed Stray = Passes (shown.Status n status)
redirect_to n e status followed Secure = Passes (shown.TlsRedirect n)
redirect_to n e status followed (At url) = if nat_lt followed e.redir_max then Follows url else Passes (shown.Redirects n)

-- the lines that every ask has
abbrev pub plain_verdict : Errand → ℕ → List ℕ → ℕ → Head → Verdict
plain_verdict e n url followed h =
    if h.status == 200 then Begins
    else if is_redirect h.status then redirect_to n e h.status followed (place_of url (location_of h))
    else other_status n h.status

-- a 206 continues the partial body where it was asked for with a tag at that body's own URL, and is its rest
abbrev pub continues : Part → List ℕ → Head → Bool
continues part url h =
    (h.status == 206) && is_some part.facts.tag && bytes_eq url part.url && is_rest part.size part.facts.total (content_range h)

-- a 304 counts only where the ask had a moment
abbrev pub verdict : Errand → ℕ → Option Part → List ℕ → ℕ → Head → Verdict
verdict e n None url followed h = if (h.status == 304) && is_some (since_of e) then Stays else plain_verdict e n url followed h
verdict e n (Some part) url followed h = if continues part url h then GoesOn part else plain_verdict e n url followed h

abbrev pub facts_of : Head → Facts
facts_of h = record { total = total_of h; modified = modified_of h; tag = tag_of h }

-- ---- the body behind a head

-- a slip or an early end of a running body
abbrev pub stops : Shown → List ℕ → Facts → ℕ → Turn
stops cause url facts held =
    if is_some facts.tag && is_some facts.total then goes_to (Going url facts held cause) else ends_with (Cut cause)

abbrev pub ends : ℕ → List ℕ → Facts → ℕ → Outcome → Turn
ends n url facts held Whole = ends_with Finish
ends n url facts held Early = stops (shown.Early n) url facts held
ends n url facts held Open = stops (shown.Origin n) url facts held
ends n url facts held (Bad at) = ends_with (Cut (shown.Bad n at))

-- the bytes, where there are some
abbrev pub led_by_bytes : List ℕ → Turn → Turn
led_by_bytes [] t = t
led_by_bytes (b ∷ bs) t = led_by (Bytes (b ∷ bs)) t

-- a body that is taken
abbrev pub flows : ℕ → List ℕ → Facts → ℕ → List ℕ → Outcome → Turn
flows n url facts held body outcome = led_by_bytes body (ends n url facts (held + length body) outcome)

-- ---- one attempt

-- what a whole head brings before the body opens, and the body behind it
abbrev pub decides : ℕ → Option Part → List ℕ → List (List ℕ) → ℕ → Head → List ℕ → Outcome → Verdict → Turn
decides n ranged url rest followed h body outcome Begins =
    led_by (Start n url (facts_of h)) (flows n url (facts_of h) 0 body outcome)
decides n ranged url rest followed h body outcome (GoesOn part) =
    led_by (GoOn n) (flows n part.url part.facts part.size body outcome)
decides n ranged url rest followed h body outcome Stays = ends_with Same
decides n ranged url rest followed h body outcome (Follows to) =
    goes_to (Asking (Some (shown.Redirects n)) ranged to rest (followed + 1))
decides n ranged url rest followed h body outcome (Passes cause) = next_origin cause rest followed

-- the cause of an attempt without a whole head
abbrev pub cause_of : ℕ → Outcome → Shown
cause_of n Whole = shown.Early n
cause_of n Early = shown.Early n
cause_of n Open = shown.Origin n
cause_of n (Bad at) = shown.Bad n at

abbrev pub headless : ℕ → Stand → Outcome → Turn
headless n (Asking last ranged url rest followed) outcome = next_origin (cause_of n outcome) rest followed
headless n (Going url facts held kept) (Bad at) = ends_with (Cut (shown.Bad n at))
headless n (Going url facts held kept) Whole = goes_to (Going url facts held (shown.Early n))
headless n (Going url facts held kept) Early = goes_to (Going url facts held (shown.Early n))
headless n (Going url facts held kept) Open = goes_to (Going url facts held (shown.Origin n))

abbrev pub headed : Errand → ℕ → Stand → Head → List ℕ → Outcome → Turn
headed e n (Asking last ranged url rest followed) h body outcome =
    decides n ranged url rest followed h body outcome (verdict e n ranged url followed h)
headed e n (Going url facts held kept) h body outcome =
    if (h.status == 206) && is_rest held facts.total (content_range h)
    then led_by (Resume n) (flows n url facts held body outcome)
    else ends_with (Cut kept)

abbrev pub turn_by : Errand → ℕ → Stand → Option Head → List ℕ → Outcome → Turn
turn_by e n s None body outcome = headless n s outcome
turn_by e n s (Some h) body outcome = headed e n s h body outcome

-- the effects of one attempt, from its whole reading
abbrev pub turn : Errand → ℕ → Stand → Reading → Turn
turn e n s r = turn_by e n s r.head r.body r.outcome

-- ---- all attempts

-- the end for want of a try
abbrev pub worn : Stand → List Effect
worn (Asking None ranged url rest followed) = []
worn (Asking (Some cause) ranged url rest followed) = Refuse cause ∷ []
worn (Going url facts held kept) = Cut kept ∷ []

-- the effects from here on, with so many tries left, the next of them with the number n
abbrev pub goes_on : (ℕ → Ask → Reading) → Errand → ℕ → ℕ → After → List Effect
goes_on read e tries n Done = []
goes_on read e zero n (On s) = worn s
goes_on read e (suc tries) n (On s) =
    let now = turn e n s (read n (ask_of e s)) in
    now.effects ++ goes_on read e tries (n + 1) now.after

-- the tries that no attempt was made with
abbrev pub left_of : (ℕ → Ask → Reading) → Errand → ℕ → ℕ → After → ℕ
left_of read e tries n Done = tries
left_of read e zero n (On s) = 0
left_of read e (suc tries) n (On s) = left_of read e tries (n + 1) (turn e n s (read n (ask_of e s))).after

-- where a download begins: with the partial body, where there is one
abbrev pub begins : List (List ℕ) → Option Part → After
begins [] None = Done
begins (url ∷ rest) None = On (Asking None None url rest 0)
begins origins (Some part) = On (Asking None (Some part) part.url origins 0)

-- the download with so many tries from the number n on
abbrev pub download : (ℕ → Ask → Reading) → Errand → ℕ → ℕ → List Effect
download read e tries n = goes_on read e tries n (begins e.origins e.part)

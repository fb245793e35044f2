-- Why a body ended, and when a cause is lawful.
use Rattle.std.specs.Prelude.{◌≡◌, ℕ, Bool, true, false, ◌||◌, ◌==◌, if◌then◌else◌, List, Option, None, Some, is_none, ⊤}
use Rattle.acng_base.specs.Heads.{Head}
use Rattle.acng_base.specs.Fields.{location_of}
use Rattle.acng_base.specs.Answers.Outcome.{Early as IsEarly, Bad as IsBad}
use Rattle.acng_site.specs.declared.ask.Ask.{Ask}
use Rattle.acng_site.specs.declared.place.Place.{Place}
use Rattle.acng_site.specs.declared.place.Place.TheVariants.{Absent, Stray, Secure, At}
use Rattle.acng_site.specs.declared.site.Site.{Ghosts as SiteGhosts}
use Rattle.acng_site.specs.Honest.{heard}
use Rattle.acng_site.specs.Places.{is_redirect, place_of}
use Rattle.acng_grow.specs.declared.why.Why.{Why}
use Rattle.acng_grow.specs.declared.why.Why.TheVariants as why
use Rattle.acng_grow.specs.declared.why.Shown.{Shown}
use Rattle.acng_grow.specs.declared.why.Shown.TheVariants as shown

-- a cause as it is shown, by what the slips name, and by the last attempt of the body's label
abbrev pub shown_of : {P Q : Type 0} → (P → ℕ) → (Q → ℕ) → ℕ → Why P Q → Shown
shown_of number call last (why.Origin p) = shown.Origin (number p)
shown_of number call last (why.Early n) = shown.Early n
shown_of number call last (why.Bad n at) = shown.Bad n at
shown_of number call last (why.Status n s) = shown.Status n s
shown_of number call last (why.TlsRedirect n) = shown.TlsRedirect n
shown_of number call last (why.Redirects n) = shown.Redirects n
shown_of number call last (why.Gone n) = shown.Gone n
shown_of number call last (why.Keeper q) = shown.Keeper (record { call = call q; attempt = last })
shown_of number call last why.NoMemory = shown.NoMemory

-- the attempt that a cause names
abbrev pub named : Shown → Option ℕ
named (shown.Origin n) = Some n
named (shown.Early n) = Some n
named (shown.Bad n at) = Some n
named (shown.Status n s) = Some n
named (shown.TlsRedirect n) = Some n
named (shown.Redirects n) = Some n
named (shown.Gone n) = Some n
named (shown.Keeper m) = Some m.attempt
named shown.NoMemory = None

-- a cause with which a running body is cut
abbrev pub may_cut : Shown → Bool
may_cut (shown.Origin n) = true
may_cut (shown.Early n) = true
may_cut (shown.Bad n at) = true
may_cut (shown.Status n s) = false
may_cut (shown.TlsRedirect n) = false
may_cut (shown.Redirects n) = false
may_cut (shown.Gone n) = false
may_cut (shown.Keeper m) = true
may_cut shown.NoMemory = true

-- a cause with which a body that didn't open is refused
abbrev pub may_refuse : Shown → Bool
may_refuse (shown.Origin n) = true
may_refuse (shown.Early n) = true
may_refuse (shown.Bad n at) = true
may_refuse (shown.Status n s) = true
may_refuse (shown.TlsRedirect n) = true
may_refuse (shown.Redirects n) = true
may_refuse (shown.Gone n) = true
may_refuse (shown.Keeper m) = false
may_refuse shown.NoMemory = true

-- ---- lawful causes

-- a status of files that are gone (RFC 9110, sections 15.5.5 and 15.5.11)
abbrev pub is_gone : ℕ → Bool
is_gone s = (s == 404) || (s == 410)

-- a Location that leads nowhere
abbrev pub is_nowhere : Place → Bool
is_nowhere Absent = true
is_nowhere Stray = true
is_nowhere Secure = false
is_nowhere (At url) = false

-- a head that brings nothing but its status: no 200, no 404 or 410, no redirect that leads somewhere, and no 304 to an
-- ask with a moment. A 206 may be passed over whatever the ask, since a partial body decides whether it is taken.
abbrev pub is_passed : Ask → Head → Bool
is_passed a h =
    if h.status == 200 then false
    else if is_gone h.status then false
    else if is_redirect h.status then is_nowhere (place_of a.url (location_of h))
    else if h.status == 304 then is_none a.since
    else true

-- the final head that the site gives to attempt n with an ask is so
pub record HasHead {S : Type 0} (s : SiteGhosts S) (n : ℕ) (a : Ask) (P : Head → Type 0) : Type 0 where
  pub head : Head
  pub is : (heard s n a).head ≡ Some head
  pub so : P head

-- the attempt with the ask says so
abbrev pub Says : {S : Type 0} → SiteGhosts S → Ask → Shown → Type 0
Says s a (shown.Origin n) = s.faulted n a ≡ true
Says s a (shown.Early n) = (heard s n a).outcome ≡ IsEarly
Says s a (shown.Bad n at) = (heard s n a).outcome ≡ IsBad at
Says s a (shown.Status n status) = HasHead s n a (λ h. (h.status ≡ status) × (is_passed a h ≡ true))
Says s a (shown.TlsRedirect n) =
    HasHead s n a (λ h. (is_redirect h.status ≡ true) × (place_of a.url (location_of h) ≡ Secure))
Says s a (shown.Redirects n) = HasHead s n a (λ h. is_redirect h.status ≡ true)
Says s a (shown.Gone n) = HasHead s n a (λ h. is_gone h.status ≡ true)
Says s a (shown.Keeper m) = ⊤
Says s a shown.NoMemory = ⊤

-- some ask of the attempt, at a place of the path's file, says so
pub record HasAsk {S : Type 0} (s : SiteGhosts S) (path : List ℕ) (cause : Shown) : Type 0 where
  pub ask : Ask
  pub place : s.serves ask.url path ≡ true
  pub says : Says s ask cause

abbrev pub IsLawful : {S : Type 0} → SiteGhosts S → List ℕ → Shown → Type 0
IsLawful s path (shown.Keeper m) = ⊤
IsLawful s path shown.NoMemory = ⊤
IsLawful s path cause = HasAsk s path cause

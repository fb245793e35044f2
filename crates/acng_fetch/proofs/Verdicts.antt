-- Which line of the table decides, and what it says of the head.
use Rattle.std.proofs.Common.{◌≡◌, ℕ, Bool, true, false, ◌&&◌, ◌==◌, nat_lt, List, Option, Some, None, IsSomeAnd, is_some, is_none}
use Rattle.std.proofs.Common.{bytes_eq, if◌then◌else◌, option_and_then, refl, ap, sym, subst, ◌∙◌}
use Rattle.std.proofs.lemmas.Bool.{eqb-true, false_from_ne_true}
use Rattle.std.specs.Prelude.{⊤}
use Rattle.acng_base.specs.Heads.{Head}
use Rattle.acng_base.specs.Fields.{content_range, location_of}
use Rattle.acng_site.specs.declared.ask.Ask.{Ask}
use Rattle.acng_site.specs.declared.place.Place.{Place}
use Rattle.acng_site.specs.declared.place.Place.TheVariants.{Absent, Stray, Secure, At}
use Rattle.acng_site.specs.declared.site.Site.{Ghosts as SiteGhosts}
use Rattle.acng_site.specs.Honest.{heard}
use Rattle.acng_site.specs.Places.{is_redirect, place_of}
use Rattle.acng_grow.specs.declared.why.Shown.{Shown}
use Rattle.acng_grow.specs.declared.why.Shown.TheVariants as shown
use Rattle.acng_grow.specs.Causes.{HasHead, is_gone, is_passed, is_nowhere}
use Rattle.acng_grow.specs.Effects.{Errand, Part, Old}
use Rattle.acng_grow.specs.Download.{Asking, ask_of, since_of, Begins, GoesOn, Stays, Follows, Passes, is_rest, other_status, redirect_to}
use Rattle.acng_grow.specs.Download.{plain_verdict, verdict}
use Rattle.acng_fetch.specs.Judges.{Judges}
use Rattle.acng_fetch.proofs.Tests.{by_test, both, neither, second_false, some_of, none_of, bytes_eq_true}

-- a redirect isn't 404 or 410
redirect_not_gone : (status : ℕ) → is_redirect status ≡ true → is_gone status ≡ false
redirect_not_gone status h =
    neither (status == 404) (status == 410)
    (false_from_ne_true (status == 404)
    (λ t. let k : is_redirect 404 ≡ true = subst (λ (x : ℕ). is_redirect x ≡ true) (eqb-true status 404 t) h in cc))
    (false_from_ne_true (status == 410)
    (λ t. let k : is_redirect 410 ≡ true = subst (λ (x : ℕ). is_redirect x ≡ true) (eqb-true status 410 t) h in cc))

-- a head whose line doesn't fit
module _ (a : Ask) (h : Head) where
  abbrev at_last : Bool
  at_last = if h.status == 304 then is_none a.since else true

  abbrev at_redirect : Bool
  at_redirect = if is_redirect h.status then is_nowhere (place_of a.url (location_of h)) else at_last

  passed : h.status == 200 ≡ false → is_gone h.status ≡ false
      → (is_redirect h.status ≡ true → is_nowhere (place_of a.url (location_of h)) ≡ true)
      → (h.status == 304 ≡ true → is_none a.since ≡ true) → is_passed a h ≡ true
  passed not_ok not_gone nowhere no_since =
      subst (λ (b : Bool). (if b then false else if is_gone h.status then false else at_redirect) ≡ true) (sym not_ok)
      (subst (λ (b : Bool). (if b then false else at_redirect) ≡ true) (sym not_gone)
      (by_test (λ (b : Bool). b ≡ true) (is_redirect h.status) (is_nowhere (place_of a.url (location_of h))) at_last nowhere
      (λ _. by_test (λ (b : Bool). b ≡ true) (h.status == 304) (is_none a.since) true no_since (λ _. refl))))

-- the head of an attempt's answer, at a place of the file
pub record Got {S : Type 0} (s : SiteGhosts S) (path : List ℕ) (n : ℕ) (a : Ask) (h : Head) : Type 0 where
  pub place : s.serves a.url path ≡ true
  pub is : (heard s n a).head ≡ Some h

module _ {S : Type 0} (s : SiteGhosts S) (path : List ℕ) (e : Errand) (n : ℕ) (ranged : Option Part) (a : Ask) (h : Head)
    (g : Got s path n a h) where
  -- the head says so, and so the attempt
  heading : (P : Head → Type 0) → P h → HasHead s n a P
  heading P so = record { head = h; is = g.is; so = so }

  other_judged : h.status == 200 ≡ false → is_redirect h.status ≡ false → (h.status == 304 ≡ true → is_none a.since ≡ true)
      → Judges s path e ranged a.url h (other_status n h.status)
  other_judged not_ok not_redirect no_since =
      by_test (Judges s path e ranged a.url h) (is_gone h.status) (Passes (shown.Gone n)) (Passes (shown.Status n h.status))
      (λ t. (record { ask = a; place = g.place; says = heading (λ k. is_gone k.status ≡ true) t }, refl))
      (λ t.
      let nowhere = λ (r : is_redirect h.status ≡ true). absurd (let f : true ≡ false = sym r ∙ not_redirect in cc) in
      let says = heading (λ k. (k.status ≡ h.status) × (is_passed a k ≡ true)) (refl, passed a h not_ok t nowhere no_since) in
      (record { ask = a; place = g.place; says = says }, refl))

  redirect_judged : (followed : ℕ) (at : Place) → h.status == 200 ≡ false → is_redirect h.status ≡ true
      → place_of a.url (location_of h) ≡ at → (h.status == 304 ≡ true → is_none a.since ≡ true)
      → Judges s path e ranged a.url h (redirect_to n e h.status followed at)
  redirect_judged followed Absent not_ok r is no_since =
      let so = passed a h not_ok (redirect_not_gone h.status r) (λ _. ap is_nowhere is) no_since in
      let says = heading (λ k. (k.status ≡ h.status) × (is_passed a k ≡ true)) (refl, so) in
      (record { ask = a; place = g.place; says = says }, refl)
  redirect_judged followed Stray not_ok r is no_since =
      let so = passed a h not_ok (redirect_not_gone h.status r) (λ _. ap is_nowhere is) no_since in
      let says = heading (λ k. (k.status ≡ h.status) × (is_passed a k ≡ true)) (refl, so) in
      (record { ask = a; place = g.place; says = says }, refl)
  redirect_judged followed Secure not_ok r is no_since =
      let says = heading (λ k. (is_redirect k.status ≡ true) × (place_of a.url (location_of k) ≡ Secure)) (r, is) in
      (record { ask = a; place = g.place; says = says }, refl)
  redirect_judged followed (At to) not_ok r is no_since =
      by_test (Judges s path e ranged a.url h) (nat_lt followed e.redir_max) (Follows to) (Passes (shown.Redirects n))
      (λ t. (r, is))
      (λ t. (record { ask = a; place = g.place; says = heading (λ k. is_redirect k.status ≡ true) r }, refl))

  plain_judged : (followed : ℕ) → (h.status == 304 ≡ true → is_none a.since ≡ true)
      → Judges s path e ranged a.url h (plain_verdict e n a.url followed h)
  plain_judged followed no_since =
      let at = place_of a.url (location_of h) in
      by_test (Judges s path e ranged a.url h) (h.status == 200) Begins
      (if is_redirect h.status then redirect_to n e h.status followed at else other_status n h.status)
      (λ t. eqb-true h.status 200 t)
      (λ not_ok. by_test (Judges s path e ranged a.url h) (is_redirect h.status) (redirect_to n e h.status followed at)
      (other_status n h.status)
      (λ t. redirect_judged followed at not_ok t refl no_since)
      (λ t. other_judged not_ok t no_since))

has_old : (old : Option Old) → is_some (option_and_then (λ (x : Old). x.facts.modified) old) ≡ true → IsSomeAnd old (λ x. ⊤)
has_old None h = absurd cc
has_old (Some x) h = tt

pub judged : {S : Type 0} (s : SiteGhosts S) (path : List ℕ) (e : Errand) (n followed : ℕ) (last : Option Shown) (ranged : Option
    Part) (url : List ℕ) (rest : List (List ℕ)) (h : Head)
    → Got s path n (ask_of e (Asking last ranged url rest followed)) h → Judges s path e ranged url h (verdict e n ranged url followed h)
judged s path e n followed last None url rest h g =
    let a = ask_of e (Asking last None url rest followed) in
    by_test (Judges s path e None url h) ((h.status == 304) && is_some (since_of e)) Stays (plain_verdict e n url followed h)
    (λ t. has_old e.old (both (h.status == 304) (is_some (since_of e)) t).1)
    (λ t. plain_judged s path e n None a h g followed
    (λ k. none_of (since_of e) (second_false (h.status == 304) (is_some (since_of e)) k t)))
judged s path e n followed last (Some part) url rest h g =
    let b1 = h.status == 206 in
    let b2 = is_some part.facts.tag in
    let b3 = bytes_eq url part.url in
    let b4 = is_rest part.size part.facts.total (content_range h) in
    by_test (Judges s path e (Some part) url h) (b1 && b2 && b3 && b4) (GoesOn part) (plain_verdict e n url followed h)
    (λ t.
    let x = both (b1 && b2 && b3) b4 t in
    let y = both (b1 && b2) b3 x.0 in
    let z = both b1 b2 y.0 in
    let tagged = some_of part.facts.tag z.1 in
    record {
      is = refl;
      status = eqb-true h.status 206 z.0;
      tag = tagged.0;
      tagged = tagged.1;
      own = bytes_eq_true url part.url y.1;
      rest = x.1;
    })
    (λ t. plain_judged s path e n (Some part) (ask_of e (Asking last (Some part) url rest followed)) h g followed (λ k. refl))

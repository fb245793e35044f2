-- What follows a head: its effects are allowed, and what is true between attempts is true after it.
use Rattle.std.proofs.Common.{◌≡◌, ◌≤◌, ℕ, ◌+◌, true, ◌&&◌, List, [], ◌∷◌, length, is_some}
use Rattle.std.proofs.Common.{refl, subst, sym, ◌∙◌, arith, not}
use Rattle.std.proofs.lemmas.Bool.{not-false}
use Rattle.acng_base.specs.Answers.{Outcome, answer_limit}
use Rattle.acng_base.specs.Answers.Outcome.{Whole, Early, Open, Bad}
use Rattle.acng_base.proofs.Readings.{reading_ends}
use Rattle.acng_site.specs.declared.ask.Ask.{Ask}
use Rattle.acng_site.specs.declared.site.Site.{Ghosts as SiteGhosts}
use Rattle.acng_site.specs.Honest.{heard}
use Rattle.acng_grow.specs.declared.facts.Facts.{Facts}
use Rattle.acng_grow.specs.declared.facts.Seen.{Seen}
use Rattle.acng_grow.specs.declared.why.Shown.{Shown}
use Rattle.acng_grow.specs.declared.why.Shown.TheVariants as shown
use Rattle.acng_grow.specs.Causes.{IsLawful}
use Rattle.acng_grow.specs.Effects.{Errand, Effect, Cut, opening, after}
use Rattle.acng_grow.specs.Download.{Going, Turn, ends_with, goes_to, led_by, stops, ends, flows, next_origin}
use Rattle.acng_grow.specs.Keeps.{HasTotal, HasRoom}
use Rattle.acng_grow.specs.Allowed.{Allowed, MayCut, MayAdd, MayFinish}
use Rattle.acng_fetch.specs.Orders.{AllServe}
use Rattle.acng_fetch.specs.Fits.{running, IsFrom, IsRefusal, IsCutFrom, Continues, Heard, Leads}
use Rattle.acng_fetch.proofs.Tests.{by_test, both, some_of, if_some}

-- ---- causes

-- a reading that is Open was cut off by a fault
pub cut_off : {S : Type 0} (s : SiteGhosts S) (n : ℕ) (a : Ask) → (heard s n a).outcome ≡ Open → s.faulted n a ≡ true
cut_off s n a o = not-false (s.faulted n a) ((reading_ends (s.sent n a) (not (s.faulted n a)) answer_limit).going o)

module _ {S : Type 0} (s : SiteGhosts S) (path : List ℕ) where
  pub early_lawful : (n : ℕ) → Heard s path n Early → IsLawful s path (shown.Early n)
  early_lawful n h = record { ask = h.ask; place = h.place; says = h.is }

  pub open_lawful : (n : ℕ) → Heard s path n Open → IsLawful s path (shown.Origin n)
  open_lawful n h = record { ask = h.ask; place = h.place; says = cut_off s n h.ask h.is }

  pub bad_lawful : (n at : ℕ) → Heard s path n (Bad at) → IsLawful s path (shown.Bad n at)
  bad_lawful n at h = record { ask = h.ask; place = h.place; says = h.is }

-- ---- a body that is taken

-- a running body may be cut by a cause
pub may_cut_by : {S : Type 0} (s : SiteGhosts S) (path : List ℕ) (first last : ℕ) (url : List ℕ) (facts : Facts) (held : ℕ) (cause :
    Shown) → IsCutFrom s path first last cause → MayCut s path (running first last url facts held) cause
may_cut_by s path first last url facts held cause c = record { running = refl; cuts = c.1; order = c.2; lawful = λ _. c.0 }

module _ {S : Type 0} (s : SiteGhosts S) (path : List ℕ) (e : Errand) (first n : ℕ) (url : List ℕ) (facts : Facts)
    (f : IsFrom s path first n url facts) where
  stops_lead : (held : ℕ) (cause : Shown) → held ≤ length (s.instance first path) → IsCutFrom s path first n cause
      → Leads s path e (n + 1) (running first n url facts held) (stops cause url facts held)
  stops_lead held cause h c =
      by_test (Leads s path e (n + 1) (running first n url facts held)) (is_some facts.tag && is_some facts.total)
      (goes_to (Going url facts held cause)) (ends_with (Cut cause))
      (λ t.
      let tagged = some_of facts.tag (both (is_some facts.tag) (is_some facts.total) t).0 in
      record {
        allowed = tt;
        fits = record {
          first = first;
          last = n;
          seen = refl;
          from = f;
          before = omega arith;
          tag = tagged.0;
          tagged = tagged.1;
          fits = h;
          cause = c;
        };
      })
      (λ t. record { allowed = (may_cut_by s path first n url facts held cause c, tt); fits = tt })

  ends_lead : (held : ℕ) (outcome : Outcome) → Heard s path n outcome → held ≤ length (s.instance first path)
      → (outcome ≡ Whole → held ≡ length (s.instance first path))
      → Leads s path e (n + 1) (running first n url facts held) (ends n url facts held outcome)
  ends_lead held Whole a h w =
      let total : HasTotal facts held = if_some facts.total (λ t. t ≡ held) (λ t is. f.total t is ∙ sym (w refl)) in
      let may : MayFinish s path (running first n url facts held)
      = record { running = refl; total = total; whole = λ _. sym (w refl) } in
      record { allowed = (may, tt); fits = tt }
  ends_lead held Early a h w = stops_lead held (shown.Early n) h (early_lawful s path n a, refl, omega arith)
  ends_lead held Open a h w = stops_lead held (shown.Origin n) h (open_lawful s path n a, refl, omega arith)
  ends_lead held (Bad at) a h w =
      let c : IsCutFrom s path first n (shown.Bad n at) = (bad_lawful s path n at a, refl, omega arith) in
      record { allowed = (may_cut_by s path first n url facts held (shown.Bad n at) c, tt); fits = tt }

  pub flows_lead : (held : ℕ) (body : List ℕ) (outcome : Outcome) → Heard s path n outcome
      → Continues (s.instance first path) held body outcome
      → Leads s path e (n + 1) (running first n url facts held) (flows n url facts held body outcome)
  flows_lead held [] outcome a c =
      let z : held ≡ held + length {A = ℕ} [] = omega arith in
      subst (λ (k : ℕ). Leads s path e (n + 1) (running first n url facts held) (ends n url facts k outcome)) z
      (ends_lead held outcome a (let l = c.inside in omega (arith, l)) (λ w. let l = c.all w in omega (arith, l)))
  flows_lead held (b ∷ bs) outcome a c =
      let t = ends_lead (held + length (b ∷ bs)) outcome a c.inside c.all in
      let room : HasRoom facts (held + length (b ∷ bs))
      = if_some facts.total (λ t. held + length (b ∷ bs) ≤ t) (λ t is. let x = f.total t is in let y = c.inside in omega (arith, x, y)) in
      let may : MayAdd s path (running first n url facts held) (b ∷ bs)
      = record { running = refl; small = c.small; room = room; stands = λ _. c.stands } in
      record { allowed = (may, t.allowed); fits = t.fits }

-- one effect before the rest
pub led : {S : Type 0} (s : SiteGhosts S) (path : List ℕ) (e : Errand) (n : ℕ) (g : Seen) (x : Effect) (t : Turn)
    → Allowed s path e g x → Leads s path e n (after e g x) t → Leads s path e n g (led_by x t)
led s path e n g x t a l = record { allowed = (a, l.allowed); fits = l.fits }

-- the next origin
pub passes_lead : {S : Type 0} (s : SiteGhosts S) (path : List ℕ) (e : Errand) (n : ℕ) (cause : Shown) (rest : List (List ℕ))
    (followed : ℕ) → AllServe s path rest → IsRefusal s path cause → Leads s path e n opening (next_origin cause rest followed)
passes_lead s path e n cause [] followed o c =
    record { allowed = (record { opening = refl; refuses = c.1; lawful = λ _. c.0 }, tt); fits = tt }
passes_lead s path e n cause (url ∷ rest) followed o c =
    record { allowed = tt; fits = record { seen = refl; place = o.0; rest_serve = o.1; cause = c; part = tt } }

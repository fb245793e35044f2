-- On an honest site each effect of a download is allowed where it comes.
use Rattle.std.proofs.Common.{◌≡◌, ◌≤◌, ◌<◌, ℕ, zero, suc, ◌+◌, true, ◌&&◌, ◌==◌, List, [], ◌∷◌, Option, Some, None, IfSome}
use Rattle.std.proofs.Common.{refl, sym, subst, arith, not}
use Rattle.std.proofs.lemmas.Bool.{eqb-true}
use Rattle.acng_base.specs.Heads.{Head}
use Rattle.acng_base.specs.Fields.{content_range}
use Rattle.acng_base.specs.Answers.{Outcome, answer_limit}
use Rattle.acng_base.specs.Answers.Outcome.{Whole, Early, Open, Bad}
use Rattle.acng_base.proofs.Readings.{reading_ends}
use Rattle.acng_site.specs.declared.ask.Ask.{Ask}
use Rattle.acng_site.specs.declared.site.Site.{Ghosts as SiteGhosts}
use Rattle.acng_site.specs.Honest.{heard, IsHonest}
use Rattle.acng_grow.specs.declared.facts.Facts.{Facts}
use Rattle.acng_grow.specs.declared.facts.Seen.{Seen}
use Rattle.acng_grow.specs.declared.why.Shown.{Shown}
use Rattle.acng_grow.specs.declared.why.Shown.TheVariants as shown
use Rattle.acng_grow.specs.Effects.{Errand, Part, Cut, Resume, opening, runs}
use Rattle.acng_grow.specs.Download.{Stand, Asking, Going, After, Done, On, Turn, ask_of, led_by, flows, ends_with, is_rest, Verdict}
use Rattle.acng_grow.specs.Download.{Begins, GoesOn, Stays, Follows, Passes, decides, cause_of, headless, turn_by, turn, verdict, worn}
use Rattle.acng_grow.specs.Download.{goes_on, begins}
use Rattle.acng_grow.specs.Keeps.{attempts_end}
use Rattle.acng_grow.specs.Allowed.{AllAllowed}
use Rattle.acng_grow.proofs.Kept.{allowed_append, front_keeps, opens}
use Rattle.acng_fetch.specs.Orders.{AllServe, PartKeeps, ErrandKeeps}
use Rattle.acng_fetch.specs.Fits.{running, IsRefusal, IsCutFrom, IsAsking, IsGoing, Fits, Leads}
use Rattle.acng_fetch.specs.Judges.{Judges}
use Rattle.acng_fetch.specs.Law.{DownloadsAllowed, DownloadsKeep}
use Rattle.acng_fetch.proofs.Tests.{by_test, both, of_some}
use Rattle.acng_fetch.proofs.Turns.{flows_lead, led, passes_lead, may_cut_by, early_lawful, open_lawful, bad_lawful}
use Rattle.acng_fetch.proofs.Verdicts.{Got, judged}
use Rattle.acng_fetch.proofs.Attempts.{goes_on_with, ask_url, ask_tag, begins_lead, goes_lead, old_both, part_sooner, tag_given}

-- the premises of one attempt
pub record Given {S : Type 0} (s : SiteGhosts S) (path : List ℕ) (first n : ℕ) (e : Errand) : Type 0 where
  pub tells : s.tells ≡ true
  pub honest : IsHonest s
  pub errand : ErrandKeeps s path first e
  pub later : first ≤ n
  pub below : n < attempts_end

-- ---- before the body opens

module _ {S : Type 0} (s : SiteGhosts S) (path : List ℕ) (first n : ℕ) (e : Errand) (x : Given s path first n e) where
  decides_lead : (ranged : Option Part) (rest : List (List ℕ)) (followed : ℕ) (a : Ask) (h : Head) (v : Verdict)
      → AllServe s path rest → IfSome ranged (λ part. e.part ≡ Some part)
      → ((part : Part) → ranged ≡ Some part → a.tag ≡ part.facts.tag) → Got s path n a h → Judges s path e ranged a.url h v
      → Leads s path e (n + 1) opening (decides n ranged a.url rest followed h (heard s n a).body (heard s n a).outcome v)
  decides_lead ranged rest followed a h Begins o q t g j = begins_lead s path x.honest e n a h x.below g j
  decides_lead ranged rest followed a h (GoesOn part) o q t g j =
      let is : e.part ≡ Some part = of_some ranged part (λ (y : Part). e.part ≡ Some y) j.is q in
      let kept = of_some e.part part (PartKeeps s path first) is x.errand.part in
      goes_lead s path x.honest e n a h part j.tag x.tells x.below g is (part_sooner s path first n part x.later kept) j.status j.tagged
      (t part j.is) j.own j.rest
  decides_lead ranged rest followed a h Stays o q t g j =
      record { allowed = (old_both s path x.honest e.old j x.errand.old, tt); fits = tt }
  decides_lead ranged rest followed a h (Follows to) o q t g j = record {
    allowed = tt;
    fits = record {
      seen = refl;
      place = x.honest.leads n a path h to g.place g.is j.0 j.1;
      rest_serve = o;
      cause = (record { ask = a; place = g.place; says = record { head = h; is = g.is; so = j.0 } }, refl);
      part = q;
    };
  }
  decides_lead ranged rest followed a h (Passes cause) o q t g j = passes_lead s path e (n + 1) cause rest followed o j

  -- the cause of an attempt without a whole head
  cause_lawful : (a : Ask) (outcome : Outcome) → s.serves a.url path ≡ true → (heard s n a).head ≡ None
      → (heard s n a).outcome ≡ outcome → IsRefusal s path (cause_of n outcome)
  cause_lawful a Whole k h o = absurd ((reading_ends (s.sent n a) (not (s.faulted n a)) answer_limit).headed o h)
  cause_lawful a Early k h o = (early_lawful s path n (record { ask = a; place = k; is = o }), refl)
  cause_lawful a Open k h o = (open_lawful s path n (record { ask = a; place = k; is = o }), refl)
  cause_lawful a (Bad at) k h o = (bad_lawful s path n at (record { ask = a; place = k; is = o }), refl)

  asking_head : (last : Option Shown) (ranged : Option Part) (url : List ℕ) (rest : List (List ℕ)) (followed : ℕ) (o : Option Head)
      → IsAsking s path e last ranged url rest opening → (heard s n (ask_of e (Asking last ranged url rest followed))).head ≡ o
      → Leads s path e (n + 1) opening
      (turn_by e n (Asking last ranged url rest followed) o (heard s n (ask_of e (Asking last ranged url rest followed))).body
      (heard s n (ask_of e (Asking last ranged url rest followed))).outcome)
  asking_head last ranged url rest followed None k h =
      let a : Ask = ask_of e (Asking last ranged url rest followed) in
      let at = ask_url e last ranged url rest followed in
      let served = subst (λ (u : List ℕ). s.serves u path ≡ true) (sym at) k.place in
      passes_lead s path e (n + 1) (cause_of n (heard s n a).outcome) rest followed k.rest_serve
      (cause_lawful a (heard s n a).outcome served h refl)
  asking_head last ranged url rest followed (Some f) k h =
      let a : Ask = ask_of e (Asking last ranged url rest followed) in
      let at = ask_url e last ranged url rest followed in
      let served = subst (λ (u : List ℕ). s.serves u path ≡ true) (sym at) k.place in
      let g : Got s path n a f = record { place = served; is = h } in
      let v = verdict e n ranged url followed f in
      let j = subst (λ (u : List ℕ). Judges s path e ranged u f v) (sym at) (judged s path e n followed last ranged url rest f g) in
      subst (λ (u : List ℕ). Leads s path e (n + 1) opening
      (decides n ranged u rest followed f (heard s n a).body (heard s n a).outcome v)) at
      (decides_lead ranged rest followed a f v k.rest_serve k.part (λ part is. ask_tag e last ranged part url rest followed is) g j)

-- ---- while it runs

module _ {S : Type 0} (s : SiteGhosts S) (path : List ℕ) (first n : ℕ) (e : Errand) (x : Given s path first n e) (url : List ℕ)
    (facts : Facts) (held : ℕ) (kept : Shown) (seen : Seen) (k : IsGoing s path n url facts held kept seen) where
  abbrev asked : Ask
  asked = ask_of e (Going url facts held kept)

  abbrev now : Seen
  now = running k.first k.last url facts held

  going_on : (cause : Shown) → IsCutFrom s path k.first k.last cause → IsGoing s path (n + 1) url facts held cause now
  going_on cause c = record {
    first = k.first;
    last = k.last;
    seen = refl;
    from = k.from;
    before = let b = k.before in omega (arith, b);
    tag = k.tag;
    tagged = k.tagged;
    fits = k.fits;
    cause = c;
  }

  going_headless : (outcome : Outcome) → (heard s n asked).head ≡ None → (heard s n asked).outcome ≡ outcome
      → Leads s path e (n + 1) now (headless n (Going url facts held kept) outcome)
  going_headless Whole h o = absurd ((reading_ends (s.sent n asked) (not (s.faulted n asked)) answer_limit).headed o h)
  going_headless Early h o =
      let lawful = early_lawful s path n (record { ask = asked; place = k.from.place; is = o }) in
      record { allowed = tt; fits = going_on (shown.Early n) (lawful, refl, let u = k.before in omega (arith, u)) }
  going_headless Open h o =
      let lawful = open_lawful s path n (record { ask = asked; place = k.from.place; is = o }) in
      record { allowed = tt; fits = going_on (shown.Origin n) (lawful, refl, let u = k.before in omega (arith, u)) }
  going_headless (Bad at) h o =
      let lawful = bad_lawful s path n at (record { ask = asked; place = k.from.place; is = o }) in
      let c : IsCutFrom s path k.first k.last (shown.Bad n at) = (lawful, refl, let u = k.before in omega (arith, u)) in
      record { allowed = (may_cut_by s path k.first k.last url facts held (shown.Bad n at) c, tt); fits = tt }

  going_head : (o : Option Head) → (heard s n asked).head ≡ o
      → Leads s path e (n + 1) now
      (turn_by e n (Going url facts held kept) o (heard s n asked).body (heard s n asked).outcome)
  going_head None h = going_headless (heard s n asked).outcome h refl
  going_head (Some f) h =
      let g : Got s path n asked f = record { place = k.from.place; is = h } in
      let t : Turn = flows n url facts held (heard s n asked).body (heard s n asked).outcome in
      let b = k.before in
      let u = k.from.ordered in
      let gave = tag_given s path x.honest k.first url k.tag facts k.tagged k.from.given in
      by_test (Leads s path e (n + 1) now) ((f.status == 206) && is_rest held facts.total (content_range f)) (led_by (Resume n) t)
      (ends_with (Cut kept))
      (λ y.
      let z = both (f.status == 206) (is_rest held facts.total (content_range f)) y in
      led s path e (n + 1) now (Resume n) t (record { running = refl; order = omega (arith, b); bounded = x.below })
      (flows_lead s path e k.first n url facts
      (record { ordered = omega (arith, u, b); place = k.from.place; given = k.from.given; total = k.from.total }) held
      (heard s n asked).body (heard s n asked).outcome
      (record { ask = asked; place = k.from.place; is = refl })
      (goes_on_with s path x.honest k.first n held facts.total k.tag asked f g (eqb-true f.status 206 z.0) k.tagged
      (omega (arith, u, b)) gave z.1 k.from.total k.fits)))
      (λ y. record { allowed = (may_cut_by s path k.first k.last url facts held kept k.cause, tt); fits = tt })

-- ---- the law

pub turn_leads : {S : Type 0} (s : SiteGhosts S) (path : List ℕ) (first n : ℕ) (e : Errand) (stand : Stand) (g : Seen)
    → Given s path first n e → Fits s path e n (On stand) g → Leads s path e (n + 1) g (turn e n stand (heard s n (ask_of e stand)))
turn_leads s path first n e (Asking last ranged url rest followed) g x k =
    let a : Ask = ask_of e (Asking last ranged url rest followed) in
    subst (λ (q : Seen). Leads s path e (n + 1) q (turn e n (Asking last ranged url rest followed) (heard s n a))) (sym k.seen)
    (asking_head s path first n e x last ranged url rest followed (heard s n a).head
    (record { seen = refl; place = k.place; rest_serve = k.rest_serve; cause = k.cause; part = k.part }) refl)
turn_leads s path first n e (Going url facts held kept) g x k =
    let a : Ask = ask_of e (Going url facts held kept) in
    subst (λ (q : Seen). Leads s path e (n + 1) q (turn e n (Going url facts held kept) (heard s n a))) (sym k.seen)
    (going_head s path first n e x url facts held kept g k (heard s n a).head refl)

pub worn_allowed : {S : Type 0} (s : SiteGhosts S) (path : List ℕ) (e : Errand) (n : ℕ) (stand : Stand) (g : Seen)
    → Fits s path e n (On stand) g → AllAllowed s path e g (worn stand)
worn_allowed s path e n (Asking None ranged url rest followed) g k = tt
worn_allowed s path e n (Asking (Some cause) ranged url rest followed) g k =
    subst (λ (q : Seen). AllAllowed s path e q (worn (Asking (Some cause) ranged url rest followed))) (sym k.seen)
    (record { opening = refl; refuses = k.cause.1; lawful = λ _. k.cause.0 }, tt)
worn_allowed s path e n (Going url facts held kept) g k =
    subst (λ (q : Seen). AllAllowed s path e q (Cut kept ∷ [])) (sym k.seen)
    (may_cut_by s path k.first k.last url facts held kept k.cause, tt)

pub goes_on_allowed : {S : Type 0} (s : SiteGhosts S) (path : List ℕ) (first n tries : ℕ) (e : Errand) (then : After) (g : Seen)
    → s.tells ≡ true → IsHonest s → ErrandKeeps s path first e → first ≤ n → n + tries ≤ attempts_end → Fits s path e n then g
    → AllAllowed s path e g (goes_on (heard s) e tries n then)
goes_on_allowed s path first n tries e Done g t h m l b k = tt
goes_on_allowed s path first n zero e (On stand) g t h m l b k = worn_allowed s path e n stand g k
goes_on_allowed s path first n (suc tries) e (On stand) g t h m l b k =
    let x = turn_leads s path first n e stand g
    (record { tells = t; honest = h; errand = m; later = l; below = omega (arith, b) }) k in
    let u : Turn = turn e n stand (heard s n (ask_of e stand)) in
    allowed_append s path e g u.effects (goes_on (heard s) e tries (n + 1) u.after) x.allowed
    (goes_on_allowed s path first (n + 1) tries e u.after (runs e u.effects g) t h m (omega (arith, l)) (omega (arith, b)) x.fits)

pub begins_fit : {S : Type 0} (s : SiteGhosts S) (path : List ℕ) (first : ℕ) (e : Errand) (origins : List (List ℕ)) (part : Option Part)
    → s.tells ≡ true → e.part ≡ part → AllServe s path origins → IfSome part (PartKeeps s path first)
    → Fits s path e first (begins origins part) opening
begins_fit s path first e [] None t is o k = tt
begins_fit s path first e (url ∷ rest) None t is o k =
    record { seen = refl; place = o.0; rest_serve = o.1; cause = tt; part = tt }
begins_fit s path first e [] (Some part) t is o k =
    record { seen = refl; place = k.place t; rest_serve = o; cause = tt; part = is }
begins_fit s path first e (url ∷ rest) (Some part) t is o k =
    record { seen = refl; place = k.place t; rest_serve = o; cause = tt; part = is }

pub download_allowed : {S : Type 0} (s : SiteGhosts S) → DownloadsAllowed s
download_allowed s path first tries e m =
    goes_on_allowed s path first first tries e (begins e.origins e.part) opening m.tells m.honest m.errand (omega arith) m.bounded
    (begins_fit s path first e e.origins e.part m.tells refl (m.errand.origins m.tells) m.errand.part)

pub download_keeps : {S : Type 0} (s : SiteGhosts S) → DownloadsKeep s
download_keeps s path first tries e held xs ys m u is =
    front_keeps s path e held opening [] xs ys u (opens s path)
    (subst (AllAllowed s path e opening) (sym is) (download_allowed s path first tries e m))

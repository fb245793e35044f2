-- An attempt on an honest site: what its answer continues, and what the table makes of it before the body opens.
use Rattle.std.proofs.Common.{◌≡◌, ◌≤◌, ◌<◌, ℕ, ◌+◌, ◌-◌, true, ◌&&◌, ◌==◌, List, length, take, drop, Option, Some, None, IfSome, IsSomeAnd}
use Rattle.std.proofs.Common.{refl, ap, sym, subst, ◌∙◌, arith, not}
use Rattle.std.proofs.lemmas.Bool.{eqb-true}
use Rattle.std.proofs.lemmas.List.{length-take, length-drop, take_all}
use Rattle.std.specs.Prelude.{⊤}
use Rattle.acng_base.specs.Heads.{Head}
use Rattle.acng_base.specs.Fields.{content_range}
use Rattle.acng_base.specs.Answers.{Reading, answer_limit}
use Rattle.acng_site.specs.declared.ask.Ask.{Ask}
use Rattle.acng_site.specs.declared.site.Site.{Ghosts as SiteGhosts}
use Rattle.acng_site.specs.Honest.{heard, IsFront, Carries, GaveTag, IsHonest}
use Rattle.acng_head.specs.declared.head.Label.TheVariants.{Fetched}
use Rattle.acng_grow.specs.declared.facts.Facts.{Facts}
use Rattle.acng_grow.specs.declared.why.Shown.{Shown}
use Rattle.acng_grow.specs.Effects.{Errand, Part, Old, Start, GoOn, opening, from_part}
use Rattle.acng_grow.specs.Download.{Asking, Turn, ask_of, led_by, flows, facts_of, is_rest}
use Rattle.acng_grow.specs.Stands.{IsGiven, IsLength}
use Rattle.acng_grow.specs.Keeps.{most_bytes, attempts_end}
use Rattle.acng_grow.specs.Allowed.{MayStart, MayGoOn, MayKeep}
use Rattle.acng_fetch.specs.Orders.{PartKeeps, OldKeeps}
use Rattle.acng_fetch.specs.Fits.{Continues, Leads}
use Rattle.acng_fetch.proofs.Tests.{both, of_some, if_some}
use Rattle.acng_fetch.proofs.BodyBound.{body_within}
use Rattle.acng_fetch.proofs.FieldBounds.{range_small, facts_dated}
use Rattle.acng_fetch.proofs.Turns.{flows_lead, led}
use Rattle.acng_fetch.proofs.Verdicts.{Got}

-- ---- fronts of a file

front_short : (file text : List ℕ) → IsFront file text → length text ≤ length file
front_short file text h =
    let l = length-take (length text) file in
    let k = ap length h in
    omega (arith, l, k)

-- an answer that carries the file continues it from the beginning
from_start : (file : List ℕ) (r : Reading) → length r.body ≤ most_bytes → Carries file r → Continues file 0 r.body r.outcome
from_start file r few c = record {
  stands = c.front;
  inside = let l = front_short file r.body c.front in omega (arith, l);
  small = omega (arith, few);
  all = λ w. let l = ap length (c.all w) in omega (arith, l);
}

-- and one that carries its rest continues it from there
from_place : (file : List ℕ) (held last : ℕ) (r : Reading) → last + 1 ≡ length file → last + 1 ≤ most_bytes → held ≤ length file
    → Carries (take (last + 1 - held) (drop held file)) r → Continues file held r.body r.outcome
from_place file held last r total few fits c =
    let d = length-drop held file in
    let t : take (last + 1 - held) (drop held file) ≡ drop held file
    = take_all (last + 1 - held) (drop held file) (omega (arith, total, d)) in
    let f : IsFront (drop held file) r.body = subst (λ (x : List ℕ). IsFront x r.body) t c.front in
    let s = front_short (drop held file) r.body f in
    record {
      stands = f;
      inside = omega (arith, d, s, fits);
      small = omega (arith, d, s, total, few, fits);
      all = λ w. let x = ap length (c.all w ∙ t) in omega (arith, d, x, fits);
    }

-- ---- a 206 for the rest

record RestIs (held : ℕ) (total : Option ℕ) (range : Option (ℕ × ℕ × ℕ)) : Type 0 where
  last : ℕ
  total_is : total ≡ Some (last + 1)
  range_is : range ≡ Some (held, last, last + 1)

rest_is : (held : ℕ) (total : Option ℕ) (range : Option (ℕ × ℕ × ℕ)) → is_rest held total range ≡ true → RestIs held total range
rest_is held None range h = absurd cc
rest_is held (Some total) None h = absurd cc
rest_is held (Some total) (Some r) h =
    let a = both ((r.0 == held) && (r.1 + 1 == total)) (r.2 == total) h in
    let b = both (r.0 == held) (r.1 + 1 == total) a.0 in
    let x = eqb-true r.0 held b.0 in
    let y = eqb-true (r.1 + 1) total b.1 in
    let z = eqb-true r.2 total a.1 in
    record {
      last = r.1;
      total_is = ap Some (sym y);
      range_is = ap Some (ap (λ (k : ℕ). (k, r.1, r.2)) x ∙ ap (λ (k : ℕ). (held, r.1, k)) (z ∙ sym y));
    }

module _ {S : Type 0} (s : SiteGhosts S) (path : List ℕ) (honest : IsHonest s) where
  -- the tag is strong, so the answer goes on with the file that is held
  pub goes_on_with : (first n held : ℕ) (total : Option ℕ) (tag : List ℕ) (a : Ask) (h : Head) → Got s path n a h → h.status ≡ 206
      → a.tag ≡ Some tag → first < n → GaveTag s first a.url tag → is_rest held total (content_range h) ≡ true
      → ((k : ℕ) → total ≡ Some k → k ≡ length (s.instance first path)) → held ≤ length (s.instance first path)
      → Continues (s.instance first path) held (heard s n a).body (heard s n a).outcome
  goes_on_with first n held total tag a h g status tagged before gave rest known fits =
      let r = rest_is held total (content_range h) rest in
      let same = honest.strong first n a path tag h g.place tagged before gave g.is status in
      let p = (honest.gives n a path g.place).part h (held, r.last, r.last + 1) g.is status r.range_is in
      let few : r.last + 1 ≤ most_bytes
      = of_some (content_range h) (held, r.last, r.last + 1) (λ x. x.2 ≤ most_bytes) r.range_is (range_small h) in
      let c : Carries (take (r.last + 1 - held) (drop held (s.instance first path))) (heard s n a)
      = subst (λ (x : List ℕ). Carries (take (r.last + 1 - held) (drop held x)) (heard s n a)) same p.part in
      from_place (s.instance first path) held r.last (heard s n a) (known (r.last + 1) r.total_is) few fits c

  -- ---- a head before the body opens

  -- a 200 gives its facts
  pub gave : (n : ℕ) (a : Ask) (h : Head) → Got s path n a h → h.status ≡ 200 → IsGiven s path (Some a.url) n (facts_of h)
  gave n a h g ok = record {
    ask = a;
    head = h;
    place = g.place;
    at = refl;
    read = g.is;
    full = ok;
    tag = refl;
    modified = refl;
    total = λ t. t;
  }

  pub total_is : (n : ℕ) (a : Ask) (h : Head) → Got s path n a h → h.status ≡ 200 → (k : ℕ) → (facts_of h).total ≡ Some k
      → k ≡ length (s.instance n path)
  total_is n a h g ok k t = (honest.gives n a path g.place).stated h k g.is ok t

  pub begins_lead : (e : Errand) (n : ℕ) (a : Ask) (h : Head) → n < attempts_end → Got s path n a h → h.status ≡ 200
      → Leads s path e (n + 1) opening
      (led_by (Start n a.url (facts_of h)) (flows n a.url (facts_of h) 0 (heard s n a).body (heard s n a).outcome))
  begins_lead e n a h below g ok =
      let given = gave n a h g ok in
      let total = total_is n a h g ok in
      let may : MayStart s path opening n a.url (facts_of h) = record {
        opening = refl;
        bounded = below;
        dated = facts_dated h;
        place = λ _. g.place;
        facts = record { total = if_some (facts_of h).total (IsLength s path (Fetched n n)) (λ k is _. total k is); from = λ _. given };
      } in
      let few = body_within (s.sent n a) (not (s.faulted n a)) answer_limit in
      led s path e (n + 1) opening (Start n a.url (facts_of h))
      (flows n a.url (facts_of h) 0 (heard s n a).body (heard s n a).outcome) may
      (flows_lead s path e n n a.url (facts_of h) (record { ordered = omega arith; place = g.place; given = given; total = total }) 0
      (heard s n a).body (heard s n a).outcome
      (record { ask = a; place = g.place; is = refl })
      (from_start (s.instance n path) (heard s n a) few ((honest.gives n a path g.place).whole h g.is ok)))

  -- what a URL gave in the first attempt has the tag
  pub tag_given : (first : ℕ) (url tag : List ℕ) (facts : Facts) → facts.tag ≡ Some tag → IsGiven s path (Some url) first facts
      → GaveTag s first url tag
  tag_given first url tag facts t g =
      record { ask = g.ask; at = g.at; head = g.head; is = g.read; ok = g.full; tagged = sym g.tag ∙ t }

  -- a partial body as a later attempt goes on with it
  pub may_go_on : (n : ℕ) (part : Part) → n < attempts_end → PartKeeps s path n part → MayGoOn s path opening n part
  may_go_on n part below k = record {
    opening = refl;
    order = let x = k.ordered in let y = k.before in omega (arith, x, y);
    bounded = below;
    small = k.small;
    room = k.room;
    dated = k.dated;
    place = k.place;
    facts = record { total = total_at part.facts.total k.facts.total; from = k.facts.from };
  }
    where
      total_at : (o : Option ℕ) → IfSome o (IsLength s path (Fetched part.first part.last))
          → IfSome o (IsLength s path (Fetched part.first n))
      total_at None i = tt
      total_at (Some t) i = i

  pub goes_lead : (e : Errand) (n : ℕ) (a : Ask) (h : Head) (part : Part) (tag : List ℕ) → s.tells ≡ true → n < attempts_end
      → Got s path n a h
      → e.part ≡ Some part → PartKeeps s path n part → h.status ≡ 206 → part.facts.tag ≡ Some tag → a.tag ≡ part.facts.tag
      → a.url ≡ part.url → is_rest part.size part.facts.total (content_range h) ≡ true
      → Leads s path e (n + 1) opening
      (led_by (GoOn n) (flows n part.url part.facts part.size (heard s n a).body (heard s n a).outcome))
  goes_lead e n a h part tag tells below g is k status tagged asked own rest =
      let t : Turn = flows n part.url part.facts part.size (heard s n a).body (heard s n a).outcome in
      let ordered : part.first ≤ n = let x = k.ordered in let y = k.before in omega (arith, x, y) in
      let before : part.first < n = let x = k.ordered in let y = k.before in omega (arith, x, y) in
      let given = k.facts.from tells in
      let known = λ (x : ℕ). IsLength s path (Fetched part.first part.last) x in
      let total = λ (x : ℕ) (y : part.facts.total ≡ Some x). of_some part.facts.total x known y k.facts.total tells in
      let gave_it : GaveTag s part.first a.url tag
      = subst (λ (u : List ℕ). GaveTag s part.first u tag) (sym own) (tag_given part.first part.url tag part.facts tagged given) in
      led s path e (n + 1) opening (GoOn n) t
      (subst (λ (o : Option Part). IsSomeAnd o (MayGoOn s path opening n)) (sym is) (may_go_on n part below k))
      (subst (λ (o : Option Part). Leads s path e (n + 1) (from_part n o opening) t) (sym is)
      (flows_lead s path e part.first n part.url part.facts
      (record { ordered = ordered; place = k.place tells; given = given; total = total }) part.size
      (heard s n a).body (heard s n a).outcome
      (record { ask = a; place = g.place; is = refl })
      (goes_on_with part.first n part.size part.facts.total tag a h g status (asked ∙ tagged) before gave_it rest total (k.held tells))))

  pub may_keep : (old : Old) → OldKeeps s path old → MayKeep s path opening old
  may_keep old k =
      record { opening = refl; small = k.small; total = k.total; bounded = k.bounded; dated = k.dated; facts = k.facts }

  pub old_both : (old : Option Old) → IsSomeAnd old (λ x. ⊤) → IfSome old (OldKeeps s path) → IsSomeAnd old (MayKeep s path opening)
  old_both None h k = absurd h
  old_both (Some old) h k = may_keep old k

-- ---- what is asked

pub ask_url : (e : Errand) (last : Option Shown) (ranged : Option Part) (url : List ℕ) (rest : List (List ℕ)) (followed : ℕ)
    → (ask_of e (Asking last ranged url rest followed)).url ≡ url
ask_url e last None url rest followed = refl
ask_url e last (Some part) url rest followed = refl

pub ask_tag : (e : Errand) (last : Option Shown) (ranged : Option Part) (part : Part) (url : List ℕ) (rest : List (List ℕ))
    (followed : ℕ)
    → ranged ≡ Some part → (ask_of e (Asking last ranged url rest followed)).tag ≡ part.facts.tag
ask_tag e last ranged part url rest followed h =
    subst (λ (o : Option Part). (ask_of e (Asking last o url rest followed)).tag ≡ part.facts.tag) (sym h) refl

pub part_sooner : {S : Type 0} (s : SiteGhosts S) (path : List ℕ) (first n : ℕ) (part : Part) → first ≤ n
    → PartKeeps s path first part → PartKeeps s path n part
part_sooner s path first n part h k = record {
  ordered = k.ordered;
  before = let x = k.before in omega (arith, x, h);
  small = k.small;
  room = k.room;
  dated = k.dated;
  place = k.place;
  facts = k.facts;
  held = k.held;
}

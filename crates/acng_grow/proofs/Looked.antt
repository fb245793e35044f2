-- What a look at the asked body tells for good.
use mathlib.Core.Logic.{inl, inr}
use Rattle.std.proofs.Common.{◌≡◌, ◌≢◌, ◌⊎◌, ℕ, ◌+◌, ◌-◌, ◌≤◌, ◌<◌, Bool, true, false, ◌&&◌, List, take, drop, length, Option}
use Rattle.std.proofs.Common.{None, Some, IfSome, IsSome, refl, sym, ap, ◌∙◌, subst, arith}
use Rattle.std.proofs.lemmas.Slice.Eq.{bytes_eq-Decides}
use Rattle.std.specs.Str.{bytes_eq}
use Rattle.acng_site.specs.declared.site.Site.{Ghosts as SiteGhosts}
use Rattle.acng_head.specs.declared.head.Label.{Label}
use Rattle.acng_head.specs.declared.head.Label.TheVariants.{Fetched, Imported}
use Rattle.acng_grow.specs.declared.asked.Asked.{Asked}
use Rattle.acng_grow.specs.declared.asked.Look.{Look}
use Rattle.acng_grow.specs.declared.facts.Facts.{Facts}
use Rattle.acng_grow.specs.declared.facts.Seen.{Seen}
use Rattle.acng_grow.specs.declared.facts.Stage.{Stage}
use Rattle.acng_grow.specs.declared.facts.Stage.TheVariants as stage
use Rattle.acng_grow.specs.Agrees.{agrees, label_agrees, cause_agrees, LooksAt}
use Rattle.acng_grow.specs.Causes.{IsLawful}
use Rattle.acng_grow.specs.Effects.{has_ended}
use Rattle.acng_grow.specs.Grown.{Grown, text_of}
use Rattle.acng_grow.specs.Keeps.{IsSound, KeepsSeen, IsDated}
use Rattle.acng_grow.specs.Looks.{LookStands}
use Rattle.acng_grow.specs.Stands.{FactsStand, StandsFor, StandsWhole}
use Rattle.acng_grow.specs.Turns.{BytesStand, IsPast}
use Rattle.acng_grow.proofs.Fronts.{take_take, drop_take}

-- ---- whether it is the asked one

pub both : (p q : Bool) → (p && q) ≡ true → (p ≡ true) × (q ≡ true)
both true true e = (refl, refl)
both true false e = cc
both false q e = cc

pub agreed : (a : Asked) (g : Grown) → agrees a g ≡ true
    → (g.path ≡ a.path) × (label_agrees a.first_try a.old g.seen.label ≡ true) × (cause_agrees a.first_try g.seen.shown ≡ true)
agreed a g e =
    let outer = both (bytes_eq g.path a.path && label_agrees a.first_try a.old g.seen.label) (cause_agrees a.first_try g.seen.shown) e in
    let inner = both (bytes_eq g.path a.path) (label_agrees a.first_try a.old g.seen.label) outer.0 in (
      (bytes_eq-Decides g.path a.path).0 inner.0,
      inner.1,
      outer.1,
    )

-- ---- a look

if_more : {A : Type 0} (P Q : A → Type 0) (o : Option A) → ((x : A) → P x → Q x) → IfSome o P → IfSome o Q
if_more P Q None f i = tt
if_more P Q (Some x) f i = f x i

-- the same facts, whatever the URL
at_any : {S : Type 0} (s : SiteGhosts S) (path : List ℕ) (url : Option (List ℕ)) (label : Label) (facts : Facts)
    → FactsStand s path url label facts → FactsStand s path None label facts
at_any s path url (Fetched first last) facts st = record {
  total = st.total;
  from = λ t. let g = st.from t in record {
    ask = g.ask;
    head = g.head;
    place = g.place;
    at = tt;
    read = g.read;
    full = g.full;
    tag = g.tag;
    modified = g.modified;
    total = g.total;
  };
}
at_any s path url (Imported hash size) facts st = record { total = st.total; from = st.from }

-- an open body that has no cause has a label
labelled : {S : Type 0} (s : SiteGhosts S) (path : List ℕ) (g : Seen) (st : Stage) → KeepsSeen s path g → g.stage ≡ st → st ≢ stage.Opening
    → has_ended st ≡ false → IsSome g.label
labelled s path g stage.Opening k is opened ended = absurd (opened refl)
labelled s path g stage.Running k is opened ended = (k.running is).label
labelled s path g stage.Whole k is opened ended = (k.whole is).label
labelled s path g stage.Cut k is opened ended = cc
labelled s path g stage.Same k is opened ended = (k.same is).label
labelled s path g stage.Refused k is opened ended = cc

pub looked : {S : Type 0} (s : SiteGhosts S) (tells : Bool) (a : Asked) (g : Grown) (l : Look) → IsSound s tells g
    → g.seen.stage ≢ stage.Opening
    → agrees a g ≡ true → LooksAt g l → LookStands s a l
looked s tells a g l sound opened e looks =
    let p = agreed a g e in
    let k = sound.seen in
    let facts : IfSome g.seen.label (λ m. FactsStand s a.path None m g.seen.facts) =
    if_more (λ m. FactsStand s g.path g.seen.url m g.seen.facts) (λ m. FactsStand s a.path None m g.seen.facts) g.seen.label
    (λ m f. subst (λ q. FactsStand s q None m g.seen.facts) p.0 (at_any s g.path g.seen.url m g.seen.facts f))
    k.facts in
    record {
      opened = λ is. opened (sym looks.stage ∙ is);
      ended = looks.ended;
      label = subst (λ m. label_agrees a.first_try a.old m ≡ true) (sym looks.label) p.1;
      labelled = λ is. subst IsSome (sym looks.label)
          (labelled s g.path g.seen g.seen.stage k refl opened (ap has_ended (sym looks.stage) ∙ is));
      cause = subst (λ c. cause_agrees a.first_try c ≡ true) (sym looks.shown) p.2;
      lawful = λ t. subst (λ c. IfSome c (IsLawful s a.path)) (sym looks.shown)
          (subst (λ q. IfSome g.seen.shown (IsLawful s q)) p.0 (k.lawful t));
      facts = subst (λ m. IfSome m (λ q. FactsStand s a.path None q l.facts)) (sym looks.label)
          (subst (λ f. IfSome g.seen.label (λ m. FactsStand s a.path None m f)) (sym looks.facts) facts);
      dated = subst IsDated (sym looks.facts) k.dated;
    }

-- ---- bytes

-- bytes of a front are bytes of the file
read_front : (file text buf : List ℕ) (place n : ℕ) → take (length text) file ≡ text → take n buf ≡ take n (drop place text)
    → place + n ≤ length text → take n buf ≡ take n (drop place file)
read_front file text buf place n front read inside =
    let low : n ≤ length text - place = omega arith in
    read
    ∙ ap (λ t. take n (drop place t)) (sym front)
    ∙ ap (take n) (drop_take (length text) place file)
    ∙ take_take n (length text - place) (drop place file) low

stands_as : {S : Type 0} (s : SiteGhosts S) (path p : List ℕ) (label : Option Label) (first last : ℕ) (text : List ℕ) → p ≡ path
    → label ≡ Some (Fetched first last)
    → IfSome label (λ l. StandsFor s p l text) → s.tells ≡ true → take (length text) (s.instance first path) ≡ text
stands_as s path p label first last text e is st =
    subst (λ q. s.tells ≡ true → take (length text) (s.instance first q) ≡ text) e (subst (λ k. IfSome k (λ l. StandsFor s p l text)) is st)

whole_as : {S : Type 0} (s : SiteGhosts S) (path p : List ℕ) (label : Option Label) (first last : ℕ) (text : List ℕ) → p ≡ path
    → label ≡ Some (Fetched first last)
    → IfSome label (λ l. StandsWhole s p l text) → s.tells ≡ true → s.instance first path ≡ text
whole_as s path p label first last text e is st =
    subst (λ q. s.tells ≡ true → s.instance first q ≡ text) e (subst (λ k. IfSome k (λ l. StandsWhole s p l text)) is st)

-- so many bytes were taken into a frame
pub bytes_found : {S : Type 0} (s : SiteGhosts S) (tells : Bool) (g : Grown) (path : List ℕ) (first last place room n : ℕ) (to : Option ℕ)
    (frame : List ℕ) → IsSound s tells g
    → g.path ≡ path → g.seen.label ≡ Some (Fetched first last)
    → (tells ≡ true → take n (drop 18 frame) ≡ take n (drop place (text_of g)))
    → 0 < n → n ≤ room → place + n ≤ g.seen.size → 20 + room ≤ length frame → IfSome to (λ t. place + room ≤ t)
    → BytesStand ((s.tells && tells) ≡ true) (s.instance first path) place to frame n
bytes_found s tells g path first last place room n to frame sound e is read some few inside fits within = record {
  some = some;
  room = omega arith;
  small = let m = sound.seen.small in omega (arith, m, inside);
  within = if_more (λ t. place + room ≤ t) (λ t. place + n ≤ t) to (λ t w. omega (arith, w, few)) within;
  bytes = λ b.
      let t = both s.tells tells b in
      let k = sound.text t.1 in
      read_front (s.instance first path) (text_of g) (drop 18 frame) place n
      (stands_as s path g.path g.seen.label first last (text_of g) e is k.stands t.0)
      (read t.1)
      (omega (arith, inside, k.size));
}

-- a body that is whole has no byte from its end on
whole_found : {S : Type 0} (s : SiteGhosts S) (tells : Bool) (g : Grown) (path : List ℕ) (first last place : ℕ) → IsSound s tells g
    → g.path ≡ path
    → g.seen.label ≡ Some (Fetched first last) → (g.seen.stage ≡ stage.Whole) ⊎ (g.seen.stage ≡ stage.Same) → g.seen.size ≤ place
    → (s.tells && tells) ≡ true
    → length (s.instance first path) ≤ place
whole_found s tells g path first last place sound e is (inl st) few b =
    let t = both s.tells tells b in
    let k = sound.text t.1 in
    let w = whole_as s path g.path g.seen.label first last (text_of g) e is (k.whole st) t.0 in
    omega (arith, ap length w, k.size, few)
whole_found s tells g path first last place sound e is (inr st) few b =
    let t = both s.tells tells b in
    let k = sound.text t.1 in
    let w = whole_as s path g.path g.seen.label first last (text_of g) e is (k.same st) t.0 in
    omega (arith, ap length w, k.size, few)

pub end_found : {S : Type 0} (s : SiteGhosts S) (tells : Bool) (g : Grown) (path : List ℕ) (first last place : ℕ) (to : Option ℕ)
    → IsSound s tells g
    → g.path ≡ path → g.seen.label ≡ Some (Fetched first last) → (g.seen.stage ≡ stage.Whole) ⊎ (g.seen.stage ≡ stage.Same)
    → g.seen.size ≤ place
    → to ≡ None → IsPast ((s.tells && tells) ≡ true) (s.instance first path) place to
end_found s tells g path first last place to sound e is st few none =
    subst (λ o. IsPast ((s.tells && tells) ≡ true) (s.instance first path) place o) (sym none)
    (record { asked = tt; known = λ b. whole_found s tells g path first last place sound e is st few b })

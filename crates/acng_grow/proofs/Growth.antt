-- However events come, the text of a body only grows.
use Rattle.std.proofs.Common.{◌≡◌, ℕ, true, List, [], ◌∷◌, length, take, drop, Option, None, Some, IfSome, refl, sym, ◌∙◌, subst, rules}
use Rattle.std.proofs.Common.{IsSomeAnd}
use Rattle.std.proofs.Math.Seq.{take-length, take-append_seam}
use Rattle.acng_site.specs.declared.site.Site.{Ghosts as SiteGhosts}
use Rattle.acng_head.specs.declared.head.Label.{Label}
use Rattle.acng_head.specs.declared.head.Label.TheVariants.{Fetched, Imported}
use Rattle.acng_grow.specs.declared.facts.Seen.{Seen}
use Rattle.acng_grow.specs.declared.facts.Stage.{Stage}
use Rattle.acng_grow.specs.declared.facts.Stage.TheVariants as stage
use Rattle.acng_grow.specs.declared.why.Shown.{Shown}
use Rattle.acng_grow.specs.Stands.{StandsFor, StandsAt, file_of}
use Rattle.acng_grow.specs.Effects.{Effect, Start, GoOn, Resume, Bytes, Finish, Same, Refuse, Cut, Part, Old}
use Rattle.acng_grow.specs.Allowed.{Allowed, MayGoOn, MayKeep}
use Rattle.acng_grow.specs.Keeps.{IsFetched}
use Rattle.acng_grow.specs.Events.{Body, Event, Grow, Fail, Take, came, front, rest, grown, closed_by, stepped, GrowsBy, Closes}
use Rattle.acng_grow.specs.Events.{MayHappen}
use Rattle.acng_grow.specs.Events.{got_after, Goes, IsKept, BodiesGrow}
use Rattle.acng_grow.proofs.Fronts.{front_trans, front_drop, took}
use Rattle.acng_grow.proofs.Kept.{step_keeps}

-- ---- one effect

empty_front : (b c : List ℕ) → b ≡ [] → take (length b) c ≡ b
empty_front b c is = subst (λ b. take (length b) c ≡ b) (sym is) refl

-- a body that opens has no byte
no_bytes : {S : Type 0} (s : SiteGhosts S) (b : Body) → IsKept s b → b.seen.stage ≡ stage.Opening → b.text ≡ []
no_bytes s b k is = none b.text (sym (sym (k.keeps.seen.opening is).size ∙ k.keeps.text.size))
  where
    none : (text : List ℕ) → length text ≡ 0 → text ≡ []
    none [] e = refl
    none (x ∷ xs) e = absurd (search rules)

opened_part : (o : Option Part) {S : Type 0} (s : SiteGhosts S) (path : List ℕ) (g : Seen) (n : ℕ) → IsSomeAnd o (MayGoOn s path g n)
    → g.stage ≡ stage.Opening
opened_part None s path g n may = absurd may
opened_part (Some p) s path g n may = may.opening

opened_old : (o : Option Old) {S : Type 0} (s : SiteGhosts S) (path : List ℕ) (g : Seen) → IsSomeAnd o (MayKeep s path g)
    → g.stage ≡ stage.Opening
opened_old None s path g may = absurd may
opened_old (Some p) s path g may = may.opening

came_grows : {S : Type 0} (s : SiteGhosts S) (b : Body) (x : Effect) (ahead : List Effect) → IsKept s b
    → Allowed s b.path b.errand b.seen x
    → take (length b.text) (came x ahead b).text ≡ b.text
came_grows s b (Start n url facts) ahead k a = empty_front b.text [] (no_bytes s b k a.opening)
came_grows s b (GoOn n) ahead k a = empty_front b.text b.held.part (no_bytes s b k (opened_part b.errand.part s b.path b.seen n a))
came_grows s b (Resume n) ahead k a = take-length b.text
came_grows s b (Bytes piece) ahead k a = take-append_seam b.text piece
came_grows s b Finish ahead k a = take-length b.text
came_grows s b Same ahead k a = empty_front b.text b.held.old (no_bytes s b k (opened_old b.errand.old s b.path b.seen a))
came_grows s b (Refuse cause) ahead k a = take-length b.text
came_grows s b (Cut cause) ahead k a = take-length b.text

-- ---- one event

-- a later body
record Later {S : Type 0} (s : SiteGhosts S) (b c : Body) : Type 0 where
  kept : IsKept s c
  path : c.path ≡ b.path
  grows : take (length b.text) c.text ≡ b.text

as_it_was : {S : Type 0} (s : SiteGhosts S) (b : Body) → IsKept s b → Later s b b
as_it_was s b k = record { kept = k; path = refl; grows = take-length b.text }

came_later : {S : Type 0} (s : SiteGhosts S) (b : Body) (x : Effect) (ahead : List Effect) → IsKept s b
    → Allowed s b.path b.errand b.seen x
    → Later s b (came x ahead b)
came_later s b x ahead k a = record {
  kept = record { keeps = step_keeps s b.path b.errand b.held b.seen b.text x k.held k.keeps a; held = k.held };
  path = refl;
  grows = came_grows s b x ahead k a;
}

grown_later : {S : Type 0} (s : SiteGhosts S) (k : ℕ) (ahead : List Effect) (b : Body) → IsKept s b → GrowsBy s k ahead b
    → Later s b (grown k ahead b)
grown_later s k [] b i may = absurd may
grown_later s k (x ∷ xs) b i may = came_later s b (front k x) (rest k x xs) i may

closed_later : {S : Type 0} (s : SiteGhosts S) (c : Shown) (b : Body) (st : Stage) → IsKept s b → Closes s c b st
    → Later s b (closed_by c b st)
closed_later s c b stage.Opening i may = came_later s b (Refuse c) [] i may
closed_later s c b stage.Running i may = came_later s b (Cut c) [] i may
closed_later s c b stage.Whole i may = as_it_was s b i
closed_later s c b stage.Cut i may = as_it_was s b i
closed_later s c b stage.Same i may = as_it_was s b i
closed_later s c b stage.Refused i may = as_it_was s b i

stepped_later : {S : Type 0} (s : SiteGhosts S) (b : Body) (e : Event) → IsKept s b → MayHappen s b e → Later s b (stepped b e)
stepped_later s b (Grow k) i may = grown_later s k b.ahead b i may
stepped_later s b (Fail c) i may = closed_later s c b b.seen.stage i may
stepped_later s b (Take room) i may = as_it_was s b i

-- ---- the reader

got_more : (from : ℕ) (b : Body) (got : List ℕ) (e : Event) → take (length got) (drop from b.text) ≡ got
    → take (length (got_after from b got e)) (drop from b.text) ≡ got_after from b got e
got_more from b got (Grow k) had = had
got_more from b got (Fail c) had = had
got_more from b got (Take room) had = took from room b.text got had

in_file : {S : Type 0} (s : SiteGhosts S) (path : List ℕ) (from : ℕ) (text got : List ℕ) (label : Option Label)
    → IfSome label (λ l. StandsFor s path l text) → take (length got) (drop from text) ≡ got
    → s.tells ≡ true → IfSome label (λ l. IsFetched l → StandsAt (file_of s path l) from got)
in_file s path from text got None i had t = tt
in_file s path from text got (Some (Fetched first last)) i had t =
    λ _. front_trans got (drop from text) (drop from (s.instance first path)) had (front_drop from text (s.instance first path) (i t))
in_file s path from text got (Some (Imported hash size)) i had t = λ fetched. absurd fetched

-- ---- all events

-- what the reader had got, and what it has got in the end
record GoesOn {S : Type 0} (s : SiteGhosts S) (from : ℕ) (b c : Body) (got : List ℕ) : Type 0 where
  kept : IsKept s c
  path : c.path ≡ b.path
  grows : take (length b.text) c.text ≡ b.text
  taken : take (length got) (drop from c.text) ≡ got

goes : {S : Type 0} (s : SiteGhosts S) (from : ℕ) (es : List Event) (b c : Body) (had got : List ℕ) → IsKept s b
    → take (length had) (drop from b.text) ≡ had → Goes s from b had es c got → GoesOn s from b c got
goes s from [] b c had got i stands g =
    subst (λ c. GoesOn s from b c got) (sym g.0)
    (subst (λ h. GoesOn s from b b h) (sym g.1) (record { kept = i; path = refl; grows = take-length b.text; taken = stands }))
goes s from (e ∷ es) b c had got i stands g =
    let step = stepped_later s b e i g.0 in
    let next = stepped b e in
    let more = got_after from b had e in
    let now : take (length more) (drop from next.text) ≡ more =
    front_trans more (drop from b.text) (drop from next.text) (got_more from b had e stands) (front_drop from b.text next.text
    step.grows) in
    let r = goes s from es next c more got step.kept now g.1 in
    record { kept = r.kept; path = r.path ∙ step.path; grows = front_trans b.text next.text c.text step.grows r.grows; taken = r.taken }

pub bodies_grow : {S : Type 0} (s : SiteGhosts S) → BodiesGrow s
bodies_grow s from es b c got i g =
    let r = goes s from es b c [] got i refl g in
    record {
      kept = r.kept;
      path = r.path;
      grows = r.grows;
      taken = r.taken;
      file = in_file s c.path from c.text got c.seen.label r.kept.keeps.text.stands r.taken;
    }

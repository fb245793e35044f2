-- A body that comes in pieces.
use Rattle.std.proofs.Common.{◌≡◌, ◌≤◌, ◌<◌, ℕ, ◌+◌, ◌-◌, List, [], ◌∷◌, ◌++◌, length, length-append, Option, Some, None, IfSome}
use Rattle.std.proofs.Common.{refl, ap, sym, subst, ◌∙◌, arith}
use Rattle.acng_base.specs.Answers.{Reading, Outcome, after_body, nothing}
use Rattle.acng_site.specs.declared.site.Site.{Ghosts as SiteGhosts}
use Rattle.acng_answer.specs.Reader.{CountsOff}
use Rattle.acng_answer.specs.Stages.{IsDone}
use Rattle.acng_grow.specs.declared.facts.Facts.{Facts}
use Rattle.acng_grow.specs.declared.facts.Seen.{Seen}
use Rattle.acng_grow.specs.Effects.{Errand, Part, Effect, Bytes, GoOn, after, from_part, runs, went_on}
use Rattle.acng_grow.specs.Download.{Turn, led_by, led_by_bytes, ends, flows}
use Rattle.acng_grow.specs.Keeps.{most_bytes}
use Rattle.acng_grow.specs.Allowed.{MayAdd, AllAllowed}
use Rattle.acng_grow.proofs.Kept.{cut_bytes}
use Rattle.acng_fetch.specs.declared.standing.Turned.{Turned}
use Rattle.acng_fetch.specs.Loads.{RunsIn, Turns, url_of}
use Rattle.acng_fetch.specs.Rooms.{Room}
use Rattle.acng_fetch.proofs.Tests.{some_is}

abbrev pub longer : Seen → ℕ → Seen
longer p n = record p { size = p.size + n }

-- ---- what may still come

pub record NextRoom (total due : Option ℕ) (size at limit : ℕ) : Type 0 where
  pub next : Room total due size at limit
  pub small : size ≤ most_bytes
  pub room : IfSome total (λ t. size ≤ t)

-- after a piece
pub room_next : (total due due' : Option ℕ) (size at at' limit count : ℕ) → Room total due size at limit → CountsOff count due due'
    → at + count ≤ at' → at' ≤ limit → NextRoom total due' (size + count) at' limit
room_next None due due' size at at' limit count r c a l =
    record { next = omega (arith, r, a); small = omega (arith, r, a, l); room = tt }
room_next (Some total) None due' size at at' limit count r c a l = absurd (let e = r.is in cc)
room_next (Some total) (Some n) due' size at at' limit count r c a l =
    let e = some_is n r.rest r.is in
    let f = r.fills in
    let g = r.small in
    let few = c.0 in
    record {
      next = record { rest = n - count; is = c.1; fills = omega (arith, e, f, few); small = g };
      small = omega (arith, e, f, g, few);
      room = omega (arith, e, f, few);
    }

-- at the end of a whole answer
pub room_done : (total due : Option ℕ) (size at limit : ℕ) → Room total due size at limit → IsDone due → IfSome total (λ t. t ≡ size)
room_done None due size at limit r d = tt
room_done (Some total) None size at limit r d = absurd (let e = r.is in cc)
room_done (Some total) (Some n) size at limit r d = let e = some_is n r.rest r.is in let f = r.fills in omega (arith, e, f, d)

pub room_at : (total total' due : Option ℕ) (size size' at limit limit' : ℕ) → total' ≡ total → size' ≡ size → limit' ≡ limit
    → Room total due size at limit → Room total' due size' at limit'
room_at total total' due size size' at limit limit' a b c r =
    subst (λ t. Room t due size' at limit') (sym a)
    (subst (λ k. Room total due k at limit') (sym b) (subst (λ k. Room total due size at k) (sym c) r))

-- ---- what is allowed of the rest

-- the first piece of a body may be put, and then what is left is allowed
pub record PieceAllowed {S : Type 0} (s : SiteGhosts S) (path : List ℕ) (e : Errand) (n : ℕ) (url : List ℕ) (facts : Facts) (p : Seen)
    (piece rest : List ℕ) (outcome : Outcome) : Type 0 where
  pub first : MayAdd s path p piece
  pub next : AllAllowed s path e (longer p (length piece)) (flows n url facts (p.size + length piece) rest outcome).effects

module _ {S : Type 0} (s : SiteGhosts S) (path : List ℕ) (e : Errand) where
  drop_none : (p : Seen) (rest : List ℕ) (t : Turn) → AllAllowed s path e p (Bytes rest ∷ t.effects)
      → AllAllowed s path e p (led_by_bytes rest t).effects
  drop_none p [] t h = subst (λ (k : ℕ). AllAllowed s path e (record p { size = k }) t.effects) (omega arith) h.1
  drop_none p (b ∷ bs) t h = h

  piece_allowed : (n : ℕ) (url : List ℕ) (facts : Facts) (p : Seen) (piece rest : List ℕ) (outcome : Outcome) → 0 < length piece
      → AllAllowed s path e p (flows n url facts p.size (piece ++ rest) outcome).effects
      → PieceAllowed s path e n url facts p piece rest outcome
  piece_allowed n url facts p [] rest outcome some h = absurd (omega (arith, some))
  piece_allowed n url facts p (b ∷ bs) rest outcome some h =
      let piece = b ∷ bs in
      let c = cut_bytes s path e p piece rest (ends n url facts (p.size + length (piece ++ rest)) outcome).effects h in
      let l : p.size + length (piece ++ rest) ≡ p.size + length piece + length rest
      = let a = length-append piece rest in omega (arith, a) in
      let d : AllAllowed s path e (longer p (length piece))
      (Bytes rest ∷ (ends n url facts (p.size + length piece + length rest) outcome).effects)
      = subst (λ (k : ℕ). AllAllowed s path e (longer p (length piece)) (Bytes rest ∷ (ends n url facts k outcome).effects)) l c.1 in
      record {
        first = c.0;
        next = drop_none (longer p (length piece)) rest (ends n url facts (p.size + length piece + length rest) outcome) d;
      }

  -- what is left of a reading brings a piece first
  pub piece_of_left : (n : ℕ) (p : Seen) (piece : List ℕ) (left now : Reading) → 0 < length piece → left ≡ after_body piece now
      → AllAllowed s path e p (flows n (url_of p) p.facts p.size left.body left.outcome).effects
      → PieceAllowed s path e n (url_of p) p.facts p piece now.body now.outcome
  piece_of_left n p piece left now some is h =
      piece_allowed n (url_of p) p.facts p piece now.body now.outcome some
      (subst (λ (r : Reading). AllAllowed s path e p (flows n (url_of p) p.facts p.size r.body r.outcome).effects) is h)

-- the plan and the path are what they are after it
pub next_allowed : {S : Type 0} (s : SiteGhosts S) (path path' : List ℕ) (e : Errand) (n : ℕ) (p p' : Seen) (piece rest : List ℕ)
    (outcome : Outcome) → path' ≡ path → p' ≡ longer p (length piece) → PieceAllowed s path e n (url_of p) p.facts p piece rest outcome
    → AllAllowed s path' e p' (flows n (url_of p') p'.facts p'.size rest outcome).effects
next_allowed s path path' e n p p' piece rest outcome a b h =
    subst (λ (y : List ℕ). AllAllowed s y e p' (flows n (url_of p') p'.facts p'.size rest outcome).effects) (sym a)
    (subst (λ (q : Seen). AllAllowed s path e q (flows n (url_of q) q.facts q.size rest outcome).effects) (sym b) h.next)

-- ---- the plan

pub runs_more : (first n k : ℕ) (p p' : Seen) → p' ≡ longer p k → RunsIn first p n → RunsIn first p' n
runs_more first n k p p' h r =
    let now : RunsIn first (longer p k) n
    = record { running = r.running; unshown = r.unshown; among = r.among } in
    subst (λ (x : Seen). RunsIn first x n) (sym h) now

pub plan_more : (p p' q : Seen) (k : ℕ) → p' ≡ longer p k → p ≡ record q { size = p.size } → p' ≡ record q { size = p'.size }
plan_more p p' q k h i = subst (λ (x : Seen). x ≡ record q { size = x.size }) (sym h) (ap (λ (x : Seen). longer x k) i)

pub rest_more : (p p' : Seen) (piece : List ℕ) (left now : Reading) (total : ℕ) → p' ≡ longer p (length piece)
    → left ≡ after_body piece now → p.size + length left.body ≡ total → p'.size + length now.body ≡ total
rest_more p p' piece left now total h k t =
    let a = ap (λ (x : Seen). x.size) h in
    let b = ap (λ (r : Reading). length r.body) k ∙ length-append piece now.body in
    omega (arith, a, b, t)

pub outcome_more : (left now : Reading) (piece : List ℕ) (o : Outcome) → left ≡ after_body piece now → left.outcome ≡ o → now.outcome ≡ o
outcome_more left now piece o h k = sym (ap (λ (r : Reading). r.outcome) h) ∙ k

-- nothing is left
pub all_came : (p q : Seen) (left first : Reading) (o : Outcome) → p ≡ record q { size = p.size } → left ≡ nothing o
    → p.size + length left.body ≡ q.size + length first.body → p ≡ record q { size = q.size + length first.body }
all_came p q left first o h k t =
    let a = ap (λ (r : Reading). length r.body) k in
    let same : p.size ≡ q.size + length first.body = omega (arith, a, t) in
    h ∙ ap (λ (n : ℕ). record q { size = n }) same

pub all_allowed : {S : Type 0} (s : SiteGhosts S) (path : List ℕ) (e : Errand) (n : ℕ) (p : Seen) (left : Reading) (o : Outcome)
    → left ≡ nothing o → AllAllowed s path e p (flows n (url_of p) p.facts p.size left.body left.outcome).effects
    → AllAllowed s path e p (ends n (url_of p) p.facts p.size o).effects
all_allowed s path e n p left o k h =
    let a : AllAllowed s path e p (ends n (url_of p) p.facts (p.size + 0) o).effects
    = subst (λ (r : Reading). AllAllowed s path e p (flows n (url_of p) p.facts p.size r.body r.outcome).effects) k h in
    let zero : p.size + 0 ≡ p.size = omega arith in
    subst (λ (k : ℕ). AllAllowed s path e p (ends n (url_of p) p.facts k o).effects) zero a

-- ---- the body in pieces has the effects of the whole one

runs_bytes : (e : Errand) (xs : List ℕ) (t : Turn) (p : Seen)
    → runs e (led_by_bytes xs t).effects p ≡ runs e t.effects (longer p (length xs))
runs_bytes e [] t p =
    let z : p.size ≡ p.size + length {A = ℕ} [] = omega arith in
    ap (λ (k : ℕ). runs e t.effects (record p { size = k })) z
runs_bytes e (x ∷ xs) t p = refl

after_bytes : (xs : List ℕ) (t : Turn) → (led_by_bytes xs t).after ≡ t.after
after_bytes [] t = refl
after_bytes (x ∷ xs) t = refl

pub turns_flows : {P Q : Type 0} (number : P → ℕ) (call : Q → ℕ) (e : Errand) (n : ℕ) (body : List ℕ) (outcome out : Outcome) (p p1 q :
    Seen) (r : Turned P Q)
    → p1 ≡ longer p (length body) → outcome ≡ out → Turns number call e (ends n (url_of p1) p1.facts p1.size out) p1 q r
    → Turns number call e (flows n (url_of p) p.facts p.size body outcome) p q r
turns_flows number call e n body outcome out p p1 q r h k t =
    let end = ends n (url_of p) p.facts (p.size + length body) outcome in
    let u : Turns number call e end (longer p (length body)) q r
    = subst (λ (o : Outcome). Turns number call e (ends n (url_of p) p.facts (p.size + length body) o) (longer p (length body)) q r) (sym k)
    (subst (λ (x : Seen). Turns number call e (ends n (url_of x) x.facts x.size out) x q r) h t) in
    record { seen = runs_bytes e body end p ∙ u.seen; after = after_bytes body end ∙ u.after }

-- ---- one effect before a body

-- the plan and the path are what they are after it
pub flows_at : {S : Type 0} (s : SiteGhosts S) (path path' : List ℕ) (e : Errand) (n : ℕ) (p q : Seen) (body : List ℕ) (outcome :
    Outcome) → path' ≡ path → q ≡ p → AllAllowed s path e p (flows n (url_of p) p.facts p.size body outcome).effects
    → AllAllowed s path' e q (flows n (url_of q) q.facts q.size body outcome).effects
flows_at s path path' e n p q body outcome a b h =
    subst (λ (y : List ℕ). AllAllowed s y e q (flows n (url_of q) q.facts q.size body outcome).effects) (sym a)
    (subst (λ (x : Seen). AllAllowed s path e x (flows n (url_of x) x.facts x.size body outcome).effects) (sym b) h)

pub turns_led : {P Q : Type 0} (number : P → ℕ) (call : Q → ℕ) (e : Errand) (x : Effect) (p q : Seen) (t : Turn) (now : Seen) (r : Turned
    P Q) → after e p x ≡ q → Turns number call e t q now r → Turns number call e (led_by x t) p now r
turns_led number call e x p q t now r is u = record { seen = ap (runs e t.effects) is ∙ u.seen; after = u.after }

-- a body that is taken from a plan which is this one
pub turns_at : {P Q : Type 0} (number : P → ℕ) (call : Q → ℕ) (e : Errand) (n : ℕ) (body : List ℕ) (outcome : Outcome) (p q now : Seen)
    (r : Turned P Q) → q ≡ p → Turns number call e (flows n (url_of q) q.facts q.size body outcome) q now r
    → Turns number call e (flows n (url_of p) p.facts p.size body outcome) p now r
turns_at number call e n body outcome p q now r is u =
    subst (λ (x : Seen). Turns number call e (flows n (url_of x) x.facts x.size body outcome) x now r) is u

pub went_on_is : (e : Errand) (n : ℕ) (part : Part) (p : Seen) → e.part ≡ Some part → after e p (GoOn n) ≡ went_on n part
went_on_is e n part p is = ap (λ o. from_part n o p) is

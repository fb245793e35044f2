-- When an effect may come: what is always so, and what the law says where the site tells, together.
use Rattle.std.proofs.Common.{◌≡◌, ◌≤◌, ◌<◌, ℕ, ◌+◌, true, List, length, Option, None, Some, IfSome, IsSomeAnd, ap, arith}
use Rattle.acng_site.specs.declared.site.Site.{Ghosts as SiteGhosts}
use Rattle.acng_head.specs.declared.head.Label.{Label}
use Rattle.acng_head.specs.declared.head.Label.TheVariants.{Fetched, Imported}
use Rattle.acng_grow.specs.declared.facts.Facts.{Facts}
use Rattle.acng_grow.specs.declared.facts.Seen.{Seen}
use Rattle.acng_grow.specs.declared.facts.Stage.TheVariants.{Running}
use Rattle.acng_grow.specs.declared.why.Shown.{Shown}
use Rattle.acng_grow.specs.Causes.{named, may_cut, may_refuse}
use Rattle.acng_grow.specs.Effects.{Part, Old, opening, last_of}
use Rattle.acng_grow.specs.Stands.{IsLength}
use Rattle.acng_grow.specs.Keeps.{IsDated, HasRoom, HasTotal, NotBelow, most_bytes, attempts_end}
use Rattle.acng_grow.specs.Allowed.{MayStart, MayGoOn, MayAdd, MayFinish, MayKeep, MayRefuse, MayCut}
use Rattle.acng_fetch.specs.Orders.{PartKeeps, OldKeeps}
use Rattle.acng_fetch.specs.Loads.{IsAmong, Cuts}
use Rattle.acng_fetch.proofs.Tests.{of_some, if_some}

module _ {S : Type 0} (s : SiteGhosts S) (path : List ℕ) (g : Seen) where
  pub start_may : (n : ℕ) (url : List ℕ) (facts : Facts) → g ≡ opening → n < attempts_end → IsDated facts
      → (s.tells ≡ true → MayStart s path g n url facts) → MayStart s path g n url facts
  start_may n url facts seen below dated told = record {
    opening = ap (λ p. p.stage) seen;
    bounded = below;
    dated = dated;
    place = λ t. (told t).place t;
    facts = record {
      total = if_some facts.total (IsLength s path (Fetched n n))
          (λ k is t. of_some facts.total k (IsLength s path (Fetched n n)) is (told t).facts.total t);
      from = λ t. (told t).facts.from t;
    };
  }

  pub go_on_may : (n : ℕ) (p : Part) → g ≡ opening → n < attempts_end → PartKeeps s path n p → MayGoOn s path g n p
  go_on_may n p seen below k = record {
    opening = ap (λ p. p.stage) seen;
    order = let x = k.ordered in let y = k.before in omega (arith, x, y);
    bounded = below;
    small = k.small;
    room = k.room;
    dated = k.dated;
    place = k.place;
    facts = record { total = total_at p.facts.total k.facts.total; from = k.facts.from };
  }
    where
      total_at : (o : Option ℕ) → IfSome o (IsLength s path (Fetched p.first p.last)) → IfSome o (IsLength s path (Fetched p.first n))
      total_at None i = tt
      total_at (Some t) i = i

  pub keep_may : (o : Old) → g ≡ opening → OldKeeps s path o → MayKeep s path g o
  keep_may o seen k = record {
    opening = ap (λ p. p.stage) seen;
    small = k.small;
    total = k.total;
    bounded = k.bounded;
    dated = k.dated;
    facts = k.facts;
  }

  pub add_may : (piece : List ℕ) → g.stage ≡ Running → g.size + length piece ≤ most_bytes → HasRoom g.facts (g.size + length piece)
      → (s.tells ≡ true → MayAdd s path g piece) → MayAdd s path g piece
  add_may piece running small room told = record { running = running; small = small; room = room; stands = λ t. (told t).stands t }

  pub finish_may : g.stage ≡ Running → HasTotal g.facts g.size → (s.tells ≡ true → MayFinish s path g) → MayFinish s path g
  finish_may running total told = record { running = running; total = total; whole = λ t. (told t).whole t }

  pub refuse_may : (c : Shown) → g ≡ opening → may_refuse c ≡ true → (s.tells ≡ true → MayRefuse s path g c) → MayRefuse s path g c
  refuse_may c seen refuses told =
      record { opening = ap (λ p. p.stage) seen; refuses = refuses; lawful = λ t. (told t).lawful t }

  pub cut_may : (c : Shown) → g.stage ≡ Running → may_cut c ≡ true → IfSome g.label (λ l. NotBelow l c)
      → (s.tells ≡ true → MayCut s path g c) → MayCut s path g c
  cut_may c running cuts order told = record { running = running; cuts = cuts; order = order; lawful = λ t. (told t).lawful t }

-- ---- causes and attempts

-- a cause that names attempt n isn't below a label whose last attempt isn't after it
pub order_at : (o : Option Label) (first n : ℕ) (c : Shown) → IsSomeAnd o (IsAmong first (n + 1)) → named c ≡ Some n
    → IfSome o (λ l. NotBelow l c)
order_at None first n c i e = absurd i
order_at (Some (Fetched a b)) first n c i e = if_some (named c) (λ k. b ≤ k) (λ k is. let same : n ≡ k = cc in omega (arith, i.1, same))
order_at (Some (Imported hash size)) first n c i e = absurd i

pub order_of : (o : Option Label) (c : Shown) → Cuts (last_of o) c → IfSome o (λ l. NotBelow l c)
order_of None c k = tt
order_of (Some (Fetched a b)) c k = k.order
order_of (Some (Imported hash size)) c k = tt

-- the last attempt of such a label
pub last_among : (o : Option Label) (first n : ℕ) → IsSomeAnd o (IsAmong first (n + 1)) → last_of o ≤ n
last_among None first n i = absurd i
last_among (Some (Fetched a b)) first n i = omega (arith, i.1)
last_among (Some (Imported hash size)) first n i = absurd i

pub later_among : (o : Option Label) (first n : ℕ) → IsSomeAnd o (IsAmong first n) → IsSomeAnd o (IsAmong first (n + 1))
later_among None first n i = absurd i
later_among (Some (Fetched a b)) first n i = (i.0, omega (arith, i.1))
later_among (Some (Imported hash size)) first n i = absurd i

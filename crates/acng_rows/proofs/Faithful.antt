-- What is so of each good head and its body stays so, as good heads go on.
use Rattle.std.proofs.Common.{◌⊎◌, ℕ, List, subst, inl, inr}
use Rattle.acng_head.specs.declared.head.Head.{Head}
use Rattle.acng_keeper.specs.Kept.{Kept, Stored, stored}
use Rattle.acng_keeper.specs.Images.{LeavesOnly}
use Rattle.acng_keeper.specs.Stops.{last}
use Rattle.acng_rows.specs.Rows.{Rows}
use Rattle.acng_rows.specs.Goods.{IsGood, Core, core_of, WasGood, GoodsStay, GoodsCome, IsBetween, AreSealed, IsFaithfulTo}

-- the stored part: each good head and its body are so
pub record AreSo (P : Core → List ℕ → Type 0) (s : Stored) : Type 0 where
  pub each : (id : ℕ) (h : Head) (text : List ℕ) → IsGood s id h text → P (core_of h) text

was_so : (P : Core → List ℕ → Type 0) (s : Stored) (id : ℕ) (h : Head) (text : List ℕ) → AreSo P s → WasGood s id h text
    → P (core_of h) text
was_so P s id h text a w = subst (λ c. P c text) w.alike (a.each id w.was text w.good)

pub so_stays : (P : Core → List ℕ → Type 0) (s t : Stored) → GoodsStay s t → AreSo P s → AreSo P t
so_stays P s t stay a = record { each = λ id h text g. was_so P s id h text a (stay.each id h text g) }

-- a file that comes is so too
pub so_comes : (P come : Core → List ℕ → Type 0) (s t : Stored) → GoodsCome come s t → ((c : Core) (text : List ℕ) → come c text → P c text)
    → AreSo P s → AreSo P t
so_comes P come s t comes new a = record { each = λ id h text g. by id h text (comes.each id h text g) }
  where
    by : (id : ℕ) (h : Head) (text : List ℕ) → WasGood s id h text ⊎ come (core_of h) text → P (core_of h) text
    by id h text (inl w) = was_so P s id h text a w
    by id h text (inr c) = new (core_of h) text c

pub faithful_stays : (P : Core → List ℕ → Type 0) (k l : Kept) → GoodsStay (stored k) (stored l) → AreSealed l → IsFaithfulTo P k
    → IsFaithfulTo P l
faithful_stays P k l stay sealed f =
    record { good = (so_stays P (stored k) (stored l) stay (record { each = f.good })).each; sealed = sealed }

pub faithful_comes : (P come : Core → List ℕ → Type 0) (k l : Kept) → GoodsCome come (stored k) (stored l)
    → ((c : Core) (text : List ℕ) → come c text → P c text) → AreSealed l → IsFaithfulTo P k → IsFaithfulTo P l
faithful_comes P come k l comes new sealed f =
    record { good = (so_comes P come (stored k) (stored l) comes new (record { each = f.good })).each; sealed = sealed }

-- after a call that leaves only what stands between the rows
pub faithful_between : (P come : Core → List ℕ → Type 0) (rows new : Rows) (k l : Kept) → LeavesOnly
    (IsBetween come rows new (stored k)) k l
    → ((c : Core) (text : List ℕ) → come c text → P c text) → AreSealed l → IsFaithfulTo P k → IsFaithfulTo P l
faithful_between P come rows new k l leaves more sealed f =
    faithful_comes P come k l (last (IsBetween come rows new (stored k)) k l leaves).goods more sealed f

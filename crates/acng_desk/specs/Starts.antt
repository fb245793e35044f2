-- What a start makes of a keeper.
use Rattle.std.specs.Prelude.{◌≡◌, ℕ, ◌<◌, Bool, true, max, ⊤}
use Rattle.std.specs.FinMap as map
use Rattle.acng_conf.specs.Settings.{Rules}
use Rattle.acng_keeper.specs.Kept.{Kept, Stored, stored}
use Rattle.acng_keeper.specs.Images.{LeavesOnly}
use Rattle.acng_keeper.specs.Slips.{Faults, HasFailed}
use Rattle.acng_keeper.specs.declared.slip.KeepFault.{KeepFault}
use Rattle.acng_keeper.specs.declared.slip.KeepFault.TheVariants as keep
use Rattle.acng_rows.specs.Rows.{Rows}
use Rattle.acng_rows.specs.Goods.{StandsFor, IsAll, GoodsStay, HasHead}
use Rattle.acng_rows.specs.Starts.{IsFree}
use Rattle.acng_desk.specs.declared.start.StartCause.{StartCause}
use Rattle.acng_desk.specs.declared.start.StartCause.TheVariants as start
use Rattle.acng_desk.specs.House.{House}
use Rattle.acng_desk.specs.Keeps.{IsIdle}
use Rattle.acng_desk.specs.Stops.{IsFound}

abbrev pub most_rows : ℕ
most_rows = 1048576

abbrev pub cause_of : {P : Type 0} → KeepFault P → StartCause P
cause_of (keep.Slip p) = start.KeeperFault p
cause_of keep.NoMemory = start.NoMemory

-- what a stop in a start leaves: no head came, and a start finds these rows
pub record IsCleared (rows : Rows) (s t : Stored) : Type 0 where
  pub goods : GoodsStay s t
  pub heads : (id : ℕ) → HasHead t id → HasHead s id
  pub stands : StandsFor rows t

-- a stop at any moment leaves the rows that a start would have found
abbrev pub ClearsOnly : Kept → Kept → Type 0
ClearsOnly k l = (rows : Rows) → StandsFor rows (stored k) → LeavesOnly (IsCleared rows (stored k)) k l

-- the rows are those of the stored heads and bodies, nothing else is left, and the next try is above each attempt that a
-- row names and not below the right's
pub record IsStarted (tells : Bool) (k : Kept) (next_id right limit : ℕ) (rules : Rules) (h : House) : Type 0 where
  pub stands : tells ≡ true → StandsFor h.plain.rows (stored k)
  pub still : tells ≡ true → StandsFor h.plain.rows (stored h.kept)
  pub all : tells ≡ true → IsAll h.plain.rows h.kept
  pub found : tells ≡ true → IsFound h
  pub stops : tells ≡ true → ClearsOnly k h.kept
  pub idle : IsIdle h.plain
  pub parts : h.plain.parts ≡ map.empty
  pub free : ℕ
  pub above : IsFree h.plain.rows free
  pub next_try : h.plain.next_try ≡ max right free
  pub next : h.plain.next_id ≡ next_id
  pub limit_is : h.plain.limit ≡ limit
  pub rules_are : h.plain.rules ≡ rules

-- the rows that the keeper stands for are so many, and more than the limit
pub record HasMore (tells : Bool) (k : Kept) (limit count : ℕ) : Type 0 where
  pub rows : Rows
  pub stands : tells ≡ true → StandsFor rows (stored k)
  pub len : count ≡ map.len rows
  pub more : limit < count

abbrev pub StartRose : {P : Type 0} → Bool → Kept → ℕ → Faults → Faults → StartCause P → Type 0
StartRose tells k limit old new (start.KeeperFault p) = HasFailed old new
StartRose tells k limit old new (start.TooMany count) = HasMore tells k limit count
StartRose tells k limit old new start.NoMemory = ⊤

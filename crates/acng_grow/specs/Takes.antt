-- What a read of a growing body gives.
use Rattle.std.specs.Prelude.{◌≡◌, ◌⊎◌, ℕ, ◌+◌, ◌<◌, ◌≤◌, None, Some, Option, ⊤}
use Rattle.acng_keeper.specs.Slips.{Later, HasFailed, SlipRose}
use Rattle.acng_keeper.specs.declared.slip.KeepFault.{KeepFault}
use Rattle.acng_grow.specs.declared.facts.Stage.TheVariants as stage
use Rattle.acng_grow.specs.declared.taking.Taken.{Taken}
use Rattle.acng_grow.specs.declared.taking.Taken.TheVariants as taken
use Rattle.acng_grow.specs.Grown.{File, Grown}

-- some bytes, as many as fit and are there
pub record TakesBytes (g : Grown) (from room n : ℕ) : Type 0 where
  pub some : 0 < n
  pub fits : n ≤ room
  pub there : from + n ≤ g.seen.size

-- the answer by stage, place and size
abbrev pub TakesAs : {Q : Type 0} → Grown → ℕ → ℕ → Taken Q → Type 0
TakesAs g from room (taken.Bytes n) = TakesBytes g from room n
TakesAs g from room taken.NotYet = (g.seen.size ≤ from) × ((g.seen.stage ≡ stage.Opening) ⊎ (g.seen.stage ≡ stage.Running))
TakesAs g from room taken.Done = (g.seen.size ≤ from) × ((g.seen.stage ≡ stage.Whole) ⊎ (g.seen.stage ≡ stage.Same))
TakesAs g from room taken.Cut = (g.seen.size ≤ from) × ((g.seen.stage ≡ stage.Cut) ⊎ (g.seen.stage ≡ stage.Refused))
TakesAs g from room (taken.Slip q) = from < g.seen.size

abbrev pub IfBytes : {Q : Type 0} → Taken Q → (ℕ → Type 0) → Type 0
IfBytes (taken.Bytes n) A = A n
IfBytes taken.NotYet A = ⊤
IfBytes taken.Done A = ⊤
IfBytes taken.Cut A = ⊤
IfBytes (taken.Slip q) A = ⊤

abbrev pub OnSlip : {Q : Type 0} → Taken Q → Type 0 → Type 0
OnSlip (taken.Bytes n) A = ⊤
OnSlip taken.NotYet A = ⊤
OnSlip taken.Done A = ⊤
OnSlip taken.Cut A = ⊤
OnSlip (taken.Slip q) A = A

-- ---- the file's handle stays, and its count of faults never falls

abbrev pub LaterFile : Option File → Option File → Type 0
LaterFile None new = new ≡ None
LaterFile (Some f) None = ⊥
LaterFile (Some f) (Some g) = (g.0 ≡ f.0) × Later f.1 g.1

-- a call of the file failed
abbrev pub FileFailed : Option File → Option File → Type 0
FileFailed None new = ⊥
FileFailed (Some f) None = ⊥
FileFailed (Some f) (Some g) = HasFailed f.1 g.1

-- a slip is of a call of the file that failed
abbrev pub SlipsIn : {Q : Type 0} → KeepFault Q → Option File → Option File → Type 0
SlipsIn e None new = ⊥
SlipsIn e (Some f) None = ⊥
SlipsIn e (Some f) (Some g) = SlipRose e f.1 g.1

pub record Rests (old new : Grown) : Type 0 where
  pub path : new.path ≡ old.path
  pub seen : new.seen ≡ old.seen
  pub file : LaterFile old.file new.file

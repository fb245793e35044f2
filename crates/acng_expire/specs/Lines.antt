-- The line that a run prints, without its line end.
use Rattle.std.specs.Prelude.{◌≡◌, ℕ, Bool, List, [], ◌++◌, codes, decimal, Option, None, Some}
use Rattle.acng_base.specs.declared.clock.Moment.{Moment}
use Rattle.acng_desk.specs.House.{House}
use Rattle.acng_expire.specs.declared.run.Expired.{Expired}
use Rattle.acng_expire.specs.declared.run.Expired.TheVariants.{Done, Aborted, Stopped, NoMemory}
use Rattle.acng_expire.specs.declared.line.ExpireLine.{ExpireLine}
use Rattle.acng_expire.specs.Expirations.{HasExpired}

-- a run that memory stopped has none
abbrev pub line_of : {P : Type 0} → Expired P → Option (List ℕ)
line_of (Done removed marked) = Some (codes "done removed " ++ decimal removed ++ codes " marked " ++ decimal marked)
line_of (Aborted problems) = Some (codes "aborted problems " ++ decimal problems)
line_of (Stopped slip removed) = Some (codes "stopped removed " ++ decimal removed)
line_of (NoMemory removed) = None

abbrev pub slip_of : {P : Type 0} → Expired P → Option P
slip_of (Done removed marked) = None
slip_of (Aborted problems) = None
slip_of (Stopped slip removed) = Some slip
slip_of (NoMemory removed) = None

-- a run at this moment with no failed path is told by the line
pub record HasLine {P : Type 0} (tells : Bool) (now : Moment) (old new : House) (line : ExpireLine P) : Type 0 where
  pub ended : Expired P
  pub run : HasExpired tells [] now.0 old new ended
  pub text : line_of ended ≡ Some line.text
  pub moment : line.moment ≡ now
  pub slip : line.slip ≡ slip_of ended

-- a run ended in some way
pub record HasEnded (tells : Bool) (now : Moment) (old new : House) : Type 0 where
  pub ended : Expired (Unit {0})
  pub run : HasExpired tells [] now.0 old new ended

-- A run of which the slip is left out.
use Rattle.std.proofs.Common.{Bool, []}
use Rattle.acng_base.specs.declared.clock.Moment.{Moment}
use Rattle.acng_desk.specs.House.{House}
use Rattle.acng_expire.specs.declared.run.Expired.{Expired}
use Rattle.acng_expire.specs.declared.run.Expired.TheVariants.{Done, Aborted, Stopped, NoMemory}
use Rattle.acng_expire.specs.Expirations.{HasExpired}
use Rattle.acng_expire.specs.Lines.{HasEnded}

pub some_end : {P : Type 0} (tells : Bool) (now : Moment) (old new : House) (e : Expired P) → HasExpired tells [] now.0 old new e
    → HasEnded tells now old new
some_end tells now old new (Done removed marked) h = record { ended = Done removed marked; run = h }
some_end tells now old new (Aborted problems) h = record { ended = Aborted problems; run = h }
some_end tells now old new (Stopped slip removed) h = record { ended = Stopped tt removed; run = h }
some_end tells now old new (NoMemory removed) h = record { ended = NoMemory removed; run = h }

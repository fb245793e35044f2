-- The command `expire`: what is printed, the status, and what the run makes of the desk.
use Rattle.std.specs.Prelude.{◌≡◌, ◌⊎◌, ℕ, Bool, List, [], ◌∷◌, ◌++◌, Option, Some}
use Rattle.acng_base.specs.Moments.{Ticks}
use Rattle.acng_base.specs.declared.stream.Sink.{Ghosts as SinkGhosts}
use Rattle.acng_desk.specs.House.{House}
use Rattle.acng_expire.specs.declared.run.Expired.{Expired}
use Rattle.acng_expire.specs.declared.run.Expired.TheVariants as run
use Rattle.acng_expire.specs.Expirations.{HasExpired}
use Rattle.acng_expire.specs.Lines.{line_of, slip_of}
use Rattle.acng_cli.specs.declared.opening.Maint.{Maint}
use Rattle.acng_cli.specs.Maint.{Prints}
use Rattle.acng_cli.specs.Opens.{Store}
use Rattle.acng_cli.specs.Single.{store_in}

-- ---- what is printed

-- by how the run ended
abbrev pub run_status : {P : Type 0} → Expired P → ℕ
run_status (run.Done removed marked) = 0
run_status (run.Aborted problems) = 1
run_status (run.Stopped slip removed) = 5
run_status (run.NoMemory removed) = 6

-- where memory for the line was refused: a failed call of the keeper goes before that
abbrev pub unsaid_status : {P : Type 0} → Expired P → ℕ
unsaid_status (run.Done removed marked) = 6
unsaid_status (run.Aborted problems) = 6
unsaid_status (run.Stopped slip removed) = 5
unsaid_status (run.NoMemory removed) = 6

-- the line of the run, with its line end
pub record PrintsLine {P W : Type 0} (w : SinkGhosts W) (ended : Expired P) (status : ℕ) (old new : W) : Type 0 where
  pub line : List ℕ
  pub is : line_of ended ≡ Some line
  pub printed : Prints w (record { status = run_status ended; text = line ++ 10 ∷ [] }) status old new

-- memory was refused, and nothing is printed
pub record PrintsNoLine {P W : Type 0} (ended : Expired P) (status : ℕ) (old new : W) : Type 0 where
  pub is : status ≡ unsaid_status ended
  pub silent : new ≡ old

abbrev pub PrintsRun : {P W : Type 0} → SinkGhosts W → Expired P → ℕ → W → W → Type 0
PrintsRun w ended status old new = PrintsLine w ended status old new ⊎ PrintsNoLine ended status old new

-- ---- a run

-- the output, and the moments to come
pub record Around (W : Type 0) : Type 0 where
  pub out : W
  pub coming : Option (List ℕ)

-- One moment of the clock was taken, and the run at it made over the desk; its line was printed, and its slip is handed back.
-- The keeper has what the desk had after the run.
pub record ExpiresOver {W K Q : Type 0} (tells : Bool) (w : SinkGhosts W) (store : K → Store) (desk : House) (old new : Around W)
    (e : Maint K Q) : Type 0 where
  pub now : ℕ
  pub tick : Ticks old.coming new.coming now
  pub ended : Expired Q
  pub left : House
  pub run : HasExpired tells [] now desk left ended
  pub printed : PrintsRun w ended e.status old.out new.out
  pub slip : e.slip ≡ slip_of ended
  pub keeper : store e.keeper ≡ store_in left

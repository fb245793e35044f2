-- The command `import`: what is printed, the status, and what the import makes of the desk.
use Rattle.std.specs.Prelude.{◌≡◌, ◌⊎◌, ℕ, Bool, true, List, Option, None, Some, cond, length}
use Rattle.acng_base.specs.Causes.{Rose}
use Rattle.acng_base.specs.Moments.{Ticks}
use Rattle.acng_base.specs.declared.clock.Moment.{Moment}
use Rattle.acng_base.specs.declared.stream.Sink.{Ghosts as SinkGhosts}
use Rattle.acng_site.specs.declared.site.Site.{Ghosts as SiteGhosts}
use Rattle.acng_desk.specs.House.{House}
use Rattle.acng_reach.specs.Caches.{indexes}
use Rattle.acng_reach.specs.Desks.{cache_of}
use Rattle.acng_import.specs.declared.ending.FileEnd.{FileEnd}
use Rattle.acng_import.specs.declared.ending.Imported.{Imported}
use Rattle.acng_import.specs.declared.ending.Imported.TheVariants as imported
use Rattle.acng_import.specs.declared.finder.Finder.{Ghosts as FinderGhosts}
use Rattle.acng_import.specs.Ends.{has_fault, has_left_out, ends_in}
use Rattle.acng_import.specs.Imports.{ImportsAs, MayStop}
use Rattle.acng_import.specs.Printed.{import_text}
use Rattle.acng_import.specs.Steps.{OnlyEnters, anywhere, named_in}
use Rattle.acng_cli.specs.declared.opening.Maint.{Maint}
use Rattle.acng_cli.specs.declared.output.Output.{Output}
use Rattle.acng_cli.specs.Maint.{Prints}
use Rattle.acng_cli.specs.Opens.{Store}
use Rattle.acng_cli.specs.Single.{store_in}

-- ---- what is printed

-- each file came to its end: one that couldn't be read goes before one that was left out
abbrev pub ends_status : List FileEnd → ℕ
ends_status es = cond (has_fault es) 4 (cond (has_left_out es) 7 0)

-- no id was left for a body
abbrev pub worn_status : List FileEnd → ℕ
worn_status es = cond (has_fault es) 4 7

-- by how the import ended
abbrev pub import_status : {P : Type 0} → Imported P → ℕ
import_status (imported.Done es) = ends_status es
import_status (imported.Stopped slip es) = 5
import_status (imported.Worn es) = worn_status es
import_status imported.NoMemory = 6

-- where memory for the lines was refused: a failed call of the keeper goes before that
abbrev pub unsaid_status : {P : Type 0} → Imported P → ℕ
unsaid_status (imported.Done es) = 6
unsaid_status (imported.Stopped slip es) = 5
unsaid_status (imported.Worn es) = 6
unsaid_status imported.NoMemory = 6

abbrev pub slip_of : {P : Type 0} → Imported P → Option P
slip_of (imported.Done es) = None
slip_of (imported.Stopped slip es) = Some slip
slip_of (imported.Worn es) = None
slip_of imported.NoMemory = None

-- the lines of an import of files with these names
abbrev pub of_import : {P : Type 0} → List (List ℕ) → Imported P → Output
of_import names ended = record { status = import_status ended; text = import_text names ended }

-- memory was refused, and nothing is printed
pub record PrintsNoLines {P W : Type 0} (ended : Imported P) (status : ℕ) (old new : W) : Type 0 where
  pub is : status ≡ unsaid_status ended
  pub silent : new ≡ old

abbrev pub PrintsImport : {P W : Type 0} → SinkGhosts W → List (List ℕ) → Imported P → ℕ → W → W → Type 0
PrintsImport w names ended status old new = Prints w (of_import names ended) status old new ⊎ PrintsNoLines ended status old new

-- ---- an import

-- what a command is lent: the output, the moments to come, and the found files
pub record Lent (W F : Type 0) : Type 0 where
  pub out : W
  pub coming : Option (List ℕ)
  pub found : F

-- Files entered the desk at this moment: which, where the keeper and the finder tell; at paths that an index names, where the
-- keeper does; and nothing else came of it. A slip comes only where calls may fail, and a file that couldn't be read only where
-- the finder's count rose.
pub record HasImported {S F P : Type 0} (s : SiteGhosts S) (tells : Bool) (f : FinderGhosts F) (now : Moment) (old new : F)
    (desk left : House) (ended : Imported P) : Type 0 where
  pub imported : tells ≡ true → f.tells ≡ true → ImportsAs s tells (indexes (cache_of tells desk)) now (f.bodies old)
      (length (f.names old)) desk (f.faults old) left (f.faults new) ended
  pub only : tells ≡ true → OnlyEnters (named_in (indexes (cache_of tells desk))) desk.plain left.plain
  pub enters : OnlyEnters anywhere desk.plain left.plain
  pub cause : MayStop desk.faults.may_fail ended
  pub fault : has_fault (ends_in ended) ≡ true → Rose (f.faults old) (f.faults new)

-- One moment of the clock was taken, and the import at it made over the desk; its lines were printed, and its slip is handed
-- back. The keeper has what the desk had after the import.
pub record ImportsOver {S W F K Q : Type 0} (s : SiteGhosts S) (tells : Bool) (w : SinkGhosts W) (f : FinderGhosts F)
    (store : K → Store) (desk : House) (old new : Lent W F) (e : Maint K Q) : Type 0 where
  pub now : Moment
  pub tick : Ticks old.coming new.coming now.0
  pub ended : Imported Q
  pub left : House
  pub did : HasImported s tells f now old.found new.found desk left ended
  pub printed : PrintsImport w (f.names old.found) ended e.status old.out new.out
  pub slip : e.slip ≡ slip_of ended
  pub keeper : store e.keeper ≡ store_in left

-- The commands of maintenance: what is printed, the status that goes with it, and what a run does by its words.
use Rattle.std.specs.Prelude.{◌≡◌, ◌⊎◌, ◌+◌, ◌<◌, ◌≤◌, ◌==◌, ◌||◌, ℕ, Bool, true, false, List, [], ◌∷◌, ◌++◌, Option, Some, None, Result, Ok, Err, cond, codes, length, take, IfSome}
use Rattle.std.specs.Io.KnownBytes.{Appends, Consumes, IsAtEnd}
use Rattle.acng_base.specs.declared.stream.Sink.{Ghosts as SinkGhosts}
use Rattle.acng_base.specs.Causes.{Rose}
use Rattle.acng_site.specs.declared.site.Site.{Ghosts as SiteGhosts}
use Rattle.acng_conf.specs.Settings.{Settings}
use Rattle.acng_conf.specs.Readings.{reading}
use Rattle.acng_conf.specs.Printed.{printed, fault_line}
use Rattle.acng_conf.specs.declared.fault.ConfFault.{ConfFault}
use Rattle.acng_conf.specs.declared.fault.ListFile.{ListFile}
use Rattle.acng_cli.specs.Generated.{IsGenerated}
use Rattle.acng_cli.specs.Opens.{CannotRead}
use Rattle.acng_cli.specs.declared.output.Output.{Output}
use Rattle.acng_cli.specs.declared.words.Command.{Command}
use Rattle.acng_cli.specs.declared.words.Command.TheVariants as command
use Rattle.acng_cli.specs.declared.words.Words.{Words}
use Rattle.acng_cli.specs.declared.words.WordsFault.{WordsFault}
use Rattle.acng_cli.specs.declared.words.WordsFault.TheVariants as fault

-- ---- what is said

abbrev pub fault_name : WordsFault → List ℕ
fault_name fault.NoMemory = codes "NoMemory"
fault_name fault.NotRead = codes "NotRead"
fault_name fault.NoCommand = codes "NoCommand"
fault_name fault.NoNumber = codes "NoNumber"
fault_name fault.StrayNumber = codes "StrayNumber"

-- `words: NAME`
abbrev pub words_output : List ℕ → Output
words_output name = record { status = 2; text = codes "words: " ++ name ++ 10 ∷ [] }

-- whether a command of maintenance reads the configuration
abbrev pub reads_conf : Command → Bool
reads_conf command.CheckConf = true
reads_conf command.Serve = false
reads_conf command.Once = false
reads_conf command.Expire = true
reads_conf command.Import = true
reads_conf command.Report = true
reads_conf (command.Gen n) = false

-- the same by the words
abbrev pub asks_conf : Result Words WordsFault → Bool
asks_conf (Ok words) = reads_conf words.command
asks_conf (Err e) = false

-- what is said of a configuration
abbrev pub of_conf : Result Settings ConfFault → Output
of_conf (Ok settings) = record { status = 0; text = printed settings }
of_conf (Err e) = record { status = 3; text = fault_line e }

-- ---- the configuration's bytes

-- the most bytes of a configuration
abbrev pub most : ℕ
most = 4194304

-- these bytes were read to the end, or are more than a configuration may have
abbrev pub IsEnough : List ℕ → Option (List ℕ) → Type 0
IsEnough text left = IsAtEnd left ⊎ (most < length text)

-- past the first byte too many no more than the rest of its piece of 32,768 bytes is read
pub record ReadsFew (old new : Option (List ℕ)) : Type 0 where
  pub bytes : List ℕ
  pub few : length bytes ≤ most + 32768
  pub consumed : Consumes old new bytes

-- ---- printing

-- the text was printed, with its status
pub record PrintsAll {W : Type 0} (w : SinkGhosts W) (output : Output) (status : ℕ) (old new : W) : Type 0 where
  pub same : status ≡ output.status
  pub text : Appends (w.written old) (w.written new) output.text

-- The status where the output failed: of several statuses all but those of a run that was done and of a file that was left
-- out go before it.
abbrev pub broken_status : ℕ → ℕ
broken_status status = cond ((status == 0) || (status == 7)) 4 status

-- the output failed behind a front of the text
pub record PrintsFront {W : Type 0} (w : SinkGhosts W) (output : Output) (status : ℕ) (old new : W) : Type 0 where
  pub instead : status ≡ broken_status output.status
  pub count : ℕ
  pub few : count ≤ length output.text
  pub front : Appends (w.written old) (w.written new) (take count output.text)
  pub rose : Rose (w.faults old) (w.faults new)

abbrev pub Prints : {W : Type 0} → SinkGhosts W → Output → ℕ → W → W → Type 0
Prints w output status old new = PrintsAll w output status old new ⊎ PrintsFront w output status old new

-- memory was refused, and nothing is printed
pub record PrintsNone {W : Type 0} (status : ℕ) (old new : W) : Type 0 where
  pub is : status ≡ 6
  pub quiet : new ≡ old

abbrev pub PrintsUnless : {W : Type 0} → SinkGhosts W → Output → ℕ → W → W → Type 0
PrintsUnless w output status old new = Prints w output status old new ⊎ PrintsNone status old new

-- ---- a repository from a number

-- the line of a run was printed
pub record PrintsRun {U W : Type 0} (u : SiteGhosts U) (w : SinkGhosts W) (n status : ℕ) (old new : W) : Type 0 where
  pub text : List ℕ
  pub is : IsGenerated u n text
  pub printed : Prints w (record { status = 0; text = text }) status old new

abbrev pub PrintsGen : {U W : Type 0} → SiteGhosts U → SinkGhosts W → ℕ → ℕ → W → W → Type 0
PrintsGen u w n status old new = PrintsRun u w n status old new ⊎ PrintsNone status old new

-- ---- a command that makes no desk

-- what is said of the configuration, whose text may be known
pub record SaysConf {W : Type 0} (w : SinkGhosts W) (text : Option (List ℕ)) (lists : List ListFile) (status : ℕ) (old new : W) : Type
    0 where
  pub read : Result Settings ConfFault
  pub says : IfSome text (λ t. reading t lists ≡ read)
  pub printed : PrintsUnless w (of_conf read) status old new

-- the configuration couldn't be read, or memory was refused before it was; nothing is printed
pub record SaysNothing {W : Type 0} (before after status : ℕ) (old new : W) : Type 0 where
  pub why : CannotRead status before after ⊎ (status ≡ 6)
  pub silent : new ≡ old

abbrev pub ChecksConf : {W : Type 0} → SinkGhosts W → Option (List ℕ) → List ListFile → ℕ → ℕ → ℕ → W → W → Type 0
ChecksConf w text lists before after status old new =
    SaysConf w text lists status old new ⊎ SaysNothing before after status old new

-- `words: Other`
abbrev pub RefusesCommand : {W : Type 0} → SinkGhosts W → ℕ → W → W → Type 0
RefusesCommand w status old new = PrintsUnless w (words_output (codes "Other")) status old new

-- by the command, over the site of `gen`, which has one of its own
abbrev pub RanPlain : {U W : Type 0} → SiteGhosts U → SinkGhosts W → Option (List ℕ) → List ListFile → ℕ → ℕ → Command → ℕ → W → W → Type 0
RanPlain u w text lists before after command.CheckConf status old new = ChecksConf w text lists before after status old new
RanPlain u w text lists before after command.Serve status old new = RefusesCommand w status old new
RanPlain u w text lists before after command.Once status old new = RefusesCommand w status old new
RanPlain u w text lists before after command.Expire status old new = RefusesCommand w status old new
RanPlain u w text lists before after command.Import status old new = RefusesCommand w status old new
RanPlain u w text lists before after command.Report status old new = RefusesCommand w status old new
RanPlain u w text lists before after (command.Gen n) status old new = PrintsGen u w n status old new

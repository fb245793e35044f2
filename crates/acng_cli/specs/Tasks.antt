-- The commands of maintenance by their words: those that work on a desk, and those that make none.
use Rattle.std.specs.Prelude.{◌≡◌, ◌⊎◌, ℕ, Bool, Option, Some, None, Result, Ok, Err, IfSome}
use Rattle.acng_base.specs.declared.stream.Sink.{Ghosts as SinkGhosts}
use Rattle.acng_site.specs.declared.site.Site.{Ghosts as SiteGhosts}
use Rattle.acng_conf.specs.Settings.{Settings}
use Rattle.acng_conf.specs.Readings.{reading}
use Rattle.acng_conf.specs.declared.fault.ConfFault.{ConfFault}
use Rattle.acng_desk.specs.House.{House}
use Rattle.acng_import.specs.declared.finder.Finder.{Ghosts as FinderGhosts}
use Rattle.acng_cli.specs.declared.opening.Maint.{Maint}
use Rattle.acng_cli.specs.declared.opening.Opened.{Opened}
use Rattle.acng_cli.specs.declared.opening.Opened.TheVariants.{Ready, Ended}
use Rattle.acng_cli.specs.declared.task.Task.{Task}
use Rattle.acng_cli.specs.declared.task.Task.TheVariants as task
use Rattle.acng_cli.specs.declared.words.Command.{Command}
use Rattle.acng_cli.specs.declared.words.Command.TheVariants as command
use Rattle.acng_cli.specs.declared.words.Words.{Words}
use Rattle.acng_cli.specs.declared.words.WordsFault.{WordsFault}
use Rattle.acng_cli.specs.Expire.{Around, ExpiresOver}
use Rattle.acng_cli.specs.Imports.{Lent, ImportsOver}
use Rattle.acng_cli.specs.Maint.{PrintsUnless, of_conf, words_output, fault_name, RanPlain}
use Rattle.acng_cli.specs.Opens.{Store, Given, MaySay, CannotRead, IsReady, IsEnded, idle}
use Rattle.acng_cli.specs.Report.{PrintsTable}

-- ---- where no desk is opened

-- the configuration was read, but no desk was started, and nothing is printed
pub record StartsNone {S W K Q : Type 0} (s : SiteGhosts S) (tells : Bool) (store : K → Store) (g : Given) (before after : ℕ)
    (old new : W) (e : Maint K Q) : Type 0 where
  pub conf : Settings
  pub says : MaySay g.text g.lists conf
  pub ended : IsEnded s tells store g before after e
  pub silent : new ≡ old

-- the configuration's refusal is printed, and the keeper isn't used
pub record RefusesConf {W K Q : Type 0} (w : SinkGhosts W) (g : Given) (keeper : K) (old new : W) (e : Maint K Q) : Type 0 where
  pub fault : ConfFault
  pub says : IfSome g.text (λ t. reading t g.lists ≡ Err fault)
  pub printed : PrintsUnless w (of_conf (Err fault)) e.status old new
  pub is : e ≡ idle e.status keeper

-- the configuration couldn't be read, or memory was refused before it was; nothing is printed, and the keeper isn't used
pub record ReadsNone {W K Q : Type 0} (before after : ℕ) (keeper : K) (old new : W) (e : Maint K Q) : Type 0 where
  pub why : CannotRead e.status before after ⊎ (e.status ≡ 6)
  pub is : e ≡ idle e.status keeper
  pub silent : new ≡ old

abbrev pub OpensNone : {S W K Q : Type 0} → SiteGhosts S → Bool → SinkGhosts W → (K → Store) → Given → ℕ → ℕ → K → W → W → Maint K Q
    → Type 0
OpensNone s tells w store g before after keeper old new e =
    StartsNone s tells store g before after old new e ⊎ RefusesConf w g keeper old new e ⊎ ReadsNone before after keeper old new e

-- an opening that prints what is wrong with the configuration
abbrev pub OpensSaying : {S W K T B Q : Type 0} → SiteGhosts S → Bool → SinkGhosts W → (K → Store) → Given → ℕ → ℕ → K → Words → W → W
    → Opened S K T B Q → Type 0
OpensSaying s tells w store g before after keeper asked old new (Ready words conf desk) =
    IsReady tells g asked words conf desk × (new ≡ old)
OpensSaying s tells w store g before after keeper asked old new (Ended e) = OpensNone s tells w store g before after keeper old new e

-- ---- over a desk

abbrev pub around : {W F : Type 0} → Lent W F → Around W
around l = record { out = l.out; coming = l.coming }

-- what the task makes of a desk: a table takes no moment, and only an import reads found files
abbrev pub WorksOn : {S W F K Q : Type 0} → SiteGhosts S → Bool → SinkGhosts W → FinderGhosts F → (K → Store) → Task → House → Lent W F
    → Lent W F → Maint K Q → Type 0
WorksOn s tells w f store task.Report desk old new e =
    PrintsTable w store desk old.out new.out e × (new.coming ≡ old.coming) × (new.found ≡ old.found)
WorksOn s tells w f store task.Expire desk old new e =
    ExpiresOver tells w store desk (around old) (around new) e × (new.found ≡ old.found)
WorksOn s tells w f store task.Import desk old new e = ImportsOver s tells w f store desk old new e

-- ---- a run

-- a desk was opened, and worked on
pub record OpensDesk {S W F K Q : Type 0} (s : SiteGhosts S) (tells : Bool) (w : SinkGhosts W) (f : FinderGhosts F) (store : K → Store)
    (g : Given) (todo : Task) (asked : Words) (old new : Lent W F) (e : Maint K Q) : Type 0 where
  pub words : Words
  pub conf : Settings
  pub desk : House
  pub ready : IsReady tells g asked words conf desk
  pub works : WorksOn s tells w f store todo desk old new e

-- none was opened: no moment was taken, and no found file was read
pub record StaysOut {S W F K Q : Type 0} (s : SiteGhosts S) (tells : Bool) (w : SinkGhosts W) (store : K → Store) (g : Given)
    (before after : ℕ) (keeper : K) (old new : Lent W F) (e : Maint K Q) : Type 0 where
  pub opens : OpensNone s tells w store g before after keeper old.out new.out e
  pub coming : new.coming ≡ old.coming
  pub found : new.found ≡ old.found

abbrev pub RanTask : {S W F K Q : Type 0} → SiteGhosts S → Bool → SinkGhosts W → FinderGhosts F → (K → Store) → Given → ℕ → ℕ → K
    → Task → Words → Lent W F → Lent W F → Maint K Q → Type 0
RanTask s tells w f store g before after keeper todo asked old new e =
    OpensDesk s tells w f store g todo asked old new e ⊎ StaysOut s tells w store g before after keeper old new e

-- ---- by the words

-- the task of a command that works on a desk
abbrev pub task_of : Command → Option Task
task_of command.Serve = None
task_of command.Once = None
task_of command.Expire = Some task.Expire
task_of command.Import = Some task.Import
task_of command.Report = Some task.Report
task_of command.CheckConf = None
task_of (command.Gen n) = None

-- the keeper is given back as it came, no moment was taken, and no found file was read
pub record UsesNone {W F K Q : Type 0} (keeper : K) (old new : Lent W F) (e : Maint K Q) : Type 0 where
  pub is : e ≡ idle e.status keeper
  pub coming : new.coming ≡ old.coming
  pub found : new.found ≡ old.found

abbrev pub RanBy : {S U W F K Q : Type 0} → SiteGhosts S → SiteGhosts U → Bool → SinkGhosts W → FinderGhosts F
    → (K → Store) → Given → ℕ → ℕ → K
    → Option Task → Words → Lent W F → Lent W F → Maint K Q → Type 0
RanBy s u tells w f store g before after keeper (Some todo) asked old new e =
    RanTask s tells w f store g before after keeper todo asked old new e
RanBy s u tells w f store g before after keeper None asked old new e =
    UsesNone keeper old new e × RanPlain u w g.text g.lists before after asked.command e.status old.out new.out

abbrev pub RanMaint : {S U W F K Q : Type 0} → SiteGhosts S → SiteGhosts U → Bool → SinkGhosts W → FinderGhosts F
    → (K → Store) → Given → ℕ → ℕ → K
    → Result Words WordsFault → Lent W F → Lent W F → Maint K Q → Type 0
RanMaint s u tells w f store g before after keeper (Ok asked) old new e =
    RanBy s u tells w f store g before after keeper (task_of asked.command) asked old new e
RanMaint s u tells w f store g before after keeper (Err fault) old new e =
    UsesNone keeper old new e × PrintsUnless w (words_output (fault_name fault)) e.status old.out new.out

-- Opening a desk: what the words, the configuration and the keeper give.
use Rattle.std.specs.Prelude.{◌≡◌, ◌⊎◌, ℕ, Bool, true, List, Option, Some, None, Result, Ok, Err, IfSome}
use Rattle.acng_base.specs.Causes.{Rose}
use Rattle.acng_site.specs.declared.site.Site.{Ghosts as SiteGhosts}
use Rattle.acng_conf.specs.Settings.{Settings, rules_of}
use Rattle.acng_conf.specs.Readings.{reading}
use Rattle.acng_conf.specs.declared.fault.ConfFault.{ConfFault}
use Rattle.acng_conf.specs.declared.fault.ListFile.{ListFile}
use Rattle.acng_keeper.specs.Kept.{Kept}
use Rattle.acng_keeper.specs.Slips.{Faults, HasFailed, Later}
use Rattle.acng_grow.specs.Faithful.{IsFaithful}
use Rattle.acng_desk.specs.House.{House}
use Rattle.acng_desk.specs.Starts.{IsStarted, HasMore, most_rows}
use Rattle.acng_desk.specs.declared.start.StartCause.{StartCause}
use Rattle.acng_desk.specs.declared.start.StartCause.TheVariants as start
use Rattle.acng_desk.specs.declared.start.StartFault.{StartFault}
use Rattle.acng_cli.specs.declared.opening.Maint.{Maint}
use Rattle.acng_cli.specs.declared.opening.Opened.{Opened}
use Rattle.acng_cli.specs.declared.opening.Opened.TheVariants.{Ready, Ended}
use Rattle.acng_cli.specs.declared.words.Words.{Words}
use Rattle.acng_cli.specs.declared.words.WordsFault.{WordsFault}

-- a keeper, as it is told
pub record Store : Type 0 where
  pub kept : Kept
  pub next_id : ℕ
  pub faults : Faults

-- what a desk is opened over: the configuration's text where it is known, the list files beside it, the keeper, and the
-- number of the next attempt
pub record Given : Type 0 where
  pub text : Option (List ℕ)
  pub lists : List ListFile
  pub store : Store
  pub next_try : ℕ

-- what a configuration may say: what its text says, where that is known
abbrev pub MaySay : Option (List ℕ) → List ListFile → Settings → Type 0
MaySay text lists conf = IfSome text (λ t. reading t lists ≡ Ok conf)

-- ---- a desk that is ready

-- the words are these, the configuration was read, and the desk is the start's
pub record IsReady (tells : Bool) (g : Given) (w words : Words) (conf : Settings) (desk : House) : Type 0 where
  pub same : words ≡ w
  pub says : MaySay g.text g.lists conf
  pub started : IsStarted tells g.store.kept g.store.next_id g.next_try most_rows (rules_of conf) desk

-- ---- why there is none

-- the configuration couldn't be read: its source's count of faults rose
pub record CannotRead (status before after : ℕ) : Type 0 where
  pub is : status ≡ 4
  pub rose : Rose before after

-- the configuration is refused
pub record RefusesConf (g : Given) (status : ℕ) : Type 0 where
  pub is : status ≡ 3
  pub fault : ConfFault
  pub says : IfSome g.text (λ t. reading t g.lists ≡ Err fault)

-- the keeper holds too many paths
pub record HoldsTooMany (tells : Bool) (g : Given) (status : ℕ) : Type 0 where
  pub is : status ≡ 3
  pub conf : Settings
  pub says : MaySay g.text g.lists conf
  pub count : ℕ
  pub more : HasMore tells g.store.kept most_rows count

-- a call of the keeper failed, and its slip is handed back
pub record SlipsAtStart {K Q : Type 0} (g : Given) (now : Faults) (e : Maint K Q) : Type 0 where
  pub is : e.status ≡ 5
  pub conf : Settings
  pub says : MaySay g.text g.lists conf
  pub slip : Q
  pub handed : e.slip ≡ Some slip
  pub failed : HasFailed g.store.faults now

-- no slip is handed back, and the status says why; 6 where memory was refused
pub record EndsBySelf {K Q : Type 0} (tells : Bool) (g : Given) (before after : ℕ) (e : Maint K Q) : Type 0 where
  pub quiet : e.slip ≡ None
  pub why : CannotRead e.status before after ⊎ RefusesConf g e.status ⊎ HoldsTooMany tells g e.status ⊎ (e.status ≡ 6)

-- the keeper is given back
pub record IsEnded {S K Q : Type 0} (s : SiteGhosts S) (tells : Bool) (store : K → Store) (g : Given) (before after : ℕ)
    (e : Maint K Q) : Type 0 where
  pub why : SlipsAtStart g (store e.keeper).faults e ⊎ EndsBySelf tells g before after e
  pub later : Later g.store.faults (store e.keeper).faults
  pub still : tells ≡ true → IsFaithful s (store e.keeper).kept

-- by why a start was refused
abbrev pub start_status : {Q : Type 0} → StartCause Q → ℕ
start_status (start.KeeperFault slip) = 5
start_status (start.TooMany count) = 3
start_status start.NoMemory = 6

abbrev pub start_slip : {Q : Type 0} → StartCause Q → Option Q
start_slip (start.KeeperFault slip) = Some slip
start_slip (start.TooMany count) = None
start_slip start.NoMemory = None

abbrev pub stopped : {K Q : Type 0} → StartFault K Q → Maint K Q
stopped f = record { status = start_status f.cause; keeper = f.keeper; slip = start_slip f.cause }

-- ---- an opening

-- by words that were read
abbrev pub OpensBy : {S K T B Q : Type 0} → SiteGhosts S → Bool → (K → Store) → Given → ℕ → ℕ → Words → Opened S K T B Q → Type 0
OpensBy s tells store g before after w (Ready words conf desk) = IsReady tells g w words conf desk
OpensBy s tells store g before after w (Ended e) = IsEnded s tells store g before after e

-- nothing was done, and the keeper is given back as it came
abbrev pub idle : {K Q : Type 0} → ℕ → K → Maint K Q
idle status keeper = record { status = status; keeper = keeper; slip = None }

-- by what the words say; those that are refused have status 2, unless memory was refused before they were read
abbrev pub OpensAs : {S K T B Q : Type 0} → SiteGhosts S → Bool → (K → Store) → Given → ℕ → ℕ → K → Result Words WordsFault
    → Opened S K T B Q → Type 0
OpensAs s tells store g before after keeper (Ok w) opened = OpensBy s tells store g before after w opened
OpensAs s tells store g before after keeper (Err fault) opened = (opened ≡ Ended (idle 2 keeper)) ⊎ (opened ≡ Ended (idle 6 keeper))

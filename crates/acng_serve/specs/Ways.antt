-- Where a request leads: to a file with its class, to the report page, or why nowhere.
use Rattle.std.specs.Prelude.{◌≡◌, ◌≢◌, ◌⊎◌, ◌≤◌, ℕ, List, length, Option, Some, None, Ok, Err}
use Rattle.acng_conf.specs.Settings.{Settings}
use Rattle.acng_remap.specs.Readings.{Reading, reading}
use Rattle.acng_remap.specs.declared.target.Target.TheVariants.{File, Page}
use Rattle.acng_class.specs.declared.class.Class.{Class}
use Rattle.acng_class.specs.declared.class.Class.TheVariants.{Solid, Volatile, Forbidden}
use Rattle.acng_class.specs.Classes.{class_of}
use Rattle.acng_request.specs.declared.got.Request.{Request}
use Rattle.acng_serve.specs.declared.note.Cause.{Cause}
use Rattle.acng_serve.specs.declared.note.Cause.TheVariants as cause
use Rattle.acng_serve.specs.declared.way.Way.{Way}
use Rattle.acng_serve.specs.declared.way.Way.TheVariants as way
use Rattle.acng_serve.specs.Causes.{target_cause}
use Rattle.acng_serve.specs.Pages.{Visit, Shows, Runs, Forbids, visit_of}

-- a file that isn't passed on
abbrev pub class_refusal : {Q : Type 0} → Class → Option (Cause Q)
class_refusal Solid = None
class_refusal Volatile = None
class_refusal Forbidden = Some cause.Forbidden

-- a run that isn't allowed
abbrev pub visit_refusal : {Q : Type 0} → Visit → Option (Cause Q)
visit_refusal Shows = None
visit_refusal Runs = None
visit_refusal Forbids = Some cause.Maint

-- why a reading leads nowhere
abbrev pub refusal_of : {Q : Type 0} → Settings → Reading → Option (Cause Q)
refusal_of s (Err fault) = Some (target_cause fault)
refusal_of s (Ok (Page query)) = visit_refusal (visit_of s query)
refusal_of s (Ok (File path origins)) = class_refusal (class_of s.pfile_pattern s.vfile_pattern path)

-- a file with its class, which isn't Forbidden
pub record LeadsToFile (s : Settings) (r : Request) (path : List ℕ) (origins : List (List ℕ)) (class : Class) : Type 0 where
  pub read : reading s r.method r.target ≡ Ok (File path origins)
  pub some : 1 ≤ length origins
  pub class_is : class ≡ class_of s.pfile_pattern s.vfile_pattern path
  pub passed : class ≢ Forbidden

-- the report page, to be visited so
pub record LeadsToPage (s : Settings) (r : Request) (v : Visit) : Type 0 where
  pub query : List ℕ
  pub read : reading s r.method r.target ≡ Ok (Page query)
  pub visit : visit_of s query ≡ v

-- the way of the request's target; want of memory is free
abbrev pub LeadsTo : {Q : Type 0} → Settings → Request → Way Q → Type 0
LeadsTo s r (way.File path origins class) = LeadsToFile s r path origins class
LeadsTo s r way.Page = LeadsToPage s r Shows
LeadsTo s r way.Run = LeadsToPage s r Runs
LeadsTo s r (way.Refusal c) = (c ≡ cause.NoMemory) ⊎ (refusal_of s (reading s r.method r.target) ≡ Some c)

-- the same of a file that was read
abbrev pub LeadsByClass : {Q : Type 0} → Option (List ℕ) → Option (List ℕ) → List ℕ → List (List ℕ) → Way Q → Type 0
LeadsByClass solid volatile path origins (way.File p o class) =
    (p ≡ path) × (o ≡ origins) × (class ≡ class_of solid volatile path) × (class ≢ Forbidden)
LeadsByClass solid volatile path origins way.Page = ⊥
LeadsByClass solid volatile path origins way.Run = ⊥
LeadsByClass solid volatile path origins (way.Refusal c) =
    (c ≡ cause.NoMemory) ⊎ (class_refusal (class_of solid volatile path) ≡ Some c)

-- the same of a page that was read
abbrev pub LeadsByVisit : {Q : Type 0} → Visit → Way Q → Type 0
LeadsByVisit v (way.File path origins class) = ⊥
LeadsByVisit v way.Page = v ≡ Shows
LeadsByVisit v way.Run = v ≡ Runs
LeadsByVisit v (way.Refusal c) = visit_refusal v ≡ Some c

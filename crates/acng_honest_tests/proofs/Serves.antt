-- The site of one file serves each target of the empty configuration.
use Rattle.std.proofs.Common.{◌≡◌, ◌∙◌, ℕ, List, [], Option, Some, Result, Ok, refl, sym, subst, IfSome}
use Rattle.acng_conf.specs.Settings.{Settings, defaults}
use Rattle.acng_conf.specs.Readings.{reading}
use Rattle.acng_conf.specs.declared.fault.ConfFault.{ConfFault}
use Rattle.acng_remap.specs.Origins.{ServesTargets, is_place}
use Rattle.acng_remap.proofs.Serving.{serves_targets}
use Rattle.acng_cli.specs.Opens.{MaySay}

abbrev groups_in : Result Settings ConfFault → Type 0
groups_in (Ok s) = ServesTargets s (is_place [])
groups_in _ = Unit {0}

-- what an empty text says
empty : groups_in (reading [] [])
empty = serves_targets defaults refl

pub served : (text : List ℕ) → text ≡ [] → (s : Settings) → MaySay (Some text) [] s → ServesTargets s (is_place [])
served text none s says = subst groups_in (subst (λ t. reading t [] ≡ Ok s) none says) empty

-- The origins of a path. Each group has a name of its own, so the path alone says where its file may come from.
use Rattle.std.specs.Prelude.{◌≡◌, ℕ, Bool, true, false, not, ◌||◌, List, [], ◌∷◌, map, bytes_eq, Contains, Option, Some, None, Ok}
use Rattle.std.specs.List.{list_any}
use Rattle.acng_conf.specs.Readings.{called}
use Rattle.acng_conf.specs.Settings.{Mirrors, Settings}
use Rattle.acng_remap.specs.Decisions.{group, has_target}
use Rattle.acng_remap.specs.Forms.{before_slash}
use Rattle.acng_remap.specs.Readings.{reading, asked, url_of, rest_after}
use Rattle.acng_remap.specs.declared.target.Target.TheVariants.{File}

abbrev pub lacks : List Mirrors → Option ℕ → Bool
lacks groups None = false
lacks groups (Some k) = not (has_target (group groups k))

-- the path belongs to a group without a target, which stands for each place that merges into it
abbrev pub is_orphan : List Mirrors → List ℕ → Bool
is_orphan groups path = lacks groups (called (before_slash path) groups)

abbrev pub origins_by : List Mirrors → List ℕ → Option ℕ → List (List ℕ)
origins_by groups path None = url_of path ∷ []
origins_by groups path (Some k) = map (asked (rest_after (before_slash path) path)) (group groups k).targets

-- of a group's path its targets, of another one the place itself
abbrev pub origins_of : List Mirrors → List ℕ → List (List ℕ)
origins_of groups path = origins_by groups path (called (before_slash path) groups)

-- each origin that a target gives with a path under these settings serves the path
pub record ServesTargets (s : Settings) (serves : List ℕ → List ℕ → Bool) : Type 0 where
  pub served : (method target path url : List ℕ) (origins : List (List ℕ))
      → reading s method target ≡ Ok (File path origins) → Contains origins url → serves url path ≡ true

-- the URL is among the origins of the path, or the path is one of a group without a target
abbrev pub is_place : List Mirrors → List ℕ → List ℕ → Bool
is_place groups url path = is_orphan groups path || list_any (bytes_eq url) (origins_of groups path)

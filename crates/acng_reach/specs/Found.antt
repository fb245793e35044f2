-- What reach keeps and tells.
use Rattle.std.specs.Prelude.{◌≡◌, ℕ, List}
use Rattle.acng_reach.specs.Caches.{Cache, indexes}
use Rattle.acng_reach.specs.Reaches.{is_reached, is_problem}
use Rattle.acng_reach.specs.Sets.{among, Rises}
use Rattle.acng_reach.specs.declared.index.Index.{Index}

-- the held paths, the current indexes, the reached paths and the folders that are problems
pub record Found : Type 0 where
  pub held : List (List ℕ)
  pub indexes : List Index
  pub paths : List (List ℕ)
  pub problems : List (List ℕ)

pub record IsFound (held : List (List ℕ)) (xs : List Index) (failed : List (List ℕ)) (r : Found) : Type 0 where
  pub held_is : r.held ≡ held
  pub indexes_are : r.indexes ≡ xs
  pub reached : (path : List ℕ) → among path r.paths ≡ is_reached held xs path
  pub problems : (text : List ℕ) → among text r.problems ≡ is_problem held xs failed text
  pub rises : Rises r.problems

-- it is what the cache's own texts say
abbrev pub IsReach : Cache → List (List ℕ) → Found → Type 0
IsReach c failed r = IsFound c.paths (indexes c) failed r

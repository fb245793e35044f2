-- A text that is a path of the cache.
use Rattle.std.specs.Prelude.{◌≡◌, ℕ, List, None}
use Rattle.acng_base.specs.Paths.{path_refusal}

pub record IsPath (text : List ℕ) : Type 0 where
  pub reads : path_refusal text ≡ None

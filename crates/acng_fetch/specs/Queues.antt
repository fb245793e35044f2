-- Downloads that wait for a loader.
use Rattle.std.specs.Prelude.{Bool, List}

-- those that wait, the longest waiting first, and whether no more are taken in
pub record Waiting (J : Type 0) : Type 0 where
  pub jobs : List J
  pub closed : Bool

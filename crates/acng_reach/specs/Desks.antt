-- The whole bodies of a desk, as reach reads them.
use Rattle.std.specs.Prelude.{ℕ, Bool, List, [], cond, is_some, Option, None, Some}
use Rattle.std.specs.Option.{unwrap_or}
use Rattle.std.specs.List.{filter}
use Rattle.std.specs.FinMap as map
use Rattle.acng_keeper.specs.Kept.{Store, Stored, stored, nothing}
use Rattle.acng_rows.specs.declared.row.Whole.{Whole}
use Rattle.acng_rows.specs.Rows.{Rows, whole_at}
use Rattle.acng_desk.specs.House.{House}
use Rattle.acng_reach.specs.Bodies.{Rest}
use Rattle.acng_reach.specs.Caches.{Cache}

-- the path has a whole body
abbrev pub has_whole : Rows → List ℕ → Bool
has_whole rows path = is_some (whole_at rows path)

-- the paths that have one, in byte order
abbrev pub held_paths : Rows → List (List ℕ)
held_paths rows = filter (has_whole rows) (map.keys rows)

-- the sealed bytes of a whole body
abbrev pub text_of : Store → Option Whole → List ℕ
text_of bodies None = []
text_of bodies (Some w) = unwrap_or (map.get bodies w.id) []

abbrev pub text_at : House → List ℕ → List ℕ
text_at h path = text_of h.kept.bodies (whole_at h.plain.rows path)

-- the cache that a desk is; where its keeper doesn't tell, no text is known
abbrev pub cache_of : Bool → House → Cache
cache_of tells h = record { paths = held_paths h.plain.rows; text = λ path. cond tells (text_at h path) [] }

abbrev pub rest_of : Bool → House → Rest
rest_of tells h = record {
  plain = h.plain;
  stored = cond tells (stored h.kept) (stored nothing);
  trail = cond tells h.kept.trail [];
  may_slip = h.faults.may_fail;
}

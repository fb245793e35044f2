-- Finite maps from paths in byte order.
use Rattle.std.specs.FinMap as map
use Rattle.std.specs.Ordering.{nat_cmp}
use Rattle.std.specs.Cmp.Lexicographic.{slice_cmp}

abbrev pub PathsTo : Type 0 → Type 0
PathsTo X = map.FinMap (slice_cmp nat_cmp) X

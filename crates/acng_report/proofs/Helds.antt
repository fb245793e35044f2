-- The held paths are all paths of which anything is told.
use Rattle.std.proofs.Common.{◌≡◌, ℕ, List, [], ◌∷◌, Option, Some, None, cond, is_some, refl, ap}
use Rattle.std.specs.List.{filter, filter_map}
use Rattle.std.specs.FinMap as map
use Rattle.acng_rows.specs.declared.row.Whole.{Whole}
use Rattle.acng_rows.specs.Rows.{whole_at}
use Rattle.acng_desk.specs.House.{Plain}
use Rattle.acng_reach.specs.Desks.{has_whole, held_paths}
use Rattle.acng_report.specs.Desks.{line_of, line_at, lines_of}

module _ (p : Plain) where
  step : (path : List ℕ) (o : Option Whole) (paths kept : List (List ℕ)) → whole_at p.rows path ≡ o
      → filter_map (line_at p) kept ≡ filter_map (line_at p) paths
      → filter_map (line_at p) (cond (is_some o) (path ∷ kept) kept) ≡ filter_map (line_at p) (path ∷ paths)
  step path None paths kept is same = rw is same
  step path (Some w) paths kept is same = rw is (ap (λ ls. line_of p path w ∷ ls) same)

  told_of : (paths : List (List ℕ)) → filter_map (line_at p) (filter (has_whole p.rows) paths) ≡ filter_map (line_at p) paths
  told_of [] = refl
  told_of (path ∷ paths) = step path (whole_at p.rows path) paths (filter (has_whole p.rows) paths) refl (told_of paths)

  pub told_held : filter_map (line_at p) (held_paths p.rows) ≡ lines_of p
  told_held = told_of (map.keys p.rows)

use Rattle.std.proofs.Common.{◌≡◌, ◌++◌, length}
use Rattle.std.specs.List.{filter_map}
use Rattle.std.specs.Vec.Iter.{into_iter_items, into_iter_len}
use Rattle.acng_reach.specs.Desks.{held_paths}
use Rattle.acng_report.specs.Desks.{line_at}
use Rattle.acng_report.proofs.rows.lines_of.Given as goal

abbrev pub invariant-loop-path : goal.invariant-loop-path
invariant-loop-path g l = record {
  can : (goal.iterator-loop-path g).can_next l.path-iterator;
  finite : (goal.iterator-loop-path g).is_finite l.path-iterator;
  count : into_iter_len l.path-iterator ≡ length (into_iter_items l.path-iterator);
  same : l.lines.items ++ filter_map (line_at l.desk.plain) (into_iter_items l.path-iterator)
      ≡ filter_map (line_at l.desk.plain) (held_paths l.desk.plain.rows);
  solid : l.classes.solid ≡ l.desk.plain.rules.pfile_pattern;
  volatile : l.classes.volatile ≡ l.desk.plain.rules.vfile_pattern;
}

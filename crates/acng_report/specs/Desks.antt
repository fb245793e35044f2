-- What the rows of a desk tell the report.
use Rattle.std.specs.Prelude.{ℕ, List, Option, option_map}
use Rattle.std.specs.List.{filter_map}
use Rattle.std.specs.FinMap as map
use Rattle.acng_class.specs.Classes.{class_of}
use Rattle.acng_rows.specs.declared.row.Whole.{Whole}
use Rattle.acng_rows.specs.Rows.{whole_at}
use Rattle.acng_desk.specs.House.{Plain}
use Rattle.acng_report.specs.declared.line.Line.{Line}

-- of a path with this whole body
abbrev pub line_of : Plain → List ℕ → Whole → Line
line_of p path w = record {
  path = path;
  size = w.size;
  class = class_of p.rules.pfile_pattern p.rules.vfile_pattern path;
  mark = w.mark;
}

-- of a path, where it has a whole body
abbrev pub line_at : Plain → List ℕ → Option Line
line_at p path = option_map (line_of p path) (whole_at p.rows path)

-- of each path of the rows, in byte order
abbrev pub lines_of : Plain → List Line
lines_of p = filter_map (line_at p) (map.keys p.rows)

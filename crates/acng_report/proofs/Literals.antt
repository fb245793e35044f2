-- Literal tables and pages, worked by hand from the rules.
use Rattle.std.proofs.Common.{◌≡◌, ℕ, false, List, [], ◌∷◌, ◌++◌, Option, Some, None, option_map, map as map_list, codes, length, refl, ap, ◌∙◌}
use Rattle.std.specs.Fmt.{digits}
use Rattle.std.specs.List.{filter_map, cons_option}
use Rattle.std.specs.FinMap as map
use Rattle.std.specs.FinMap.{find, put}
use Rattle.std.specs.Ordering.{nat_cmp}
use Rattle.std.specs.Cmp.Lexicographic.{slice_cmp, nat_list_cmp_total}
use Rattle.acng_base.specs.declared.clock.Moment.{Moment}
use Rattle.acng_class.specs.Classes.{class_of, is_by_hash, is_difference, is_index, is_found, has_solid_ending}
use Rattle.acng_class.specs.declared.class.Class.{Class}
use Rattle.acng_class.specs.declared.class.Class.TheVariants.{Solid, Volatile, Forbidden}
use Rattle.acng_rows.specs.declared.row.Whole.{Whole}
use Rattle.acng_rows.specs.Rows.{Rows, Row, bare, whole_in}
use Rattle.acng_desk.specs.House.{Plain}
use Rattle.acng_report.specs.declared.line.Line.{Line}
use Rattle.acng_report.specs.Desks.{line_of, line_at, lines_of}
use Rattle.acng_report.specs.Pages.{escaped, page_of}
use Rattle.acng_report.specs.Tables.{table}

abbrev lf : List ℕ
lf = 10 ∷ []

abbrev index : List ℕ
index = codes "h/dists/x/InRelease"

abbrev line : List ℕ → ℕ → Class → Option Moment → Line
line path size class mark = record { path = path; size = size; class = class; mark = mark }

-- ---- tables

empty_table : table [] ≡ codes "rows 0 bytes 0" ++ lf
unfolding digits
empty_table = refl

-- a mark, none, and the sum of the sizes
three_rows : table (line (codes "h/a.deb") 7 Solid None ∷ line (codes "h/b&<>") 0 Forbidden (Some (record { 0 = 0 }))
    ∷ line index 2199023255552 Volatile (Some (record { 0 = 1000000 })) ∷ [])
    ≡ codes "h/a.deb 7 solid -" ++ lf ++ codes "h/b&<> 0 forbidden 0" ++ lf ++ index ++ codes " 2199023255552 volatile 1000000" ++ lf
    ++ codes "rows 3 bytes 2199023255559" ++ lf
unfolding digits
three_rows = refl

-- ---- pages

every_escape : escaped (codes "a&b<c>&amp;d\"'") ≡ codes "a&amp;b&lt;c&gt;&amp;amp;d\"'"
every_escape = refl

empty_page : page_of [] []
    ≡ codes "<!DOCTYPE html><html><head><title>acng report</title></head><body><pre>" ++ lf ++ codes "rows 0 bytes 0" ++ lf
    ++ codes "</pre></body></html>" ++ lf
unfolding digits
empty_page = refl

empty_page_size : length (page_of [] []) ≡ 108
unfolding digits
empty_page_size = refl

first_text_size : length (page_of (codes "done removed 0 marked 0") []) ≡ 132
unfolding digits
first_text_size = refl

-- what is told of paths is escaped, the first text isn't
escaped_row : page_of (codes "<b>") (line (codes "h/<&>") 1 Forbidden None ∷ [])
    ≡ codes "<!DOCTYPE html><html><head><title>acng report</title></head><body><pre>" ++ lf ++ codes "<b>" ++ lf
    ++ codes "h/&lt;&amp;&gt; 1 forbidden -" ++ lf ++ codes "rows 1 bytes 1" ++ lf ++ codes "</pre></body></html>" ++ lf
unfolding digits
escaped_row = refl

-- ---- the lines of rows

-- whatever else is known of a body
abbrev whole : Whole → ℕ → Option Moment → Whole
whole w size mark = record w { size = size; mark = mark }

abbrev held : Whole → Row
held w = record { whole = Some w; out = None }

-- these rows, put from the last to the first
abbrev rows_of : List (List ℕ × Row) → Rows
rows_of [] = map.from_sorted []
rows_of (e ∷ es) = map.insert (rows_of es) e.0 e.1

abbrev entries_of : List (List ℕ × Row) → List (List ℕ × Row)
entries_of [] = []
entries_of (e ∷ es) = put (slice_cmp nat_cmp) e.0 e.1 (entries_of es)

entries_are : (es : List (List ℕ × Row)) → map.entries (rows_of es) ≡ entries_of es
entries_are [] = map.entries-from_sorted (slice_cmp nat_cmp) [] tt
entries_are (e ∷ es) =
    map.entries-insert nat_list_cmp_total (rows_of es) e.0 e.1 ∙ ap (put (slice_cmp nat_cmp) e.0 e.1) (entries_are es)

-- what is told by a list of entries
abbrev line_by : Plain → List (List ℕ × Row) → List ℕ → Option Line
line_by p es path = option_map (line_of p path) (whole_in (find (slice_cmp nat_cmp) path es))

lines_by : (p : Plain) (es : List (List ℕ × Row)) → map.entries p.rows ≡ es
    → lines_of p ≡ filter_map (line_by p es) (map_list (λ e. e.0) es)
lines_by p es is = told (map.keys p.rows) ∙ ap (λ xs. filter_map (line_by p es) (map_list (λ e. e.0) xs)) is
  where
    same : (path : List ℕ) → line_at p path ≡ line_by p es path
    same path = ap (λ o. option_map (line_of p path) (whole_in o))
        (map.get-entries p.rows path ∙ ap (find (slice_cmp nat_cmp) path) is)

    told : (paths : List (List ℕ)) → filter_map (line_at p) paths ≡ filter_map (line_by p es) paths
    told [] = refl
    told (path ∷ paths) = ap (λ o. cons_option o (filter_map (line_at p) paths)) (same path)
        ∙ ap (cons_option (line_by p es path)) (told paths)

-- not put in the order of their paths; a row without a whole body isn't held
abbrev put_rows : Whole → List (List ℕ × Row)
put_rows w = (codes "h/b.deb", held (whole w 20 (Some (record { 0 = 9 })))) ∷ (codes "h/a", held (whole w 3 None)) ∷ (codes "h/b", bare)
    ∷ (codes "h/B/Release", held (whole w 4 None)) ∷ []

abbrev plain : Whole → Plain
plain w = record {
  rows = rows_of (put_rows w);
  parts = map.empty;
  next_try = 4;
  next_id = 4;
  limit = 10;
  rules = record {
    threshold_days = 4;
    abort_limit = 1;
    offline = false;
    fresh_age = 60;
    redir_max = 5;
    pfile_pattern = None;
    vfile_pattern = None;
  };
}

in_byte_order : (w : Whole) → lines_of (plain w) ≡ line (codes "h/B/Release") 4 Volatile None ∷ line (codes "h/a") 3 Forbidden None
    ∷ line (codes "h/b.deb") 20 Solid (Some (record { 0 = 9 })) ∷ []
unfolding class_of is_by_hash is_difference is_index is_found has_solid_ending
in_byte_order w = lines_by (plain w) (entries_of (put_rows w)) (entries_are (put_rows w))

-- The page of a report: HTML around a first text and the table.
use Rattle.std.specs.Prelude.{◌≡◌, ℕ, Bool, ◌==◌, ◌||◌, List, [], ◌∷◌, ◌++◌, codes, cond}
use Rattle.std.specs.List.{flat_map}
use Rattle.acng_base.specs.Cuts.{line_feed, is_empty}
use Rattle.acng_report.specs.declared.line.Line.{Line}
use Rattle.acng_report.specs.Tables.{table}

-- ---- text within HTML

abbrev pub ampersand : ℕ
ampersand = 38

abbrev pub less_than : ℕ
less_than = 60

abbrev pub greater_than : ℕ
greater_than = 62

-- the byte isn't written as it is
abbrev pub is_escaped : ℕ → Bool
is_escaped b = b == ampersand || b == less_than || b == greater_than

abbrev pub escaped_byte : ℕ → List ℕ
escaped_byte b =
    cond (b == ampersand) (codes "&amp;") (cond (b == less_than) (codes "&lt;") (cond (b == greater_than) (codes "&gt;") (b ∷ [])))

abbrev pub escaped : List ℕ → List ℕ
escaped text = flat_map escaped_byte text

-- ---- the page

abbrev pub as_line : List ℕ → List ℕ
as_line text = text ++ line_feed ∷ []

-- the first text as a line, where it isn't empty
abbrev pub first_line : List ℕ → List ℕ
first_line first = cond (is_empty first) [] (as_line first)

abbrev pub page_head : List ℕ
page_head = as_line (codes "<!DOCTYPE html><html><head><title>acng report</title></head><body><pre>")

abbrev pub page_end : List ℕ
page_end = as_line (codes "</pre></body></html>")

-- a first text and a table within their page
abbrev pub around : List ℕ → List ℕ → List ℕ
around first table = page_head ++ first_line first ++ escaped table ++ page_end

abbrev pub page_of : List ℕ → List Line → List ℕ
page_of first ls = around first (table ls)

-- a page as contracts see it
pub record Page : Type 0 where
  pub bytes : List ℕ
  pub first : List ℕ

-- it has its first text, and some table
pub record IsPage (p : Page) : Type 0 where
  pub lines : List Line
  pub is : p.bytes ≡ page_of p.first lines

-- Sets of texts, as lists in byte order.
use Rattle.std.specs.Prelude.{ℕ, Bool, List, bytes_eq}
use Rattle.std.specs.List.{list_any}
use Rattle.std.specs.List.Sorted.{IsStrictlySortedBy}
use Rattle.std.specs.Ordering.{nat_cmp}
use Rattle.std.specs.Cmp.Lexicographic.{slice_cmp}

abbrev pub same : List ℕ → List ℕ → Bool
same a b = bytes_eq a b

-- the text is one of these
abbrev pub among : List ℕ → List (List ℕ) → Bool
among text texts = list_any (same text) texts

-- each text is below those after it, in byte order
abbrev pub Rises : List (List ℕ) → Type 0
Rises texts = IsStrictlySortedBy (slice_cmp nat_cmp) texts

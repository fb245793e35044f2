-- The fields of one name, as spans of the block that has the head.
use Rattle.std.specs.Prelude.{◌≡◌, ℕ, List, [], ◌∷◌, length, Option, IfSome, option_map}
use Rattle.httparse.specs.declared.spans.Span.{Span}
use Rattle.httparse.specs.Spans.{IsWithin, span_bytes}
use Rattle.acng_base.specs.declared.field.Named.{Named}
use Rattle.acng_base.specs.declared.field.Named.TheVariants.{Absent, Once, Repeated}

-- these are the values of the fields of one name
abbrev pub AreNamed : List ℕ → Named → List (List ℕ) → Type 0
AreNamed block Absent vs = vs ≡ []
AreNamed block (Once s) vs = (vs ≡ span_bytes block s ∷ []) × IsWithin (length block) s
AreNamed block Repeated vs = (v : List ℕ) × (w : List ℕ) × (more : List (List ℕ)) × (vs ≡ v ∷ w ∷ more)

-- a field that stands once has this span
abbrev pub IsOnly : List ℕ → Option Span → Option (List ℕ) → Type 0
IsOnly block s value = (option_map (span_bytes block) s ≡ value) × IfSome s (IsWithin (length block))

-- The fields of one name.
use Rattle.std.proofs.Common.{◌≡◌, ℕ, ◌⊎◌, inl, inr, List, [], ◌∷◌, ◌++◌, ap}
use Rattle.httparse.specs.declared.spans.Span.{Span}
use Rattle.httparse.specs.Spans.{span_bytes}
use Rattle.acng_base.specs.declared.field.Named.{Named}
use Rattle.acng_base.specs.declared.field.Named.TheVariants.{Absent, Once, Repeated}
use Rattle.acng_base.specs.Named.{AreNamed}

-- one more field of the name, where there is one already
pub named_again : (block x : List ℕ) (vs : List (List ℕ)) (found : Named) → ((s : Span) × (found ≡ Once s)) ⊎ (found ≡ Repeated)
    → AreNamed block found vs → AreNamed block Repeated (vs ++ x ∷ [])
named_again block x vs Absent is h = elim is [ inl k ↦ cc | inr k ↦ cc ]
named_again block x vs (Once s) is h = (span_bytes block s, x, [], ap (λ t. t ++ x ∷ []) h.0)
named_again block x vs Repeated is h = (h.0, h.1, h.2 ++ x ∷ [], ap (λ t. t ++ x ∷ []) h.3)

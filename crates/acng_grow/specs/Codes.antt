-- The code of facts, by which a `Model` may hold them.
use Rattle.std.specs.Prelude.{ℕ, List, Option}
use Rattle.std.specs.Coded.{Coded, code_by, coded×, coded_ℕ, coded_list, coded_option}
use mathlib.Core.Path.{refl}
use Rattle.acng_base.specs.declared.clock.Moment.{Moment}
use Rattle.acng_head.specs.Codes.{coded_moment}
use Rattle.acng_grow.specs.declared.facts.Facts.{Facts}

-- total, date and tag
abbrev pub coded_facts : Coded Facts
coded_facts = code_by (Option ℕ × (Option Moment × Option (List ℕ)))
    (coded× (coded_option coded_ℕ) (coded× (coded_option coded_moment) (coded_option (coded_list coded_ℕ))))
    (λ f. (f.total, (f.modified, f.tag)))
    (λ p. record { total = p.0; modified = p.1.0; tag = p.1.1 })
    (λ _. refl)

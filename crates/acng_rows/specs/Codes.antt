-- Codes of whole bodies, of tickets that are out and of rows, by which a `Model` may hold them.
use Rattle.std.specs.Prelude.{ℕ, List, Option}
use mathlib.Core.Path.{refl}
use Rattle.std.specs.Coded.{Coded, code_by, coded×, coded_ℕ, coded_list, coded_option}
use Rattle.std.specs.FinMap as map
use Rattle.acng_base.specs.declared.clock.Moment.{Moment}
use Rattle.acng_head.specs.declared.head.Label.{Label}
use Rattle.acng_head.specs.Codes.{coded_label, coded_moment}
use Rattle.acng_rows.specs.declared.row.Whole.{Whole}
use Rattle.acng_rows.specs.Rows.{Load, Row, Rows}

abbrev text : Coded (List ℕ)
text = coded_list coded_ℕ

-- the fields in their order
abbrev pub coded_whole : Coded Whole
coded_whole = code_by (ℕ × (Label × (ℕ × (Option (List ℕ) × (Option Moment × (Moment × Option Moment))))))
    (coded× coded_ℕ (coded× coded_label (coded× coded_ℕ (coded× (coded_option text)
    (coded× (coded_option coded_moment) (coded× coded_moment (coded_option coded_moment)))))))
    (λ w. (w.id, (w.label, (w.size, (w.tag, (w.modified, (w.checked, w.mark)))))))
    (λ p. record {
      id = p.0;
      label = p.1.0;
      size = p.1.1.0;
      tag = p.1.1.1.0;
      modified = p.1.1.1.1.0;
      checked = p.1.1.1.1.1.0;
      mark = p.1.1.1.1.1.1;
    })
    (λ _. refl)

abbrev pub coded_load : Coded Load
coded_load = code_by (ℕ × (ℕ × (Option ℕ × Option Label)))
    (coded× coded_ℕ (coded× coded_ℕ (coded× (coded_option coded_ℕ) (coded_option coded_label))))
    (λ o. (o.first, (o.fresh, (o.part, o.was))))
    (λ p. record { first = p.0; fresh = p.1.0; part = p.1.1.0; was = p.1.1.1 })
    (λ _. refl)

abbrev pub coded_row : Coded Row
coded_row = code_by (Option Whole × Option Load) (coded× (coded_option coded_whole) (coded_option coded_load))
    (λ r. (r.whole, r.out)) (λ p. record { whole = p.0; out = p.1 }) (λ _. refl)

abbrev pub coded_rows : Coded Rows
coded_rows = map.code text coded_row

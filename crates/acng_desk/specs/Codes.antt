-- The code of a house, by which a `Model` may hold it.
use Rattle.std.specs.Prelude.{ℕ, Bool, List, Option}
use mathlib.Core.Path.{refl}
use Rattle.std.specs.Coded.{Coded, code_by, coded×, coded_ℕ, coded_bool, coded_list, coded_option}
use Rattle.std.specs.FinMap as map
use Rattle.acng_head.specs.declared.head.Label.{Label}
use Rattle.acng_head.specs.Codes.{coded_label}
use Rattle.acng_keeper.specs.Kept.{Kept}
use Rattle.acng_keeper.specs.Handles.{Handle}
use Rattle.acng_keeper.specs.Slips.{Faults}
use Rattle.acng_keeper.specs.Codes.{coded_kept, coded_handle, coded_faults}
use Rattle.acng_conf.specs.Settings.{Rules}
use Rattle.acng_grow.specs.declared.facts.Facts.{Facts}
use Rattle.acng_grow.specs.Codes.{coded_facts}
use Rattle.acng_rows.specs.Rows.{Rows}
use Rattle.acng_rows.specs.Codes.{coded_rows}
use Rattle.acng_desk.specs.House.{Parked, Parts, Plain, House}

abbrev text : Coded (List ℕ)
text = coded_list coded_ℕ

abbrev pub coded_parked : Coded Parked
coded_parked = code_by (Handle × (List ℕ × (Label × Facts))) (coded× coded_handle (coded× text (coded× coded_label coded_facts)))
    (λ p. (p.handle, (p.url, (p.label, p.facts))))
    (λ p. record { handle = p.0; url = p.1.0; label = p.1.1.0; facts = p.1.1.1 })
    (λ _. refl)

abbrev pub coded_rules : Coded Rules
coded_rules = code_by (ℕ × (ℕ × (Bool × (ℕ × (ℕ × (Option (List ℕ) × Option (List ℕ)))))))
    (coded× coded_ℕ (coded× coded_ℕ (coded× coded_bool (coded× coded_ℕ (coded× coded_ℕ
    (coded× (coded_option text) (coded_option text)))))))
    (λ r. (r.threshold_days, (r.abort_limit, (r.offline, (r.fresh_age, (r.redir_max, (r.pfile_pattern, r.vfile_pattern)))))))
    (λ p. record {
      threshold_days = p.0;
      abort_limit = p.1.0;
      offline = p.1.1.0;
      fresh_age = p.1.1.1.0;
      redir_max = p.1.1.1.1.0;
      pfile_pattern = p.1.1.1.1.1.0;
      vfile_pattern = p.1.1.1.1.1.1;
    })
    (λ _. refl)

abbrev pub coded_plain : Coded Plain
coded_plain = code_by (Rows × (Parts × (ℕ × (ℕ × (ℕ × Rules)))))
    (coded× coded_rows (coded× (map.code text coded_parked) (coded× coded_ℕ (coded× coded_ℕ (coded× coded_ℕ coded_rules)))))
    (λ p. (p.rows, (p.parts, (p.next_try, (p.next_id, (p.limit, p.rules))))))
    (λ p. record {
      rows = p.0;
      parts = p.1.0;
      next_try = p.1.1.0;
      next_id = p.1.1.1.0;
      limit = p.1.1.1.1.0;
      rules = p.1.1.1.1.1;
    })
    (λ _. refl)

abbrev pub coded_house : Coded House
coded_house = code_by (Plain × (Kept × Faults)) (coded× coded_plain (coded× coded_kept coded_faults))
    (λ h. (h.plain, (h.kept, h.faults))) (λ p. record { plain = p.0; kept = p.1.0; faults = p.1.1 }) (λ _. refl)

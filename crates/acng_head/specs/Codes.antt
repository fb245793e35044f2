-- Codes of heads and of their parts, by which a `Model` may hold them.
use Rattle.std.specs.Prelude.{◌≡◌, ◌⊎◌, ℕ, List, Option}
use mathlib.Core.Logic.{inl, inr}
use mathlib.Core.Path.{refl}
use Rattle.std.specs.Coded.{Coded, code_by, coded×, coded⊎, coded_ℕ, coded_list, coded_option}
use Rattle.acng_base.specs.declared.clock.Moment.{Moment}
use Rattle.acng_head.specs.declared.head.Head.{Head}
use Rattle.acng_head.specs.declared.head.Label.{Label}
use Rattle.acng_head.specs.declared.head.Label.TheVariants.{Fetched, Imported}

abbrev text : Coded (List ℕ)
text = coded_list coded_ℕ

-- two attempts, or a hash and a size
abbrev parts_of : Label → (ℕ × ℕ) ⊎ (List ℕ × ℕ)
parts_of (Fetched first last) = inl (first, last)
parts_of (Imported sha256 size) = inr (sha256.0, size)

abbrev label_of : (ℕ × ℕ) ⊎ (List ℕ × ℕ) → Label
label_of (inl p) = Fetched p.0 p.1
label_of (inr p) = Imported (record { 0 = p.0 }) p.1

abbrev same : (l : Label) → label_of (parts_of l) ≡ l
same (Fetched first last) = refl
same (Imported sha256 size) = refl

abbrev pub coded_label : Coded Label
coded_label = code_by ((ℕ × ℕ) ⊎ (List ℕ × ℕ)) (coded⊎ (coded× coded_ℕ coded_ℕ) (coded× text coded_ℕ)) parts_of label_of same

abbrev pub coded_moment : Coded Moment
coded_moment = code_by ℕ coded_ℕ (λ m. m.0) (λ n. record { 0 = n }) (λ _. refl)

-- the fields in their order
abbrev pub coded_head : Coded Head
coded_head = code_by (List ℕ × (Label × (ℕ × (Option (List ℕ) × (Option Moment × (Moment × Option Moment))))))
    (coded× text (coded× coded_label (coded× coded_ℕ (coded× (coded_option text)
    (coded× (coded_option coded_moment) (coded× coded_moment (coded_option coded_moment)))))))
    (λ h. (h.path, (h.label, (h.size, (h.tag, (h.modified, (h.checked, h.mark)))))))
    (λ p. record {
      path = p.0;
      label = p.1.0;
      size = p.1.1.0;
      tag = p.1.1.1.0;
      modified = p.1.1.1.1.0;
      checked = p.1.1.1.1.1.0;
      mark = p.1.1.1.1.1.1;
    })
    (λ _. refl)

-- Codes of the views.
use Rattle.std.specs.Prelude.{◌≡◌, ℕ, zero, suc, List, Option}
use mathlib.Core.Path.{refl}
use Rattle.std.specs.Coded.{Coded, coded_ℕ, coded_list, coded_option, coded×, code_by}
use Rattle.acng_stanza.specs.Stanzas.{Field}
use Rattle.acng_stanza.specs.Readers.{Lined, Reader, Unfinished}
use Rattle.acng_stanza.specs.declared.fault.StanzaFault.{StanzaFault}
use Rattle.acng_stanza.specs.declared.fault.StanzaFault.TheVariants.{NoMemory, BadLine, LineTooLong, TooLarge}

abbrev pub coded_field : Coded Field
coded_field =
    code_by (List ℕ × (List ℕ × ℕ)) (coded× (coded_list coded_ℕ) (coded× (coded_list coded_ℕ) coded_ℕ))
    (λ f. (f.name, (f.value, f.line))) (λ p. record { name = p.0; value = p.1.0; line = p.1.1 }) (λ _. refl)

abbrev pub coded_last : Coded Unfinished
coded_last =
    code_by (List Field × (ℕ × ℕ)) (coded× (coded_list coded_field) (coded× coded_ℕ coded_ℕ)) (λ f. (f.fields, (f.size, f.line)))
    (λ p. record { fields = p.0; size = p.1.0; line = p.1.1 }) (λ _. refl)

abbrev pub coded_lined : Coded Lined
coded_lined =
    code_by (List (List Field) × Unfinished) (coded× (coded_list (coded_list coded_field)) coded_last) (λ f. (f.waiting, f.last))
    (λ p. record { waiting = p.0; last = p.1 }) (λ _. refl)

abbrev parts : StanzaFault → ℕ × ℕ
parts NoMemory = (0, 0)
parts (BadLine n) = (1, n)
parts (LineTooLong n) = (2, n)
parts (TooLarge n) = (3, n)

abbrev whole_of : ℕ → ℕ → StanzaFault
whole_of zero n = NoMemory
whole_of (suc zero) n = BadLine n
whole_of (suc (suc zero)) n = LineTooLong n
whole_of (suc (suc (suc k))) n = TooLarge n

abbrev same : (f : StanzaFault) → whole_of (parts f).0 (parts f).1 ≡ f
same NoMemory = refl
same (BadLine n) = refl
same (LineTooLong n) = refl
same (TooLarge n) = refl

abbrev pub coded_fault : Coded StanzaFault
coded_fault = code_by (ℕ × ℕ) (coded× coded_ℕ coded_ℕ) parts (λ p. whole_of p.0 p.1) same

abbrev pub coded_reader : Coded Reader
coded_reader =
    code_by (Lined × (List ℕ × Option StanzaFault)) (coded× coded_lined (coded× (coded_list coded_ℕ) (coded_option coded_fault)))
    (λ r. (r.lines, (r.held, r.fault))) (λ p. record { lines = p.0; held = p.1.0; fault = p.1.1 }) (λ _. refl)

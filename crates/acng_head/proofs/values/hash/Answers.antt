use Rattle.std.proofs.Common.{◌≡◌, ap, sym, ◌∙◌}
use Rattle.std.proofs.lemmas.Slice.Eq.{bytes_eq-Decides}
use Rattle.hex.specs.Hex.{decode_sized, encode_lower}
use Rattle.hex.proofs.HexLemmas.{decode_sized-encode_lower}
use Rattle.acng_head.proofs.values.hash.Goals as goal

pub returns-in_default : goal.returns-in_default
returns-in_default c = λ h is e.
    c.in_default.not-Ok h.0 (c.from_hex.ensures ∙ ap (λ t. decode_sized t 32) e ∙ decode_sized-encode_lower h.0 32 is.0 is.1)

pub returns-else-eq : goal.returns-else-eq
returns-else-eq c = λ h is e.
    let read = c.from_hex.ensures ∙ ap (λ t. decode_sized t 32) e ∙ decode_sized-encode_lower h.0 32 is.0 is.1 in
    let same : c.in-Ok.bytes ≡ h.0 = cc (c.in-Ok.is, read) in
    let is = (bytes_eq-Decides c.as_slice.result.now c.args.text.now).1
    (c.as_slice.ensures ∙ c.digits.ensures.digits ∙ ap encode_lower same ∙ sym e) in
    cc (sym c.if-eq.false ∙ c.eq.ensures, is)

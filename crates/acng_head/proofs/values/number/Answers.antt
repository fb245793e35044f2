use Rattle.std.proofs.Common.{◌≡◌, ap, sym, ◌∙◌, decimal}
use Rattle.std.proofs.lemmas.Slice.Eq.{bytes_eq-Decides}
use Rattle.acng_head.proofs.Numbers.{IsUtf8-decimal, parse_digits}
use Rattle.acng_head.proofs.values.number.Goals as goal

pub returns-in_default : goal.returns-in_default
returns-in_default c = λ n small e. c.in_default.ensures.cases.0 (IsUtf8-decimal n c.args.text.now small e)

pub returns-in_default-parse : goal.returns-in_default-parse
returns-in_default-parse c = λ n small e.
    c.in_default-parse.not-Ok n
    (parse_digits n c.args.text.now c.in-Ok.digits.now c.parse.result small e c.in-Ok.ensures.cases.0 c.parse.ensures.value.0)

pub returns-else-eq : goal.returns-else-eq
returns-else-eq c = λ n small e.
    let read = parse_digits n c.args.text.now c.in-Ok.digits.now c.parse.result small e c.in-Ok.ensures.cases.0 c.parse.ensures.value.0 in
    let same : c.in-Ok-parse.n ≡ n = cc (c.in-Ok-parse.is, read) in
    let is = (bytes_eq-Decides c.as_bytes.result.now c.args.text.now).1
    (c.as_bytes.ensures.value ∙ c.format.ensures.text ∙ ap decimal same ∙ sym e) in
    cc (sym c.if-eq.false ∙ c.eq.ensures, is)

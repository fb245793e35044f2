use Rattle.std.proofs.Common.{ap, arith, sym, ◌∙◌, Some}
use mathlib.Core.Bool.{true≢false}
use Rattle.acng_keeper.specs.Names.{digits_of}
use Rattle.acng_keeper.proofs.Spelled.{no_error, same_id}
use Rattle.acng_keeper.proofs.names.id_of_digits.Goals as goal

pub returns-in_default-clause-all : goal.returns-in_default-clause-all
returns-in_default-clause-all c = λ id small same.
    absurd (no_error id c.args.digits.now c.from_hex.result c.in_default.field-0 c.from_hex.ensures same c.in_default.is)

pub returns-then-id-clause-all : goal.returns-then-id-clause-all
returns-then-id-clause-all c = λ id small same.
    let e =
    same_id id c.from_be_bytes-id.result c.args.digits.now c.in-Ok.bytes c.from_hex.result small c.from_hex.ensures same
    c.in-Ok.is c.from_be_bytes-id.ensures in
    absurd (omega (arith, e, small, c.if-id.true))

pub returns-then-not-is_spelled-clause-all : goal.returns-then-not-is_spelled-clause-all
returns-then-not-is_spelled-clause-all c = λ id small same.
    let e =
    same_id id c.from_be_bytes-id.result c.args.digits.now c.in-Ok.bytes c.from_hex.result small c.from_hex.ensures same
    c.in-Ok.is c.from_be_bytes-id.ensures in
    absurd (true≢false (sym (c.if-not-is_spelled.ensures.1 (same ∙ ap digits_of (sym e)))))

pub returns-clause-all : goal.returns-clause-all
returns-clause-all c = λ id small same.
    ap Some
    (same_id id c.from_be_bytes-id.result c.args.digits.now c.in-Ok.bytes c.from_hex.result small c.from_hex.ensures same
    c.in-Ok.is c.from_be_bytes-id.ensures)

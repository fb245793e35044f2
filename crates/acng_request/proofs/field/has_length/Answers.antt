-- one that passes is found among all
use Rattle.std.proofs.Common.{sym, ◌∙◌}
use Rattle.httparse.specs.Spans.{header_bytes}
use Rattle.acng_request.specs.RequestFields.{is_length}
use Rattle.acng_request.proofs.FieldLemmas.{any_at}
use Rattle.acng_request.proofs.field.has_length.Goals as goal

pub returns-then-is_length : goal.returns-then-is_length
returns-then-is_length c =
    sym (any_at is_length (header_bytes c.args.block.now) c.args.fields.now c.loop-field.field-index _ c.loop-field-test.true (sym c.is_length.ensures ∙ c.if-is_length.true))

use Rattle.std.proofs.Common.{◌≡◌, map, take, false}
use Rattle.std.specs.List.{list_any}
use Rattle.httparse.specs.Spans.{header_bytes}
use Rattle.acng_request.specs.RequestFields.{is_length}
use Rattle.acng_request.proofs.field.has_length.Given as goal

abbrev pub invariant-loop-field : goal.invariant-loop-field
invariant-loop-field l = list_any is_length (map (header_bytes l.block) (take l.field-index l.fields)) ≡ false

use Rattle.std.proofs.Common.{map, take}
use Rattle.httparse.specs.Spans.{header_bytes}
use Rattle.acng_base.specs.Heads.{values}
use Rattle.acng_base.specs.Named.{AreNamed}
use Rattle.acng_base.proofs.field.find_name.Given as goal

abbrev pub invariant-loop-field : goal.invariant-loop-field
invariant-loop-field l = AreNamed l.block l.found (values l.name (map (header_bytes l.block) (take l.field-index l.fields)))

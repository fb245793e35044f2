use Rattle.std.proofs.Common.{ap, ◌∙◌}
use Rattle.httparse.specs.Spans.{span_bytes}
use Rattle.acng_base.specs.Fields.{length_of}
use Rattle.acng_answer.proofs.FieldLemmas.{lengths_more}
use Rattle.acng_answer.proofs.framing.another.Goals as goal

pub returns : goal.returns
returns c = λ vs h. rw c.more.ensures (lengths_more c.args.found c.read_length.result (span_bytes c.args.block.now c.args.value) vs (c.read_length.ensures.length ∙ ap length_of c.of.ensures) h)

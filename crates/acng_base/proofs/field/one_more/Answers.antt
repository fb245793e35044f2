use Rattle.httparse.specs.Spans.{span_bytes}
use Rattle.acng_base.proofs.FieldLemmas.{named_again}
use Rattle.acng_base.proofs.field.one_more.Goals as goal

pub returns-in-Once : goal.returns-in-Once
returns-in-Once c = λ block vs fits h. named_again block (span_bytes block c.args.value) vs c.args.found c.in-Once.is h

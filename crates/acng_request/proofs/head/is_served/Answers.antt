-- a short text that is refused is no token, and so none of the three
use Rattle.acng_request.proofs.MethodLemmas.{unserved}
use Rattle.acng_request.proofs.head.is_served.Goals as goal

pub returns-in-Err : goal.returns-in-Err
returns-in-Err c = unserved c.args.text.now c.from_bytes.result c.in-Err.field-0 c.in-Err.is (c.from_bytes.ensures.no_memory_needed)

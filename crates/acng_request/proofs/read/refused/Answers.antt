-- a block that is refused is kept
use Rattle.std.proofs.Common.{take, subst, refl}
use Rattle.std.specs.Prelude.{Err}
use Rattle.acng_request.specs.Nexts.{read_block}
use Rattle.acng_request.specs.Spans.{Judges}
use Rattle.acng_request.proofs.ReadLemmas.{block_refuses, block_lacks}
use Rattle.acng_request.proofs.read.refused.Goals as goal

pub returns-in-Head : goal.returns-in-Head
returns-in-Head c bytes n block judged =
    (block_refuses bytes n block c.in-Head.fault (subst (λ r. Judges (read_block (take n bytes)) (Err r)) c.in-Head.is judged), refl)

pub returns-in-NoMemory : goal.returns-in-NoMemory
returns-in-NoMemory c bytes n block judged =
    (block_lacks bytes n block (subst (λ r. Judges (read_block (take n bytes)) (Err r)) c.in-NoMemory.is judged), refl)

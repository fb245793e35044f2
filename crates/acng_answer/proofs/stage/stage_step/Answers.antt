use Rattle.std.proofs.Common.{subst}
use Rattle.acng_answer.specs.Stages.{FitsHead}
use Rattle.acng_answer.proofs.stage.stage_step.Goals as goal

pub returns-in-CountedBody-clause-head : goal.returns-in-CountedBody-clause-head
returns-in-CountedBody-clause-head c = (c.counted_step.ensures.told c.args.head.now c.args.location.now (subst (λ s. FitsHead s c.args.head.now c.args.location.now) c.in-CountedBody.is c.requires.told)).0

pub returns-in-CountedBody-clause-location : goal.returns-in-CountedBody-clause-location
returns-in-CountedBody-clause-location c = (c.counted_step.ensures.told c.args.head.now c.args.location.now (subst (λ s. FitsHead s c.args.head.now c.args.location.now) c.in-CountedBody.is c.requires.told)).1

pub returns-in-OpenBody-clause-head : goal.returns-in-OpenBody-clause-head
returns-in-OpenBody-clause-head c = (c.open_step.ensures.told c.args.head.now c.args.location.now (subst (λ s. FitsHead s c.args.head.now c.args.location.now) c.in-OpenBody.is c.requires.told)).0

pub returns-in-OpenBody-clause-location : goal.returns-in-OpenBody-clause-location
returns-in-OpenBody-clause-location c = (c.open_step.ensures.told c.args.head.now c.args.location.now (subst (λ s. FitsHead s c.args.head.now c.args.location.now) c.in-OpenBody.is c.requires.told)).1

pub returns-in-SizeLine-clause-head : goal.returns-in-SizeLine-clause-head
returns-in-SizeLine-clause-head c = (c.size_step.ensures.told c.args.head.now c.args.location.now (subst (λ s. FitsHead s c.args.head.now c.args.location.now) c.in-SizeLine.is c.requires.told)).0

pub returns-in-SizeLine-clause-location : goal.returns-in-SizeLine-clause-location
returns-in-SizeLine-clause-location c = (c.size_step.ensures.told c.args.head.now c.args.location.now (subst (λ s. FitsHead s c.args.head.now c.args.location.now) c.in-SizeLine.is c.requires.told)).1

pub returns-in-Chunk-clause-head : goal.returns-in-Chunk-clause-head
returns-in-Chunk-clause-head c = (c.chunk_step.ensures.told c.args.head.now c.args.location.now (subst (λ s. FitsHead s c.args.head.now c.args.location.now) c.in-Chunk.is c.requires.told)).0

pub returns-in-Chunk-clause-location : goal.returns-in-Chunk-clause-location
returns-in-Chunk-clause-location c = (c.chunk_step.ensures.told c.args.head.now c.args.location.now (subst (λ s. FitsHead s c.args.head.now c.args.location.now) c.in-Chunk.is c.requires.told)).1

pub returns-in-ChunkLf-clause-head : goal.returns-in-ChunkLf-clause-head
returns-in-ChunkLf-clause-head c = (c.lf_step.ensures.told c.args.head.now c.args.location.now (subst (λ s. FitsHead s c.args.head.now c.args.location.now) c.in-ChunkLf.is c.requires.told)).0

pub returns-in-ChunkLf-clause-location : goal.returns-in-ChunkLf-clause-location
returns-in-ChunkLf-clause-location c = (c.lf_step.ensures.told c.args.head.now c.args.location.now (subst (λ s. FitsHead s c.args.head.now c.args.location.now) c.in-ChunkLf.is c.requires.told)).1

pub returns-in-Trailer-clause-head : goal.returns-in-Trailer-clause-head
returns-in-Trailer-clause-head c = (c.trailer_step.ensures.told c.args.head.now c.args.location.now (subst (λ s. FitsHead s c.args.head.now c.args.location.now) c.in-Trailer.is c.requires.told)).0

pub returns-in-Trailer-clause-location : goal.returns-in-Trailer-clause-location
returns-in-Trailer-clause-location c = (c.trailer_step.ensures.told c.args.head.now c.args.location.now (subst (λ s. FitsHead s c.args.head.now c.args.location.now) c.in-Trailer.is c.requires.told)).1

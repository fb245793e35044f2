-- What the bytes held say, all that are to come say.
use Rattle.std.proofs.Common.{subst}
use Rattle.acng_request.specs.Blocks.{IsBlockOf}
use Rattle.acng_request.specs.declared.got.HeadFault.TheVariants.{TooLarge}
use Rattle.acng_request.specs.declared.read.Block.{Block}
use Rattle.acng_request.proofs.ReadLemmas.{always, refuses, untouched, taken_request, taken_refused, taken_ended, taken_no_memory, taken_form}
use Rattle.acng_request.proofs.read.read_request.Goals as goal

pub returns-in-Ok-Head-clause-request : goal.returns-in-Ok-Head-clause-request
returns-in-Ok-Head-clause-request g c =
    taken_request (g.L.Link.left c.args.link.now) (g.L.Link.left c.read_block.new.link) c.args.buf.now c.read_block.new.buf c.read_block.ensures.moved c.in-Ok-Head.head.len c.take_head.new.buf c.take_head.result c.take_head.ensures

pub returns-in-Ok-Head-clause-refused : goal.returns-in-Ok-Head-clause-refused
returns-in-Ok-Head-clause-refused g c =
    taken_refused (g.L.Link.left c.args.link.now) (g.L.Link.left c.read_block.new.link) c.args.buf.now c.read_block.new.buf c.read_block.ensures.moved c.in-Ok-Head.head.len c.take_head.new.buf c.take_head.result c.take_head.ensures

pub returns-in-Ok-Head-clause-ended : goal.returns-in-Ok-Head-clause-ended
returns-in-Ok-Head-clause-ended g c =
    taken_ended (g.L.Link.left c.args.link.now) (g.L.Link.left c.read_block.new.link) c.args.buf.now c.read_block.new.buf c.read_block.ensures.moved c.in-Ok-Head.head.len c.take_head.new.buf c.take_head.result c.take_head.ensures

pub returns-in-Ok-Head-clause-no_memory : goal.returns-in-Ok-Head-clause-no_memory
returns-in-Ok-Head-clause-no_memory g c =
    taken_no_memory (g.L.Link.left c.args.link.now) (g.L.Link.left c.read_block.new.link) c.args.buf.now c.read_block.new.buf c.read_block.ensures.moved c.in-Ok-Head.head.len c.take_head.new.buf c.take_head.result c.take_head.ensures

pub returns-in-Ok-Head-clause-form : goal.returns-in-Ok-Head-clause-form
returns-in-Ok-Head-clause-form g c = taken_form c.read_block.new.buf c.in-Ok-Head.head.len c.take_head.new.buf c.take_head.result c.take_head.ensures

pub returns-in-Ok-Head-clause-still : goal.returns-in-Ok-Head-clause-still
returns-in-Ok-Head-clause-still g c = untouched g.L.Link c.args.link.now c.read_block.new.link c.args.buf.now c.read_block.ensures.reads

pub returns-in-Ok-Whole-clause-request : goal.returns-in-Ok-Whole-clause-request
returns-in-Ok-Whole-clause-request g c =
    taken_request (g.L.Link.left c.args.link.now) (g.L.Link.left c.read_block.new.link) c.args.buf.now c.read_block.new.buf c.read_block.ensures.moved c.in-Ok-Whole.len c.take_block.new.buf c.take_block.result c.take_block.ensures

pub returns-in-Ok-Whole-clause-refused : goal.returns-in-Ok-Whole-clause-refused
returns-in-Ok-Whole-clause-refused g c =
    taken_refused (g.L.Link.left c.args.link.now) (g.L.Link.left c.read_block.new.link) c.args.buf.now c.read_block.new.buf c.read_block.ensures.moved c.in-Ok-Whole.len c.take_block.new.buf c.take_block.result c.take_block.ensures

pub returns-in-Ok-Whole-clause-ended : goal.returns-in-Ok-Whole-clause-ended
returns-in-Ok-Whole-clause-ended g c =
    taken_ended (g.L.Link.left c.args.link.now) (g.L.Link.left c.read_block.new.link) c.args.buf.now c.read_block.new.buf c.read_block.ensures.moved c.in-Ok-Whole.len c.take_block.new.buf c.take_block.result c.take_block.ensures

pub returns-in-Ok-Whole-clause-no_memory : goal.returns-in-Ok-Whole-clause-no_memory
returns-in-Ok-Whole-clause-no_memory g c =
    taken_no_memory (g.L.Link.left c.args.link.now) (g.L.Link.left c.read_block.new.link) c.args.buf.now c.read_block.new.buf c.read_block.ensures.moved c.in-Ok-Whole.len c.take_block.new.buf c.take_block.result c.take_block.ensures

pub returns-in-Ok-Whole-clause-form : goal.returns-in-Ok-Whole-clause-form
returns-in-Ok-Whole-clause-form g c = taken_form c.read_block.new.buf c.in-Ok-Whole.len c.take_block.new.buf c.take_block.result c.take_block.ensures

pub returns-in-Ok-Whole-clause-still : goal.returns-in-Ok-Whole-clause-still
returns-in-Ok-Whole-clause-still g c = untouched g.L.Link c.args.link.now c.read_block.new.link c.args.buf.now c.read_block.ensures.reads

pub returns-in-Ok-TooLong-clause-refused : goal.returns-in-Ok-TooLong-clause-refused
returns-in-Ok-TooLong-clause-refused g c =
    let P : Block → Type 0 = IsBlockOf c.read_block.new.buf c.read_block.new.headers in
    refuses (g.L.Link.left c.args.link.now) (g.L.Link.left c.read_block.new.link) c.args.buf.now c.read_block.new.buf c.read_block.ensures.moved TooLarge
    (subst P c.in-Ok-TooLong.field-0-is c.in-Ok-TooLong.ensures.block)

pub returns-in-Ok-TooLong-clause-request : goal.returns-in-Ok-TooLong-clause-request
returns-in-Ok-TooLong-clause-request g c = always (g.L.Link.left c.args.link.now)

pub returns-in-Ok-TooLong-clause-ended : goal.returns-in-Ok-TooLong-clause-ended
returns-in-Ok-TooLong-clause-ended g c = always (g.L.Link.left c.args.link.now)

pub returns-in-Ok-TooLong-clause-no_memory : goal.returns-in-Ok-TooLong-clause-no_memory
returns-in-Ok-TooLong-clause-no_memory g c = always (g.L.Link.left c.args.link.now)

pub returns-in-Ok-TooLong-clause-still : goal.returns-in-Ok-TooLong-clause-still
returns-in-Ok-TooLong-clause-still g c = untouched g.L.Link c.args.link.now c.read_block.new.link c.args.buf.now c.read_block.ensures.reads

pub returns-in-Ok-Incomplete-clause-still : goal.returns-in-Ok-Incomplete-clause-still
returns-in-Ok-Incomplete-clause-still g c = untouched g.L.Link c.args.link.now c.read_block.new.link c.args.buf.now c.read_block.ensures.reads

pub returns-in-Err-clause-still : goal.returns-in-Err-clause-still
returns-in-Err-clause-still g c = untouched g.L.Link c.args.link.now c.read_block.new.link c.args.buf.now c.read_block.ensures.reads

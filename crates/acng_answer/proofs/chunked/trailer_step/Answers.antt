use Rattle.std.proofs.Common.{arith, ◌≡◌, ◌-◌, refl, length, ap, ◌∙◌}
use Rattle.acng_answer.proofs.TrailerSteps.{end_tells, bad_tells, more_tells, full_front}
use Rattle.acng_answer.proofs.chunked.trailer_step.Goals as goal

pub returns-in-End-clause-tells : goal.returns-in-End-clause-tells
returns-in-End-clause-tells c = λ held told location.
    end_tells c.args.part c.args.state c.args.start c.args.at c.args.piece.now c.first_bytes-mine.result.now held (16384 - (c.args.at - c.args.start)) refl c.first_bytes-mine.ensures told location c.in-End.count c.args.part c.in-End.ensures.scans.0

pub returns-then-mine-room-clause-tells : goal.returns-then-mine-room-clause-tells
returns-then-mine-room-clause-tells c = λ held told location.
    more_tells c.args.part c.args.state c.args.start c.args.at c.args.piece.now c.first_bytes-mine.result.now held (16384 - (c.args.at - c.args.start)) refl c.first_bytes-mine.ensures told location
    c.in-Incomplete.state (length c.first_bytes-mine.result.now) c.in-Incomplete.ensures.scans refl (omega arith) c.requires.fits.0

pub returns-else-mine-room-clause-tells : goal.returns-else-mine-room-clause-tells
returns-else-mine-room-clause-tells c =
    rw c.bad.ensures (λ held told location.
    bad_tells c.args.part c.args.state c.args.start c.args.at c.args.piece.now c.first_bytes-mine.result.now held (16384 - (c.args.at - c.args.start)) refl c.first_bytes-mine.ensures told location
    c.in-Incomplete.state (length c.first_bytes-mine.result.now) c.in-Incomplete.ensures.scans (full_front c.args.piece.now c.first_bytes-mine.result.now (16384 - (c.args.at - c.args.start)) c.first_bytes-mine.ensures (omega arith)))

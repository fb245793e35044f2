use Rattle.std.proofs.Common.{◌+◌, List, ℕ, Ok, Err, arith, ap, drop, subst, sym, take, ◌∙◌}
use Rattle.std.proofs.lemmas.List.{take_at}
use Rattle.acng_base.specs.Buffers.{IsFilled}
use Rattle.acng_base.proofs.Buffered.{filled, not_filled}
use Rattle.acng_base.proofs.buffer.Unread.fill_from.Goals as goal

-- a vector whose items were written over by as many has those
pub returns-in-Ok : goal.returns-in-Ok
returns-in-Ok g c =
    let start = c.make_room-start.result.0 in
    let stop = c.make_room-start.result.1 in
    let bytes = c.make_room-start.new.bytes in
    let len = c.self.inside.bytes.len in
    let did = g.R.Reads.did c.args.conn.now c.read_past.new.conn in
    let held = c.make_room-start.ensures.held ∙ ap (λ xs. drop c.self.inside.start (take c.self.inside.stop xs)) c.as_mut_slice.ensures.value ∙ c.self.view_is in
    let first = take_at bytes _ len (omega (arith, c.make_room-start.auto.bytes, c.as_mut_slice.ensures.len)) in
    let last = take_at c.read_past.new.bytes _ len (omega (arith, c.read_past.auto.bytes, c.as_mut_slice-2.ensures.len)) in
    let kept = c.read_past.ensures.kept ∙ ap (take stop) (c.as_mut_slice-2.ensures.value ∙ first) in
    subst (λ (xs : List ℕ). IsFilled did c.args.self.now (drop start (take (stop + c.in-Ok.count) xs)) (Ok c.in-Ok.count)) (sym last)
    (filled did bytes c.read_past.new.bytes c.args.self.now start stop c.in-Ok.count c.make_room-start.ensures.ordered
    (omega (arith, c.read_past.auto.bytes, c.make_room-start.ensures.room)) kept held c.in-Ok.ensures.did c.in-Ok.ensures.bound.0)

pub returns-in-Err : goal.returns-in-Err
returns-in-Err g c =
    let start = c.make_room-start.result.0 in
    let stop = c.make_room-start.result.1 in
    let bytes = c.make_room-start.new.bytes in
    let len = c.self.inside.bytes.len in
    let did = g.R.Reads.did c.args.conn.now c.read_past.new.conn in
    let held = c.make_room-start.ensures.held ∙ ap (λ xs. drop c.self.inside.start (take c.self.inside.stop xs)) c.as_mut_slice.ensures.value ∙ c.self.view_is in
    let first = take_at bytes _ len (omega (arith, c.make_room-start.auto.bytes, c.as_mut_slice.ensures.len)) in
    let last = take_at c.read_past.new.bytes _ len (omega (arith, c.read_past.auto.bytes, c.as_mut_slice-2.ensures.len)) in
    let kept = c.read_past.ensures.kept ∙ ap (take stop) (c.as_mut_slice-2.ensures.value ∙ first) in
    subst (λ (xs : List ℕ). IsFilled did c.args.self.now (drop start (take stop xs)) (Err c.in-Err.fault)) (sym last)
    (not_filled did bytes c.read_past.new.bytes c.args.self.now start stop c.in-Err.fault
    (omega (arith, c.read_past.auto.bytes, c.make_room-start.ensures.room)) kept held c.in-Err.ensures.did)

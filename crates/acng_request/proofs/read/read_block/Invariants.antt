use Rattle.std.proofs.Common.{◌≡◌, ◌-◌, ◌≤◌, length, take, Some}
use Rattle.std.specs.Io.KnownBytes.{Keeps}
use Rattle.acng_base.specs.declared.block.LineState.TheVariants.{Before}
use Rattle.acng_base.specs.Lines.{state_after}
use Rattle.acng_request.specs.Gots.{ReadsWhileUndecided}
use Rattle.acng_base.specs.Buffers.{Moves}
use Rattle.acng_request.proofs.read.read_block.Given as goal

abbrev pub invariant-pieces : goal.invariant-pieces
invariant-pieces g l =
    record {
      scanned : l.scanned ≤ length l.buf;
      state : state_after Before (take l.scanned l.buf) ≡ Some l.state;
      reads : ReadsWhileUndecided g.L.Link l.fn.link l.link l.fn.buf;
      moved : Moves l.fn.buf l.buf (g.L.Link.left l.fn.link) (g.L.Link.left l.link);
      others : Keeps (g.L.Link.written l.fn.link) (g.L.Link.written l.link);
      cause : g.L.Link.faults l.link ≡ g.L.Link.faults l.fn.link;
    }

abbrev pub decreases-pieces : goal.decreases-pieces
decreases-pieces g l = 16384 - length l.buf

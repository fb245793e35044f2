use Rattle.std.proofs.Common.{◌≡◌, length}
use Rattle.acng_index.specs.Frames.{hashes, lines_of}
use Rattle.acng_index.proofs.frame.read_hashes.Given as goal

abbrev pub invariant-loop-len : goal.invariant-loop-len
invariant-loop-len l = hashes l.fn.first (lines_of l.fn.text) ≡ hashes l.line (lines_of l.left)

abbrev pub decreases-loop-len : goal.decreases-loop-len
decreases-loop-len l = length l.left

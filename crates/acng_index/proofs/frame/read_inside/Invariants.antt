use Rattle.std.proofs.Common.{◌≡◌, ◌++◌, Ok, length}
use Rattle.acng_index.specs.Texts.{and_then}
use Rattle.acng_index.specs.Frames.{inside, lines_of}
use Rattle.acng_index.proofs.frame.read_inside.Given as goal

abbrev pub invariant-loop-left : goal.invariant-loop-left
invariant-loop-left l = inside l.fn.first (lines_of l.fn.text) ≡ and_then (inside l.line (lines_of l.left)) (λ t. Ok (l.out.items ++ t))

abbrev pub decreases-loop-left : goal.decreases-loop-left
decreases-loop-left l = length l.left

use Rattle.std.proofs.Common.{◌≡◌, ◌++◌}
use Rattle.percent_encoding.specs.Iter.{encoded_text}
use Rattle.acng_conf.specs.Places.{escaped_path}
use Rattle.acng_conf.proofs.place.push_escaped.Given as goal

abbrev pub invariant-loop-piece : goal.invariant-loop-piece
invariant-loop-piece l = l.initial.bytes.items ++ escaped_path l.path ≡ l.bytes.items ++ encoded_text l.piece-iterator

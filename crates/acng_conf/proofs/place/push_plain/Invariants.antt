use Rattle.std.proofs.Common.{◌≡◌, ◌++◌}
use Rattle.percent_encoding.specs.Iter.{decoded_bytes}
use Rattle.acng_conf.specs.Places.{plain_path}
use Rattle.acng_conf.proofs.Plain.{plain_from}
use Rattle.acng_conf.proofs.place.push_plain.Given as goal

abbrev pub invariant-loop-b : goal.invariant-loop-b
invariant-loop-b l = l.initial.bytes.items ++ plain_path l.path ≡ l.bytes.items ++ plain_from l.begins (decoded_bytes l.b-iterator)

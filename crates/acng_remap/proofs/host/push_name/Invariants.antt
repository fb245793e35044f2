use Rattle.std.proofs.Common.{◌≡◌, ◌++◌, take}
use Rattle.std.specs.Str.{str_to_ascii_lowercase}
use Rattle.acng_remap.proofs.host.push_name.Given as goal

abbrev pub invariant-loop-b : goal.invariant-loop-b
invariant-loop-b l = l.bytes.items ≡ l.initial.bytes.items ++ str_to_ascii_lowercase (take l.b-index l.name)

use Rattle.std.proofs.Common.{◌≡◌, ◌-◌, length, take, drop}
use Rattle.acng_site.proofs.NextBytes.{next_and_rest}
use Rattle.acng_site.proofs.memory.MemoryConnConn.read.Goals as goal

pub returns-clause-bytes : goal.returns-clause-bytes
returns-clause-bytes g c =
    let bytes = c.self.inside.bytes in
    let at = c.self.inside.at in
    let count = c.copy_at_most-count in
    let is = c.as_bytes.ensures in
    let front : take count.result count.new.to ≡ take count.result (take (length bytes - at) (drop at bytes)) =
    rw is at count.ensures.front in
    let view = c.self.view_is in
    let parts = next_and_rest bytes count.new.to at count.result front in
    cc (parts, view)

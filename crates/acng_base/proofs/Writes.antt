-- The front of a piece that was written, after one more write.
use Rattle.std.proofs.Common.{ℕ, ◌+◌, ◌-◌, length, List, subst, take, drop}
use Rattle.std.specs.declared.option.Option.{Option}
use Rattle.std.specs.Io.KnownBytes.{Appends}
use Rattle.std.proofs.KnownBytes.{Appends-trans}
use Rattle.acng_base.proofs.Ranges.{front_and_more}

pub front_grows : (old mid new : Option (List ℕ)) (piece : List ℕ) (sent n : ℕ) → Appends old mid (take sent piece)
    → Appends mid new (take n (take (length piece - sent) (drop sent piece))) → Appends old new (take (sent + n) piece)
front_grows old mid new piece sent n before more =
    subst (λ bs. Appends old new bs) (front_and_more sent n piece)
    (Appends-trans old mid new (take sent piece) (take n (take (length piece - sent) (drop sent piece))) before more)

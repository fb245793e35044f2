-- What a hash of bytes that come in pieces has taken (FIPS 180-4).
use Rattle.std.specs.Prelude.{ℕ, List}
use Rattle.sha2.specs.Hashers.{Holds256}
use Rattle.acng_base.specs.declared.hash.HashSoFar.{HashSoFar}

-- these are the bytes that were taken so far; the hasher's state doesn't determine them
abbrev pub HasTaken : HashSoFar → List ℕ → Type 0
HasTaken h taken = Holds256 h.hasher taken

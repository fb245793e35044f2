-- When a call on the outside may say that it failed, and what a broken write leaves.
use Rattle.std.specs.Prelude.{◌≡◌, ℕ, ◌+◌, ◌-◌, ◌^◌, ◌≤◌, min, List, length, take, OnOk, OnErr, MatchResult, Result}
use Rattle.std.specs.Io.KnownBytes.{Appends}
use Rattle.std.specs.declared.option.Option.{Option}

-- the count after one more fault; it stands still at its last value
abbrev pub one_more : ℕ → ℕ
one_more count = min (count + 1) (2 ^ 64 - 1)

-- a count rose, or stands at its last value
abbrev pub Rose : ℕ → ℕ → Type 0
Rose before now = one_more before ≤ now

-- a count of faults never falls, an error comes only where it rose, and success only where it didn't
pub record HasCause {T E : Type 0} (before now : ℕ) (result : Result T E) : Type 0 where
  pub later : before ≤ now
  pub worked : OnOk result (now ≡ before)
  pub failed : OnErr result (Rose before now)

-- all of the piece was appended, or at an error a front of it
abbrev pub SendsAll : {T E : Type 0} → Option (List ℕ) → Option (List ℕ) → List ℕ → Result T E → Type 0
SendsAll old new piece result =
    MatchResult result (λ _. Appends old new piece) (λ _. (n : ℕ) × (n ≤ length piece) × Appends old new (take n piece))

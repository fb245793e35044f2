-- A link over memory, as contracts see it, and what each of its calls does.
use Rattle.std.specs.Prelude.{◌≡◌, ◌≤◌, ℕ, ◌+◌, ◌-◌, Bool, true, false, ◌||◌, ◌==◌, min, List, [], ◌++◌, length, take, drop, MatchResult, Result}
use Rattle.std.specs.List.{list_any}
use Rattle.acng_base.specs.Causes.{one_more}

pub record Pipe : Type 0 where
  -- the bytes that are left to read
  pub left : List ℕ
  -- the bytes written
  pub written : List ℕ
  -- how many more may be written
  pub room : ℕ
  -- the most bytes that one call moves
  pub cut : ℕ
  -- the calls so far; the count stands still at its last value
  pub calls : ℕ
  -- the numbers of the calls that fail
  pub fail : List ℕ
  pub faults : ℕ

-- the call that comes is one of those that fail
abbrev pub fails : Pipe → Bool
fails p = list_any (λ k. k == p.calls) p.fail

-- the pipe after a call that failed: no byte moved, and the fault is counted
abbrev pub after_fault : Pipe → Pipe
after_fault p = record p { calls = one_more p.calls; faults = one_more p.faults }

-- the pipe after a read of n bytes
abbrev pub after_read : Pipe → ℕ → Pipe
after_read p n = record p { left = drop n p.left; calls = one_more p.calls }

-- the pipe after these bytes were written
abbrev pub after_write : Pipe → List ℕ → Pipe
after_write p bytes = record p { written = p.written ++ bytes; room = p.room - length bytes; calls = one_more p.calls }

-- a read into a buffer of a length gives as many bytes as are left, fit, and are at most the cut
abbrev pub ReadsAs : {E : Type 0} → Pipe → Pipe → ℕ → Result ℕ E → Type 0
ReadsAs old new len result =
    MatchResult result
    (λ n. (fails old ≡ false) × (n ≡ min (min (length old.left) old.cut) len) × (new ≡ after_read old n))
    (λ _. (fails old ≡ true) × (new ≡ after_fault old))

-- a write takes as many bytes as there are, have room, and are at most the cut; with no room left it fails
abbrev pub WritesAs : {E : Type 0} → Pipe → Pipe → List ℕ → Result ℕ E → Type 0
WritesAs old new piece result =
    MatchResult result
    (λ n. ((fails old || old.room == 0) ≡ false) × (n ≡ min (min (length piece) old.cut) old.room)
    × (new ≡ after_write old (take n piece)))
    (λ _. ((fails old || old.room == 0) ≡ true) × (new ≡ after_fault old))

-- a pipe of which nothing was used yet
abbrev pub fresh : List ℕ → ℕ → ℕ → List ℕ → Pipe
fresh input room cut fail = record { left = input; written = []; room = room; cut = cut; calls = 0; fail = fail; faults = 0 }

-- what a link over memory keeps: a place within its input, a cut, and memory for all that it may write
pub record IsSound (at input cut output room capacity : ℕ) : Type 0 where
  pub within : at ≤ input
  pub cuts : 1 ≤ cut
  pub fits : output + room ≤ capacity

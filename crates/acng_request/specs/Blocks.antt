-- What a reading of a block says of the bytes that are held.
use Rattle.std.specs.Prelude.{◌≡◌, ℕ, ◌≤◌, List, length, take, Some, Result, MatchResult, ⊤}
use Rattle.httparse.specs.Spans.{IsRequestWithin}
use Rattle.httparse.specs.declared.spans.HeaderSpan.{HeaderSpan}
use Rattle.httparse.specs.declared.spans.RequestSpans.{RequestSpans}
use Rattle.acng_base.specs.Lines.{lines, head_block_len}
use Rattle.acng_request.specs.Nexts.{next, Asks, Refuses, Ends}
use Rattle.acng_request.specs.declared.got.Got.{Got}
use Rattle.acng_request.specs.declared.got.Got.TheVariants as got
use Rattle.acng_request.specs.declared.got.HeadFault.TheVariants.{TooLarge}
use Rattle.acng_request.specs.declared.read.Block.{Block}
use Rattle.acng_request.specs.declared.read.Block.TheVariants.{Head, Whole, TooLong, Incomplete}
use Rattle.acng_request.specs.Gots.{AskSome}
use Rattle.acng_request.specs.RequestHeads.{head_of, inner_lines}
use Rattle.acng_request.specs.Spans.{head_at}

-- a block of so many bytes stands at the front of what is held
pub record IsBlock (bytes : List ℕ) (n : ℕ) : Type 0 where
  pub is : head_block_len bytes ≡ Some n
  pub within : n ≤ length bytes
  pub few : length bytes ≤ 16384

-- a block stands at the front of what is held, it is a head of at most 64 lines, and the spans cover it
pub record IsHeadBlock (bytes : List ℕ) (headers : List HeaderSpan) (r : RequestSpans) : Type 0 where
  pub block : IsBlock bytes r.len
  pub within : IsRequestWithin bytes headers r
  pub few : inner_lines (lines (take r.len bytes)) ≤ 64
  pub head : head_of (take r.len bytes) ≡ Some (head_at bytes r (take r.headers headers))

abbrev pub IsBlockOf : List ℕ → List HeaderSpan → Block → Type 0
IsBlockOf bytes headers (Head r) = IsHeadBlock bytes headers r
IsBlockOf bytes headers (Whole n) = IsBlock bytes n
IsBlockOf bytes headers TooLong = next bytes ≡ Refuses TooLarge
IsBlockOf bytes headers Incomplete = next bytes ≡ Ends

-- a fact where the link ended inside a block
abbrev pub OnIncomplete : Block → Type 0 → Type 0
OnIncomplete Incomplete P = P
OnIncomplete _ P = ⊤

-- what is held decides nothing where the link failed
abbrev pub IsUndecidedUnlessOk : {T E : Type 0} → List ℕ → Result T E → Type 0
IsUndecidedUnlessOk bytes result = MatchResult result (λ _. ⊤) (λ _. next bytes ≡ Ends)

-- what the block at the front of what is held asks; only a request uses it up
abbrev pub TakesBlock : List ℕ → ℕ → List ℕ → Got → Type 0
TakesBlock old n new (got.Request r) = (next old ≡ Asks r new)
TakesBlock old n new (got.Refused f) = (next old ≡ Refuses f) × (new ≡ old)
TakesBlock old n new got.NoMemory = AskSome old × (new ≡ old)
TakesBlock old n new _ = ⊥

-- What a loader has beside the body: the path, what the download is for, and its attempts.
use Rattle.std.specs.Prelude.{◌≡◌, ℕ, List, Option, IfSome}
use Rattle.acng_desk.specs.declared.ticket.Info.{Info}
use Rattle.acng_grow.specs.declared.facts.Seen.{Seen}
use Rattle.acng_grow.specs.Effects.{Errand}

-- the path, the errand, the numbers of the first attempt and of the next one, and how many are left
pub record Stock : Type 0 where
  pub path : List ℕ
  pub errand : Errand
  pub first : ℕ
  pub next : ℕ
  pub left : ℕ
  -- what the ticket says that it is by
  pub info : Info

-- what is to be seen of the body, where one owner has it, is as the plan says
abbrev pub Agrees : Option Seen → Seen → Type 0
Agrees seen plan = IfSome seen (λ s. s ≡ plan)

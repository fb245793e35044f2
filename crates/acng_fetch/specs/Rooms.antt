-- How many bytes of a body may still come, whatever the site does.
use Rattle.std.specs.Prelude.{◌≡◌, ◌≤◌, ℕ, ◌+◌, Option, Some, None, ⊤}
use Rattle.acng_grow.specs.Keeps.{most_bytes}
use Rattle.acng_fetch.specs.declared.exchange.End.{End}
use Rattle.acng_fetch.specs.declared.exchange.End.TheVariants as ends

-- what is due fills the size up to the total
pub record HasDue (due : Option ℕ) (size total : ℕ) : Type 0 where
  pub rest : ℕ
  pub is : due ≡ Some rest
  pub fills : size + rest ≡ total
  pub small : total ≤ most_bytes

-- there is room for all that may come: up to the known total, or up to the reader's limit
abbrev pub Room : Option ℕ → Option ℕ → ℕ → ℕ → ℕ → Type 0
Room None due size at limit = size + limit ≤ most_bytes + at
Room (Some total) due size at limit = HasDue due size total

abbrev pub IfWhole : {P : Type 0} → End P → Type 0 → Type 0
IfWhole ends.Whole A = A
IfWhole ends.Early A = ⊤
IfWhole (ends.Bad at) A = ⊤
IfWhole (ends.Slip p) A = ⊤

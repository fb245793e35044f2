-- Whether a body is the asked one.
use Rattle.std.specs.Prelude.{◌≡◌, ℕ, ◌-◌, Bool, true, false, ◌&&◌, ◌||◌, ◌==◌, nat_le, nat_lt, Option, None, Some, bytes_eq, is_some}
use Rattle.acng_head.specs.declared.head.Label.{Label}
use Rattle.acng_head.specs.declared.head.Label.TheVariants.{Fetched, Imported}
use Rattle.acng_grow.specs.declared.asked.Asked.{Asked}
use Rattle.acng_grow.specs.declared.asked.Look.{Look}
use Rattle.acng_grow.specs.declared.why.Shown.{Shown}
use Rattle.acng_grow.specs.Causes.{named}
use Rattle.acng_grow.specs.Effects.{has_ended}
use Rattle.acng_grow.specs.Grown.{Grown}

-- one of the sixteen numbers of a ticket
abbrev pub is_among : ℕ → ℕ → Bool
is_among first n = nat_le first n && nat_lt (n - first) 16

abbrev pub is_fetched : ℕ → ℕ → Option Label → Bool
is_fetched first last None = false
is_fetched first last (Some (Fetched f l)) = (f == first) && (l == last)
is_fetched first last (Some (Imported hash size)) = false

-- no label, or a fetched one that is the old one or has its last attempt among the ticket's
abbrev pub label_agrees : ℕ → Option Label → Option Label → Bool
label_agrees first_try old None = true
label_agrees first_try old (Some (Fetched first last)) = is_fetched first last old || is_among first_try last
label_agrees first_try old (Some (Imported hash size)) = false

abbrev pub named_among : ℕ → Option ℕ → Bool
named_among first_try None = true
named_among first_try (Some n) = is_among first_try n

-- each attempt that the cause names is among the ticket's
abbrev pub cause_agrees : ℕ → Option Shown → Bool
cause_agrees first_try None = true
cause_agrees first_try (Some c) = named_among first_try (named c)

abbrev pub agrees : Asked → Grown → Bool
agrees a g = bytes_eq g.path a.path && label_agrees a.first_try a.old g.seen.label && cause_agrees a.first_try g.seen.shown

-- what a look tells
pub record LooksAt (g : Grown) (l : Look) : Type 0 where
  pub stage : l.stage ≡ g.seen.stage
  pub facts : l.facts ≡ g.seen.facts
  pub label : l.label ≡ g.seen.label
  pub shown : l.shown ≡ g.seen.shown
  pub ended : is_some l.shown ≡ has_ended l.stage

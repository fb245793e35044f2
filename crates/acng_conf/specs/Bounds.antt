-- What holds of each configuration that is read.
use Rattle.std.specs.Prelude.{ℕ, ◌≤◌, List, [], ◌∷◌, length, All}
use Rattle.std.specs.Bool.{⊤}
use Rattle.acng_conf.specs.Settings.{Mirrors, Settings, most_groups, most_entries, most_targets}
use Rattle.acng_conf.specs.declared.fault.Warning.{Warning}

-- the lines of the warnings rise, from this one on
abbrev pub AreRising : ℕ → List Warning → Type 0
AreRising low [] = ⊤
AreRising low (w ∷ ws) = (low ≤ w.line) × AreRising w.line ws

abbrev pub HasFewTargets : Mirrors → Type 0
HasFewTargets g = length g.targets ≤ most_targets

pub record IsBounded (s : Settings) : Type 0 where
  pub port : 1 ≤ s.port
  pub groups : length s.groups ≤ most_groups
  pub entries : s.entries ≤ most_entries
  pub targets : All HasFewTargets s.groups
  pub warnings : AreRising 0 s.warnings

-- What a dial answers to an attempt with an ask.
use Rattle.std.specs.Prelude.{◌≡◌, ℕ, true, [], ⊤}
use Rattle.acng_site.specs.declared.ask.Ask.{Ask}
use Rattle.acng_site.specs.declared.conn.Conn.{Ghosts as ConnGhosts}
use Rattle.acng_site.specs.declared.conn.OriginSlip.{Ghosts as SlipGhosts}
use Rattle.acng_site.specs.declared.site.Site.{Ghosts as SiteGhosts}
use Rattle.acng_site.specs.declared.origin.Dial.{Dial}
use Rattle.acng_site.specs.declared.origin.Dial.TheVariants.{Up, Fault, NoMemory}

-- where the site tells, the connection's type tells too, all that the site sends in attempt n with ask a is still to
-- come, and a fault follows where the site faults
pub record BringsAll {S C P : Type 0} (s : SiteGhosts S) (k : ConnGhosts C P) (n : ℕ) (a : Ask) (c : C) : Type 0 where
  pub tells : k.tells ≡ true
  pub left : k.left c ≡ s.sent n a
  pub fault : k.faulted c ≡ s.faulted n a

-- the connection is of attempt n with ask a
pub record ComesUp {S C P : Type 0} (s : SiteGhosts S) (k : ConnGhosts C P) (n : ℕ) (a : Ask) (c : C) : Type 0 where
  pub number : k.number c ≡ n
  pub ask : k.ask c ≡ a
  pub told : s.tells ≡ true → BringsAll s k n a c

-- the slip is of attempt n with ask a; one at once comes only where the site faults without a byte
pub record Faults {S P : Type 0} (s : SiteGhosts S) (l : SlipGhosts P) (n : ℕ) (a : Ask) (p : P) : Type 0 where
  pub number : l.number p ≡ n
  pub ask : l.ask p ≡ a
  pub told : s.tells ≡ true → (s.faulted n a ≡ true) × (s.sent n a ≡ [])

-- by the meanings of the site, of the connection and of the slip
abbrev pub DialsFor : {S C P : Type 0} → SiteGhosts S → ConnGhosts C P → SlipGhosts P → ℕ → Ask → Dial C P → Type 0
DialsFor s k l n a (Up c) = ComesUp s k n a c
DialsFor s k l n a (Fault p) = Faults s l n a p
DialsFor s k l n a NoMemory = ⊤

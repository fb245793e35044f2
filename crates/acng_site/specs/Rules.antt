-- What a table of rules says of a site, and what an origin over it does. The rules are this project's own.
use Rattle.std.specs.Prelude.{◌≡◌, ◌<◌, ℕ, Bool, true, false, ◌&&◌, ◌==◌, nat_le, min, cond}
use Rattle.std.specs.Prelude.{List, [], ◌∷◌, length, drop, Option, Some, None, Result, MatchResult, ⊤}
use Rattle.std.specs.Str.{bytes_eq}
use Rattle.acng_site.specs.declared.ask.Ask.{Ask}
use Rattle.acng_site.specs.declared.rule.Rule.{Rule}
use Rattle.acng_site.specs.declared.site.Site.{Ghosts as SiteGhosts}
use Rattle.acng_site.specs.declared.origin.Dial.{Dial}
use Rattle.acng_site.specs.declared.origin.Dial.TheVariants.{Up, Fault, NoMemory}

-- the rule is for the ask in the attempt of this number
abbrev pub answers : Rule → ℕ → Ask → Bool
answers r n a = bytes_eq r.url a.url && r.from == a.from && nat_le r.first n && nat_le n r.last

-- the first of the rules that is for it
abbrev pub first_rule : List Rule → ℕ → Ask → Option Rule
first_rule [] n a = None
first_rule (r ∷ rs) n a = cond (answers r n a) (Some r) (first_rule rs n a)

abbrev pub bytes_of : Option Rule → List ℕ
bytes_of None = []
bytes_of (Some r) = r.bytes

-- without a rule the attempt faults
abbrev pub fault_of : Option Rule → Bool
fault_of None = true
fault_of (Some r) = r.fault

-- the site sends and faults as the rules say
pub record AreRules {S : Type 0} (s : SiteGhosts S) (rules : List Rule) : Type 0 where
  pub bytes : (n : ℕ) (a : Ask) → s.sent n a ≡ bytes_of (first_rule rules n a)
  pub faults : (n : ℕ) (a : Ask) → s.faulted n a ≡ fault_of (first_rule rules n a)

-- an origin over memory: its rules, and the most bytes that a read gives
pub record Table : Type 0 where
  pub rules : List Rule
  pub cut : ℕ

-- a connection of it: its attempt and ask, the bytes that are left, whether a fault follows them, and the cut
pub record Answering : Type 0 where
  pub number : ℕ
  pub ask : Ask
  pub left : List ℕ
  pub fault : Bool
  pub cut : ℕ

-- the connection by a rule
abbrev pub begun : ℕ → ℕ → Ask → Rule → Answering
begun cut n a r = record { number = n; ask = a; left = r.bytes; fault = r.fault; cut = cut }

-- a dial comes up by the first rule for it, and faults where there is none
abbrev pub DialsBy : {P : Type 0} → Table → ℕ → Ask → Dial Answering P → Type 0
DialsBy t n a (Up c) = (r : Rule) × (first_rule t.rules n a ≡ Some r) × (c ≡ begun t.cut n a r)
DialsBy t n a (Fault p) = first_rule t.rules n a ≡ None
DialsBy t n a NoMemory = ⊤

-- the connection after n bytes
abbrev pub after_bytes : Answering → ℕ → Answering
after_bytes c n = record { number = c.number; ask = c.ask; left = drop n c.left; fault = c.fault; cut = c.cut }

-- a read into a buffer of a length gives as many bytes as are left, fit, and are at most the cut; where none is left
-- and a fault follows, it gives a slip
abbrev pub ReadsAs : {E : Type 0} → Answering → Answering → ℕ → Result ℕ E → Type 0
ReadsAs old new len result =
    MatchResult result
    (λ n. (n ≡ min (min (length old.left) old.cut) len) × (new ≡ after_bytes old n) × (n ≡ 0 → 0 < len → old.fault ≡ false))
    (λ _. (old.left ≡ []) × (old.fault ≡ true) × (0 < len) × (new ≡ old))

-- Where a loader stands between two attempts, and what an attempt makes of its plan.
use Rattle.std.specs.Prelude.{◌≡◌, ◌⊎◌, ◌<◌, ◌≤◌, ℕ, Bool, true, List, [], drop, unwrap_or, Option, Some, None, option_map}
use Rattle.std.specs.Prelude.{IfSome, IsSomeAnd, is_some}
use Rattle.std.specs.Prelude.{if◌then◌else◌, ⊤}
use Rattle.acng_keeper.specs.declared.slip.KeepFault.{KeepFault}
use Rattle.acng_keeper.specs.declared.slip.KeepFault.TheVariants as fault
use Rattle.acng_grow.specs.declared.facts.Seen.{Seen}
use Rattle.acng_grow.specs.declared.facts.Stage.TheVariants.{Opening, Running, Same}
use Rattle.acng_grow.specs.declared.why.Why.{Why}
use Rattle.acng_grow.specs.declared.why.Shown.{Shown}
use Rattle.acng_grow.specs.declared.why.Shown.TheVariants as shown
use Rattle.acng_grow.specs.Causes.{shown_of, named, may_cut, may_refuse}
use Rattle.acng_head.specs.declared.head.Label.{Label}
use Rattle.acng_head.specs.declared.head.Label.TheVariants.{Fetched, Imported}
use Rattle.acng_grow.specs.Effects.{Errand, Old, opening, runs, last_of}
use Rattle.acng_grow.specs.Download.{Stand, Asking, Going, After, Done, On, Turn, begins, download, left_of, since_of}
use Rattle.acng_site.specs.declared.site.Site.{Ghosts as SiteGhosts}
use Rattle.acng_site.specs.Honest.{heard}
use Rattle.acng_fetch.specs.declared.standing.Standing.{Standing}
use Rattle.acng_fetch.specs.declared.standing.Standing.TheVariants as stand
use Rattle.acng_fetch.specs.declared.standing.Turned.{Turned}
use Rattle.acng_fetch.specs.declared.standing.Turned.TheVariants as turned

-- ---- where it stands

abbrev pub url_of : Seen → List ℕ
url_of p = unwrap_or p.url []

-- in terms of the download
abbrev pub stand_of : {P Q : Type 0} → (P → ℕ) → (Q → ℕ) → Errand → Seen → Standing P Q → Stand
stand_of number call e p (stand.Asking last ranged url next followed) =
    Asking (option_map (shown_of number call 0) last) (if ranged then e.part else None) url (drop next e.origins) followed
stand_of number call e p (stand.Going kept) = Going (url_of p) p.facts p.size (shown_of number call (last_of p.label) kept)

-- a label of downloads, whose last attempt is one from `first` up to and without n
abbrev pub IsAmong : ℕ → ℕ → Label → Type 0
IsAmong first n (Fetched a b) = (first ≤ b) × (b < n)
IsAmong first n (Imported hash size) = ⊥

-- a cause that names none but such an attempt
abbrev pub Names : ℕ → ℕ → Shown → Type 0
Names first n cause = IfSome (named cause) (λ k. (first ≤ k) × (k < n))

-- a body that runs by such attempts
pub record RunsIn (first : ℕ) (p : Seen) (n : ℕ) : Type 0 where
  pub running : p.stage ≡ Running
  pub unshown : p.shown ≡ None
  pub among : IsSomeAnd p.label (IsAmong first n)

-- a cause with which a running body may be cut
pub record Cuts (last : ℕ) (cause : Shown) : Type 0 where
  pub cuts : may_cut cause ≡ true
  pub order : IfSome (named cause) (λ k. last ≤ k)

-- before an attempt the body hasn't opened, and no file was taken for it
pub record OpensIn {P Q : Type 0} (number : P → ℕ) (call : Q → ℕ) (first : ℕ) (p : Seen) (full : Bool) (n : ℕ)
    (last : Option (Why P Q)) : Type 0 where
  pub seen : p ≡ opening
  pub untaken : full ≡ true
  pub refuses : IfSome last (λ w. may_refuse (shown_of number call 0 w) ≡ true)
  pub names : IfSome last (λ w. Names first n (shown_of number call 0 w))

-- or it runs
pub record GoesIn {P Q : Type 0} (number : P → ℕ) (call : Q → ℕ) (first : ℕ) (p : Seen) (n : ℕ) (kept : Why P Q) : Type 0 where
  pub is : RunsIn first p n
  pub cause : Cuts (last_of p.label) (shown_of number call (last_of p.label) kept)
  pub names : Names first n (shown_of number call (last_of p.label) kept)

-- the next attempt has the number n
abbrev pub StandsIn : {P Q : Type 0} → (P → ℕ) → (Q → ℕ) → ℕ → Seen → Bool → ℕ → Standing P Q → Type 0
StandsIn number call first p full n (stand.Asking last ranged url next followed) = OpensIn number call first p full n last
StandsIn number call first p full n (stand.Going kept) = GoesIn number call first p n kept

-- an attempt was made, so that there is a cause to end with
abbrev pub IsTried : {P Q : Type 0} → Standing P Q → Type 0
IsTried (stand.Asking None ranged url next followed) = ⊥
IsTried (stand.Asking (Some w) ranged url next followed) = ⊤
IsTried (stand.Going kept) = ⊤

-- a body that ended by such attempts
pub record IsEnded (e : Errand) (first : ℕ) (p : Seen) (n : ℕ) : Type 0 where
  pub opened : p.stage ≡ Opening → ⊥
  pub ended : p.stage ≡ Running → ⊥
  pub among : (p.stage ≡ Same → ⊥) → IfSome p.label (IsAmong first n)
  pub same : p.stage ≡ Same → p.label ≡ option_map (λ (o : Old). o.label) e.old
  pub asked : p.stage ≡ Same → is_some (since_of e) ≡ true
  pub names : IfSome p.shown (Names first n)

-- ---- what an attempt makes of it

abbrev pub follows : {P Q : Type 0} → (P → ℕ) → (Q → ℕ) → Errand → Seen → Turned P Q → After
follows number call e p turned.Done = Done
follows number call e p (turned.Again s) = On (stand_of number call e p s)

abbrev pub AfterIn : {P Q : Type 0} → (P → ℕ) → (Q → ℕ) → Errand → ℕ → Seen → Bool → ℕ → Turned P Q → Type 0
AfterIn number call e first p full n turned.Done = IsEnded e first p n
AfterIn number call e first p full n (turned.Again s) = StandsIn number call first p full n s × IsTried s

-- the plan has the turn's effects, and the code's answer is what follows it
pub record Turns {P Q : Type 0} (number : P → ℕ) (call : Q → ℕ) (e : Errand) (t : Turn) (old new : Seen) (r : Turned P Q) : Type 0 where
  pub seen : runs e t.effects old ≡ new
  pub after : t.after ≡ follows number call e new r

-- where a fault may come: want of memory anywhere, a slip of the file while the body runs
abbrev pub FaultsIn : {Q : Type 0} → ℕ → Seen → ℕ → KeepFault Q → Type 0
FaultsIn first p n (fault.Slip q) = RunsIn first p n
FaultsIn first p n fault.NoMemory = (p ≡ opening) ⊎ RunsIn first p n

-- a body that a fault of its file or want of memory closed
abbrev pub IsFault : Option Shown → Type 0
IsFault None = ⊥
IsFault (Some (shown.Keeper mark)) = ⊤
IsFault (Some shown.NoMemory) = ⊤
IsFault (Some (shown.Origin n)) = ⊥
IsFault (Some (shown.Early n)) = ⊥
IsFault (Some (shown.Bad n at)) = ⊥
IsFault (Some (shown.Status n s)) = ⊥
IsFault (Some (shown.TlsRedirect n)) = ⊥
IsFault (Some (shown.Redirects n)) = ⊥
IsFault (Some (shown.Gone n)) = ⊥

-- a download with so many tries ends with this to be seen and so many tries left
pub record IsDownload {S : Type 0} (s : SiteGhosts S) (e : Errand) (tries first left : ℕ) (p : Seen) : Type 0 where
  pub seen : runs e (download (heard s) e tries first) opening ≡ p
  pub rest : left_of (heard s) e tries first (begins e.origins e.part) ≡ left

-- it ended so, or by a fault of its file or want of memory
abbrev pub IsLoaded : {S : Type 0} → SiteGhosts S → Errand → ℕ → ℕ → ℕ → Seen → Type 0
IsLoaded s e tries first left p = IsDownload s e tries first left p ⊎ IsFault p.shown

-- What a body keeps.
use Rattle.std.specs.Prelude.{◌≡◌, ◌⊎◌, ◌<◌, ◌≤◌, ◌^◌, ℕ, Bool, true, false, List, length, None, IfSome, IsSome, is_some, ⊤}
use Rattle.acng_site.specs.declared.site.Site.{Ghosts as SiteGhosts}
use Rattle.acng_head.specs.declared.head.Label.{Label}
use Rattle.acng_head.specs.declared.head.Label.TheVariants.{Fetched, Imported}
use Rattle.acng_base.specs.Moments.{moment_limit}
use Rattle.acng_grow.specs.declared.facts.Facts.{Facts}
use Rattle.acng_grow.specs.declared.facts.Seen.{Seen}
use Rattle.acng_grow.specs.declared.facts.Stage.TheVariants.{Opening, Running, Whole, Cut, Same, Refused}
use Rattle.acng_grow.specs.declared.why.Shown.{Shown}
use Rattle.acng_grow.specs.Causes.{IsLawful, may_cut, may_refuse, named}
use Rattle.acng_grow.specs.Stands.{StandsFor, StandsWhole, FactsStand}
use Rattle.acng_grow.specs.Grown.{Grown, text_of, size_in}

-- the most bytes of a body
abbrev pub most_bytes : ℕ
most_bytes = 2 ^ 41

-- attempts have numbers below this one
abbrev pub attempts_end : ℕ
attempts_end = 2 ^ 63

-- the label's attempts are in order and in range
abbrev pub IsBounded : Label → Type 0
IsBounded (Fetched first last) = (first ≤ last) × (last < attempts_end)
IsBounded (Imported hash size) = ⊤

abbrev pub IsFetched : Label → Type 0
IsFetched (Fetched first last) = ⊤
IsFetched (Imported hash size) = ⊥

-- the date is one that HTTP can write
abbrev pub IsDated : Facts → Type 0
IsDated facts = IfSome facts.modified (λ m. m.0 < moment_limit)

-- a known total isn't below the size
abbrev pub HasRoom : Facts → ℕ → Type 0
HasRoom facts size = IfSome facts.total (λ t. size ≤ t)

-- a known total is the size
abbrev pub HasTotal : Facts → ℕ → Type 0
HasTotal facts size = IfSome facts.total (λ t. t ≡ size)

-- an attempt that the cause names isn't below the label's last one
abbrev pub NotBelow : Label → Shown → Type 0
NotBelow (Fetched first last) cause = IfSome (named cause) (λ n. last ≤ n)
NotBelow (Imported hash size) cause = ⊤

-- ---- by stage

pub record IsOpening (g : Seen) : Type 0 where
  pub label : g.label ≡ None
  pub url : g.url ≡ None
  pub shown : g.shown ≡ None
  pub size : g.size ≡ 0

pub record IsRunning (g : Seen) : Type 0 where
  pub url : IsSome g.url
  pub label : IsSome g.label
  pub fetched : IfSome g.label IsFetched
  pub shown : g.shown ≡ None

pub record IsWhole (g : Seen) : Type 0 where
  pub url : IsSome g.url
  pub label : IsSome g.label
  pub fetched : IfSome g.label IsFetched
  pub shown : g.shown ≡ None
  pub total : HasTotal g.facts g.size

pub record IsSame (g : Seen) : Type 0 where
  pub label : IsSome g.label
  pub shown : g.shown ≡ None
  pub total : HasTotal g.facts g.size

pub record IsCut (g : Seen) : Type 0 where
  pub label : IsSome g.label
  pub fetched : IfSome g.label IsFetched
  pub shown : IsSome g.shown
  pub cuts : IfSome g.shown (λ c. may_cut c ≡ true)
  pub order : IfSome g.label (λ l. IfSome g.shown (NotBelow l))

pub record IsRefused (g : Seen) : Type 0 where
  pub label : g.label ≡ None
  pub size : g.size ≡ 0
  pub shown : IsSome g.shown
  pub refuses : IfSome g.shown (λ c. may_refuse c ≡ true)

-- ---- all but the text and the file

pub record KeepsSeen {S : Type 0} (s : SiteGhosts S) (path : List ℕ) (g : Seen) : Type 0 where
  -- where the site tells
  pub place : s.tells ≡ true → IfSome g.url (λ u. s.serves u path ≡ true)
  pub facts : IfSome g.label (λ l. FactsStand s path g.url l g.facts)
  pub lawful : s.tells ≡ true → IfSome g.shown (λ c. IsLawful s path c)
  -- always
  pub small : g.size ≤ most_bytes
  pub room : HasRoom g.facts g.size
  pub dated : IsDated g.facts
  pub bounded : IfSome g.label IsBounded
  pub opening : g.stage ≡ Opening → IsOpening g
  pub running : g.stage ≡ Running → IsRunning g
  pub whole : g.stage ≡ Whole → IsWhole g
  pub same : g.stage ≡ Same → IsSame g
  pub cut : g.stage ≡ Cut → IsCut g
  pub refused : g.stage ≡ Refused → IsRefused g

-- ---- the text

pub record KeepsText {S : Type 0} (s : SiteGhosts S) (path : List ℕ) (g : Seen) (text : List ℕ) : Type 0 where
  pub size : g.size ≡ length text
  pub stands : IfSome g.label (λ l. StandsFor s path l text)
  pub whole : g.stage ≡ Whole → IfSome g.label (λ l. StandsWhole s path l text)
  pub same : g.stage ≡ Same → IfSome g.label (λ l. StandsWhole s path l text)

-- what is kept of a body with a text
pub record Keeps {S : Type 0} (s : SiteGhosts S) (path : List ℕ) (g : Seen) (bytes : List ℕ) : Type 0 where
  pub seen : KeepsSeen s path g
  pub text : KeepsText s path g bytes

-- ---- a growing body

-- its file is there where it has to be, and isn't sealed before it is whole
pub record KeepsFile (g : Grown) : Type 0 where
  pub size : g.seen.size ≡ size_in g.file
  pub opening : g.seen.stage ≡ Opening → is_some g.file ≡ false
  pub running : g.seen.stage ≡ Running → IsSome g.file
  pub whole : g.seen.stage ≡ Whole → IsSome g.file
  pub same : g.seen.stage ≡ Same → IsSome g.file
  pub refused : g.seen.stage ≡ Refused → is_some g.file ≡ false
  pub url : g.seen.stage ≡ Cut → IsSome g.file → IsSome g.seen.url
  pub writable : (g.seen.stage ≡ Running) ⊎ (g.seen.stage ≡ Cut) → IfSome g.file (λ f. f.0.writable ≡ true)

-- the text is known only where the file tells it
pub record IsSound {S : Type 0} (s : SiteGhosts S) (tells : Bool) (g : Grown) : Type 0 where
  pub seen : KeepsSeen s g.path g.seen
  pub text : tells ≡ true → KeepsText s g.path g.seen (text_of g)
  pub file : KeepsFile g

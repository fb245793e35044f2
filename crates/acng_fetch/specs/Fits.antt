-- What is true between two attempts of a download on an honest site, and while an attempt's body is taken.
use Rattle.std.specs.Prelude.{◌≡◌, ◌≤◌, ◌<◌, ℕ, ◌+◌, true, List, length, Option, Some, None, IfSome, ⊤}
use Rattle.acng_base.specs.Answers.{Outcome}
use Rattle.acng_base.specs.Answers.Outcome.{Whole as IsWhole}
use Rattle.acng_site.specs.declared.ask.Ask.{Ask}
use Rattle.acng_site.specs.declared.site.Site.{Ghosts as SiteGhosts}
use Rattle.acng_site.specs.Honest.{heard}
use Rattle.acng_head.specs.declared.head.Label.TheVariants.{Fetched}
use Rattle.acng_grow.specs.declared.facts.Facts.{Facts}
use Rattle.acng_grow.specs.declared.facts.Seen.{Seen}
use Rattle.acng_grow.specs.declared.facts.Stage.TheVariants.{Running}
use Rattle.acng_grow.specs.declared.why.Shown.{Shown}
use Rattle.acng_grow.specs.Causes.{IsLawful, may_cut, may_refuse}
use Rattle.acng_grow.specs.Effects.{Errand, Part, opening, runs}
use Rattle.acng_grow.specs.Download.{Asking, Going, After, Done, On, Turn}
use Rattle.acng_grow.specs.Stands.{IsGiven, StandsAt}
use Rattle.acng_grow.specs.Keeps.{NotBelow, most_bytes}
use Rattle.acng_grow.specs.Allowed.{AllAllowed}
use Rattle.acng_fetch.specs.Orders.{AllServe}

-- what is to be seen of a body that runs
abbrev pub running : ℕ → ℕ → List ℕ → Facts → ℕ → Seen
running first last url facts held =
    record { url = Some url; stage = Running; label = Some (Fetched first last); facts = facts; size = held; shown = None }

-- what stays true of a running body through all attempts
pub record IsFrom {S : Type 0} (s : SiteGhosts S) (path : List ℕ) (first last : ℕ) (url : List ℕ) (facts : Facts) : Type 0 where
  pub ordered : first ≤ last
  pub place : s.serves url path ≡ true
  pub given : IsGiven s path (Some url) first facts
  pub total : (n : ℕ) → facts.total ≡ Some n → n ≡ length (s.instance first path)

-- a cause with which a body may be refused, and one with which a body of these attempts may be cut
abbrev pub IsRefusal : {S : Type 0} → SiteGhosts S → List ℕ → Shown → Type 0
IsRefusal s path cause = IsLawful s path cause × (may_refuse cause ≡ true)

abbrev pub IsCutFrom : {S : Type 0} → SiteGhosts S → List ℕ → ℕ → ℕ → Shown → Type 0
IsCutFrom s path first last cause = IsLawful s path cause × (may_cut cause ≡ true) × NotBelow (Fetched first last) cause

-- before the body opens
pub record IsAsking {S : Type 0} (s : SiteGhosts S) (path : List ℕ) (e : Errand) (last : Option Shown) (ranged : Option Part)
    (url : List ℕ) (rest : List (List ℕ)) (g : Seen) : Type 0 where
  pub seen : g ≡ opening
  pub place : s.serves url path ≡ true
  pub rest_serve : AllServe s path rest
  pub cause : IfSome last (IsRefusal s path)
  pub part : IfSome ranged (λ p. e.part ≡ Some p)

-- while it runs, the next attempt having the number n
pub record IsGoing {S : Type 0} (s : SiteGhosts S) (path : List ℕ) (n : ℕ) (url : List ℕ) (facts : Facts) (held : ℕ) (kept : Shown)
    (g : Seen) : Type 0 where
  pub first : ℕ
  pub last : ℕ
  pub seen : g ≡ running first last url facts held
  pub from : IsFrom s path first last url facts
  pub before : last < n
  pub tag : List ℕ
  pub tagged : facts.tag ≡ Some tag
  pub fits : held ≤ length (s.instance first path)
  pub cause : IsCutFrom s path first last kept

-- between two attempts, the next of them with the number n
abbrev pub Fits : {S : Type 0} → SiteGhosts S → List ℕ → Errand → ℕ → After → Seen → Type 0
Fits s path e n Done g = ⊤
Fits s path e n (On (Asking last ranged url rest followed)) g = IsAsking s path e last ranged url rest g
Fits s path e n (On (Going url facts held kept)) g = IsGoing s path n url facts held kept g

-- the body of an answer goes on with the file from a place on, to its end where the answer is whole
pub record Continues (file : List ℕ) (held : ℕ) (body : List ℕ) (outcome : Outcome) : Type 0 where
  pub stands : StandsAt file held body
  pub inside : held + length body ≤ length file
  pub small : held + length body ≤ most_bytes
  pub all : outcome ≡ IsWhole → held + length body ≡ length file

-- an attempt at a place of the file ended so
pub record Heard {S : Type 0} (s : SiteGhosts S) (path : List ℕ) (n : ℕ) (outcome : Outcome) : Type 0 where
  pub ask : Ask
  pub place : s.serves ask.url path ≡ true
  pub is : (heard s n ask).outcome ≡ outcome

-- the effects of an attempt are allowed, and what is true between attempts is true after it
pub record Leads {S : Type 0} (s : SiteGhosts S) (path : List ℕ) (e : Errand) (n : ℕ) (g : Seen) (t : Turn) : Type 0 where
  pub allowed : AllAllowed s path e g t.effects
  pub fits : Fits s path e n t.after (runs e t.effects g)

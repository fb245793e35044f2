-- When an effect may come: the conditions of the methods of a growing body. They name the path and what is to be seen,
-- and never the text.
use Rattle.std.specs.Prelude.{◌≡◌, ◌<◌, ◌≤◌, ℕ, ◌+◌, true, List, [], ◌∷◌, length, None, Some, IfSome, IsSomeAnd, ⊤}
use Rattle.acng_site.specs.declared.site.Site.{Ghosts as SiteGhosts}
use Rattle.acng_head.specs.declared.head.Label.TheVariants.{Fetched}
use Rattle.acng_grow.specs.declared.facts.Facts.{Facts}
use Rattle.acng_grow.specs.declared.facts.Seen.{Seen}
use Rattle.acng_grow.specs.declared.facts.Stage.TheVariants.{Opening, Running}
use Rattle.acng_grow.specs.declared.why.Shown.{Shown}
use Rattle.acng_grow.specs.Causes.{IsLawful, may_cut, may_refuse}
use Rattle.acng_grow.specs.Stands.{StandsFor, StandsWhole, StandsAt, FactsStand, file_of}
use Rattle.acng_grow.specs.Keeps.{IsBounded, IsDated, HasRoom, HasTotal, NotBelow, most_bytes, attempts_end}
use Rattle.acng_grow.specs.Effects.{Effect, Start, GoOn, Resume, Bytes, Finish, Same, Refuse, Cut, Part, Old, Errand, Texts}
use Rattle.acng_grow.specs.Effects.{after, last_of}

-- the body opens empty, by attempt n at a URL
pub record MayStart {S : Type 0} (s : SiteGhosts S) (path : List ℕ) (g : Seen) (n : ℕ) (url : List ℕ) (f : Facts) : Type 0 where
  pub opening : g.stage ≡ Opening
  pub bounded : n < attempts_end
  pub dated : IsDated f
  pub place : s.tells ≡ true → s.serves url path ≡ true
  pub facts : FactsStand s path (Some url) (Fetched n n) f

-- it opens with a partial body, which attempt n goes on with
pub record MayGoOn {S : Type 0} (s : SiteGhosts S) (path : List ℕ) (g : Seen) (n : ℕ) (p : Part) : Type 0 where
  pub opening : g.stage ≡ Opening
  pub order : p.first ≤ n
  pub bounded : n < attempts_end
  pub small : p.size ≤ most_bytes
  pub room : HasRoom p.facts p.size
  pub dated : IsDated p.facts
  pub place : s.tells ≡ true → s.serves p.url path ≡ true
  pub facts : FactsStand s path (Some p.url) (Fetched p.first n) p.facts

-- attempt n gives the rest
pub record MayResume (g : Seen) (n : ℕ) : Type 0 where
  pub running : g.stage ≡ Running
  pub order : last_of g.label ≤ n
  pub bounded : n < attempts_end

-- the piece comes next in the file
pub record MayAdd {S : Type 0} (s : SiteGhosts S) (path : List ℕ) (g : Seen) (piece : List ℕ) : Type 0 where
  pub running : g.stage ≡ Running
  pub small : g.size + length piece ≤ most_bytes
  pub room : HasRoom g.facts (g.size + length piece)
  pub stands : s.tells ≡ true → IfSome g.label (λ l. StandsAt (file_of s path l) g.size piece)

-- all of the file is there
pub record MayFinish {S : Type 0} (s : SiteGhosts S) (path : List ℕ) (g : Seen) : Type 0 where
  pub running : g.stage ≡ Running
  pub total : HasTotal g.facts g.size
  pub whole : s.tells ≡ true → IfSome g.label (λ l. length (file_of s path l) ≡ g.size)

-- a held body is kept
pub record MayKeep {S : Type 0} (s : SiteGhosts S) (path : List ℕ) (g : Seen) (o : Old) : Type 0 where
  pub opening : g.stage ≡ Opening
  pub small : o.size ≤ most_bytes
  pub total : o.facts.total ≡ Some o.size
  pub bounded : IsBounded o.label
  pub dated : IsDated o.facts
  pub facts : FactsStand s path None o.label o.facts

-- the body is closed with a cause before it opens
pub record MayRefuse {S : Type 0} (s : SiteGhosts S) (path : List ℕ) (g : Seen) (cause : Shown) : Type 0 where
  pub opening : g.stage ≡ Opening
  pub refuses : may_refuse cause ≡ true
  pub lawful : s.tells ≡ true → IsLawful s path cause

-- or while it runs
pub record MayCut {S : Type 0} (s : SiteGhosts S) (path : List ℕ) (g : Seen) (cause : Shown) : Type 0 where
  pub running : g.stage ≡ Running
  pub cuts : may_cut cause ≡ true
  pub order : IfSome g.label (λ l. NotBelow l cause)
  pub lawful : s.tells ≡ true → IsLawful s path cause

abbrev pub Allowed : {S : Type 0} → SiteGhosts S → List ℕ → Errand → Seen → Effect → Type 0
Allowed s path e g (Start n url facts) = MayStart s path g n url facts
Allowed s path e g (GoOn n) = IsSomeAnd e.part (MayGoOn s path g n)
Allowed s path e g (Resume n) = MayResume g n
Allowed s path e g (Bytes text) = MayAdd s path g text
Allowed s path e g Finish = MayFinish s path g
Allowed s path e g Same = IsSomeAnd e.old (MayKeep s path g)
Allowed s path e g (Refuse cause) = MayRefuse s path g cause
Allowed s path e g (Cut cause) = MayCut s path g cause

-- each effect is allowed where it comes
abbrev pub AllAllowed : {S : Type 0} → SiteGhosts S → List ℕ → Errand → Seen → List Effect → Type 0
AllAllowed s path e g [] = ⊤
AllAllowed s path e g (x ∷ xs) = Allowed s path e g x × AllAllowed s path e (after e g x) xs

-- ---- the texts of the bodies that a download begins with

pub record PartStands {S : Type 0} (s : SiteGhosts S) (path : List ℕ) (text : List ℕ) (p : Part) : Type 0 where
  pub size : p.size ≡ length text
  pub stands : StandsFor s path (Fetched p.first p.last) text

pub record OldStands {S : Type 0} (s : SiteGhosts S) (path : List ℕ) (text : List ℕ) (o : Old) : Type 0 where
  pub size : o.size ≡ length text
  pub stands : StandsWhole s path o.label text

pub record TextsStand {S : Type 0} (s : SiteGhosts S) (path : List ℕ) (e : Errand) (held : Texts) : Type 0 where
  pub part : IfSome e.part (PartStands s path held.part)
  pub old : IfSome e.old (OldStands s path held.old)

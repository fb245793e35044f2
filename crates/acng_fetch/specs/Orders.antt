-- What a download may begin with: origins that serve the path, a partial body that may be gone on with, and a held body.
use Rattle.std.specs.Prelude.{◌≡◌, ◌<◌, ◌≤◌, ℕ, true, List, [], ◌∷◌, length, None, Some, IfSome, ⊤}
use Rattle.acng_site.specs.declared.site.Site.{Ghosts as SiteGhosts}
use Rattle.acng_head.specs.declared.head.Label.TheVariants.{Fetched}
use Rattle.acng_grow.specs.Effects.{Errand, Part, Old}
use Rattle.acng_grow.specs.Keeps.{IsBounded, IsDated, HasRoom, most_bytes}
use Rattle.acng_grow.specs.Stands.{FactsStand}

-- each of the URLs is a place of the path's file
abbrev pub AllServe : {S : Type 0} → SiteGhosts S → List ℕ → List (List ℕ) → Type 0
AllServe s path [] = ⊤
AllServe s path (url ∷ urls) = (s.serves url path ≡ true) × AllServe s path urls

-- a body that was cut, by attempts before the first one of a download
pub record PartKeeps {S : Type 0} (s : SiteGhosts S) (path : List ℕ) (first_try : ℕ) (p : Part) : Type 0 where
  pub ordered : p.first ≤ p.last
  pub before : p.last < first_try
  pub small : p.size ≤ most_bytes
  pub room : HasRoom p.facts p.size
  pub dated : IsDated p.facts
  pub place : s.tells ≡ true → s.serves p.url path ≡ true
  pub facts : FactsStand s path (Some p.url) (Fetched p.first p.last) p.facts
  pub held : s.tells ≡ true → p.size ≤ length (s.instance p.first path)

-- a whole body that is held
pub record OldKeeps {S : Type 0} (s : SiteGhosts S) (path : List ℕ) (o : Old) : Type 0 where
  pub small : o.size ≤ most_bytes
  pub total : o.facts.total ≡ Some o.size
  pub bounded : IsBounded o.label
  pub dated : IsDated o.facts
  pub facts : FactsStand s path None o.label o.facts

pub record ErrandKeeps {S : Type 0} (s : SiteGhosts S) (path : List ℕ) (first_try : ℕ) (e : Errand) : Type 0 where
  pub origins : s.tells ≡ true → AllServe s path e.origins
  pub part : IfSome e.part (PartKeeps s path first_try)
  pub old : IfSome e.old (OldKeeps s path)

-- The law of downloads: on an honest site each effect of a download is allowed where it comes.
use Rattle.std.specs.Prelude.{◌≡◌, ◌≤◌, ℕ, ◌+◌, true, List, [], ◌++◌}
use Rattle.acng_site.specs.declared.site.Site.{Ghosts as SiteGhosts}
use Rattle.acng_site.specs.Honest.{IsHonest, heard}
use Rattle.acng_grow.specs.Effects.{Effect, Errand, Texts, opening, runs, spells}
use Rattle.acng_grow.specs.Download.{download}
use Rattle.acng_grow.specs.Keeps.{Keeps, attempts_end}
use Rattle.acng_grow.specs.Allowed.{AllAllowed, TextsStand}
use Rattle.acng_fetch.specs.Orders.{ErrandKeeps}

-- what is supposed of a site and of what a download of so many tries begins with
pub record MayLoad {S : Type 0} (s : SiteGhosts S) (path : List ℕ) (first tries : ℕ) (e : Errand) : Type 0 where
  pub tells : s.tells ≡ true
  pub honest : IsHonest s
  pub errand : ErrandKeeps s path first e
  pub bounded : first + tries ≤ attempts_end

-- each effect is allowed where it comes
abbrev pub DownloadsAllowed : {S : Type 0} → SiteGhosts S → Type 0
DownloadsAllowed s = (path : List ℕ) (first tries : ℕ) (e : Errand) → MayLoad s path first tries e
    → AllAllowed s path e opening (download (heard s) e tries first)

-- after each front of the effects the body keeps all that a body keeps
abbrev pub DownloadsKeep : {S : Type 0} → SiteGhosts S → Type 0
DownloadsKeep s = (path : List ℕ) (first tries : ℕ) (e : Errand) (held : Texts) (xs ys : List Effect) → MayLoad s path first tries e
    → TextsStand s path e held → xs ++ ys ≡ download (heard s) e tries first → Keeps s path (runs e xs opening) (spells held xs [])

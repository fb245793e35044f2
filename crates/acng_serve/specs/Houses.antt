-- What a desk is after a request: as it was, or with a path's ticket given out and settled.
use Rattle.std.specs.Prelude.{◌≡◌, ◌⊎◌, ℕ, true, List}
use Rattle.acng_base.specs.declared.clock.Moment.{Moment}
use Rattle.acng_site.specs.declared.site.Site.{Ghosts as SiteGhosts}
use Rattle.acng_grow.specs.Grown.{Grown}
use Rattle.acng_desk.specs.House.{Plain, spot_at}
use Rattle.acng_desk.specs.Tickets.{Ticketed}
use Rattle.acng_desk.specs.Begins.{led, info_of}
use Rattle.acng_desk.specs.Settles.{Ends, IsLoaded, Falls, end_of}
use Rattle.acng_desk.specs.Commands.{step, Settle}

-- the ticket of a path, with these origins, came in with a body that ended as its download does, or by a fault of the keeper
-- or want of memory; and it was settled so, or as a refused call leaves it
pub record Settled {S : Type 0} (s : SiteGhosts S) (path : List ℕ) (origins : List (List ℕ)) (now : Moment) (p q : Plain) : Type 0 where
  pub ticket : Ticketed
  pub body : Grown
  pub info : ticket.info ≡ info_of path origins now (spot_at p path)
  pub at : body.path ≡ path
  pub ends : Ends ticket body
  pub loaded : s.tells ≡ true → IsLoaded s ticket body.seen
  pub left : (q ≡ step (Settle ticket body) (led path p))
      ⊎ Falls (end_of (spot_at (led path p) path) ticket body) ticket body (led path p) q

-- after a file was asked for
abbrev pub AfterFile : {S : Type 0} → SiteGhosts S → List ℕ → List (List ℕ) → Moment → Plain → Plain → Type 0
AfterFile s path origins now p q = (q ≡ p) ⊎ Settled s path origins now p q

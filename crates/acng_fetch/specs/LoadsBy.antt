-- What a load leaves.
use Rattle.std.specs.Prelude.{◌≡◌, ◌⊎◌, true}
use Rattle.acng_site.specs.declared.site.Site.{Ghosts as SiteGhosts}
use Rattle.acng_grow.specs.Agrees.{label_agrees, cause_agrees}
use Rattle.acng_grow.specs.Grown.{Grown}
use Rattle.acng_desk.specs.House.{House, spot_at}
use Rattle.acng_desk.specs.Tickets.{Ticketed}
use Rattle.acng_keeper.specs.Slips.{Later}
use Rattle.acng_desk.specs.declared.settle.Settled.{Settled}
use Rattle.acng_desk.specs.Settles.{Ends, IsLoaded, Falls, SettledAs, end_of, grown_after, was_label}
use Rattle.acng_desk.specs.Commands.{step, Settle}

-- the ticket as it was spent, and the body as it was then: it ended as the ticket's download does, or by a fault of its file
-- or want of memory; its label and its cause are of the ticket's attempts; and the desk settled it
pub record LoadsBy {S : Type 0} (s : SiteGhosts S) (t : Ticketed) (old new : House) (final : Grown) : Type 0 where
  pub spent : Ticketed
  pub body : Grown
  pub info : spent.info ≡ t.info
  pub ends : Ends spent body
  pub loaded : s.tells ≡ true → IsLoaded s spent body.seen
  pub label : label_agrees t.info.first (was_label t.info) body.seen.label ≡ true
  pub cause : cause_agrees t.info.first body.seen.shown ≡ true
  pub left : (new.plain ≡ step (Settle spent body) old.plain)
      ⊎ Falls (end_of (spot_at old.plain body.path) spent body) spent body old.plain new.plain
  pub is : (final ≡ body) ⊎ (final ≡ grown_after (end_of (spot_at old.plain body.path) spent body) body)

-- behind locks: in one critical section some house settled the ticket, and answered so
pub record LoadsThrough {S P : Type 0} (s : SiteGhosts S) (t : Ticketed) (answer : Settled P) : Type 0 where
  pub old : House
  pub fresh : House
  pub final : Grown
  pub loads : LoadsBy s t old fresh final
  pub answers : SettledAs (end_of (spot_at old.plain loads.body.path) loads.spent loads.body) old.faults fresh.faults answer
  pub later : Later old.faults fresh.faults

-- The answer of an attempt, and the turn that it brings.
use Rattle.std.specs.Prelude.{◌≡◌, ℕ, Bool, true, List, Option, IsSome}
use Rattle.acng_base.specs.Answers.{Reading}
use Rattle.acng_site.specs.declared.conn.Conn.{Ghosts as ConnGhosts}
use Rattle.acng_site.specs.declared.site.Site.{Ghosts as SiteGhosts}
use Rattle.acng_answer.specs.declared.step.AnswerHead.{AnswerHead}
use Rattle.acng_grow.specs.declared.facts.Facts.{Facts}
use Rattle.acng_grow.specs.declared.facts.Seen.{Seen}
use Rattle.acng_grow.specs.Effects.{Errand}
use Rattle.acng_grow.specs.Download.{Stand, Turn, flows}
use Rattle.acng_grow.specs.Allowed.{AllAllowed}
use Rattle.acng_fetch.specs.declared.exchange.Exchange.{Exchange}
use Rattle.acng_fetch.specs.Decisions.{headed_told}
use Rattle.acng_fetch.specs.Events.{IsReady}
use Rattle.acng_fetch.specs.Stocks.{Stock}

-- the answer of attempt n, whose head is told; its connection tells where the site does
pub record IsHeaded {C P : Type 0} (c : ConnGhosts C P) (site_tells : Bool) (n : ℕ) (x : Exchange C) : Type 0 where
  pub ready : IsReady x
  pub head : IsSome x.reader.head
  pub number : c.number x.conn ≡ n
  pub tells : site_tells ≡ true → c.tells ≡ true

-- where the site tells, each effect of the turn is allowed where it comes
abbrev pub MayTurn : {S : Type 0} → SiteGhosts S → Stock → Errand → Seen → Turn → Type 0
MayTurn s k e p t = s.tells ≡ true → AllAllowed s k.path e p t.effects

-- what is left of a reading is taken
abbrev pub takes : ℕ → List ℕ → Facts → ℕ → Reading → Turn
takes n url facts held r = flows n url facts held r.body r.outcome

-- what is told of a head brings this, with what is left of the reading behind it
abbrev pub heads : Errand → ℕ → Stand → AnswerHead → Option (List ℕ) → Reading → Turn
heads e n s h location r = headed_told e n s h location r.body r.outcome

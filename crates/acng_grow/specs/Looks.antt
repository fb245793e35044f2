-- What a look at the asked body tells for good, whatever becomes of the body.
use Rattle.std.specs.Prelude.{◌≡◌, ◌≢◌, true, false, None, Some, IfSome, IsSome, is_some}
use Rattle.acng_site.specs.declared.site.Site.{Ghosts as SiteGhosts}
use Rattle.acng_grow.specs.declared.asked.Asked.{Asked}
use Rattle.acng_grow.specs.declared.asked.Look.{Look}
use Rattle.acng_grow.specs.declared.facts.Stage.TheVariants as stage
use Rattle.acng_grow.specs.declared.why.Shown.{Shown}
use Rattle.acng_grow.specs.Agrees.{label_agrees, cause_agrees}
use Rattle.acng_grow.specs.Causes.{IsLawful, may_cut}
use Rattle.acng_grow.specs.Effects.{has_ended}
use Rattle.acng_grow.specs.Keeps.{IsDated}
use Rattle.acng_grow.specs.Stands.{FactsStand}

-- a look at a body that has opened or was refused
pub record LookStands {S : Type 0} (s : SiteGhosts S) (asked : Asked) (l : Look) : Type 0 where
  pub opened : l.stage ≢ stage.Opening
  pub ended : is_some l.shown ≡ has_ended l.stage
  -- the label, the cause and the facts
  pub label : label_agrees asked.first_try asked.old l.label ≡ true
  pub labelled : has_ended l.stage ≡ false → IsSome l.label
  pub cause : cause_agrees asked.first_try l.shown ≡ true
  pub lawful : s.tells ≡ true → IfSome l.shown (IsLawful s asked.path)
  pub facts : IfSome l.label (λ k. FactsStand s asked.path None k l.facts)
  pub dated : IsDated l.facts

-- why a body broke off that had bytes
pub record CauseStands {S : Type 0} (s : SiteGhosts S) (asked : Asked) (c : Shown) : Type 0 where
  pub names : cause_agrees asked.first_try (Some c) ≡ true
  pub cuts : may_cut c ≡ true
  pub lawful : s.tells ≡ true → IsLawful s asked.path c

-- What a desk follows of the configuration stays as it is.
use Rattle.std.proofs.Common.{◌≡◌, inl, inr, ℕ, Bool, List, Option, Some, None, Ok, Err, IfSome, refl, ap, ◌∙◌}
use Rattle.acng_base.specs.declared.clock.Moment.{Moment}
use Rattle.acng_site.specs.declared.site.Site.{Ghosts as SiteGhosts}
use Rattle.acng_conf.specs.Settings.{Settings}
use Rattle.acng_remap.specs.Readings.{Reading, reading}
use Rattle.acng_remap.specs.declared.target.Target.TheVariants.{File, Page}
use Rattle.acng_request.specs.declared.got.Request.{Request}
use Rattle.acng_grow.specs.Grown.{Grown}
use Rattle.acng_desk.specs.declared.ending.Ending.{Ending}
use Rattle.acng_desk.specs.declared.ending.Ending.TheVariants as ending
use Rattle.acng_desk.specs.House.{Plain, House, spot_at}
use Rattle.acng_desk.specs.Tickets.{Ticketed}
use Rattle.acng_desk.specs.Begins.{led}
use Rattle.acng_desk.specs.Settles.{ended, end_of}
use Rattle.acng_reply.specs.declared.manner.Manner.{Manner}
use Rattle.acng_reply.specs.Replies.{Sent}
use Rattle.acng_serve.specs.declared.note.Note.{Note}
use Rattle.acng_serve.specs.Answered.{by_target, by_visit, world_of}
use Rattle.acng_serve.specs.Answers.{AfterAny, AnswersAt, VisitsBy}
use Rattle.acng_serve.specs.Houses.{Settled}
use Rattle.acng_serve.specs.Pages.{Visit, Shows, Runs, Forbids, Visits, visit_of}
use Rattle.acng_serve.proofs.Expiring.{ended_leaves, line_ended}

ended-rules : (e : Ending) (t : Ticketed) (g : Grown) (p : Plain) → (ended e t g p).rules ≡ p.rules
ended-rules ending.Unknown t g p = refl
ended-rules ending.Keep t g p = refl
ended-rules ending.Same t g p = refl
ended-rules ending.Park t g p = refl
ended-rules ending.Back t g p = refl
ended-rules ending.Drop t g p = refl

settled-rules : {S : Type 0} (s : SiteGhosts S) (path : List ℕ) (origins : List (List ℕ)) (now : Moment) (p q : Plain)
    → Settled s path origins now p q → q.rules ≡ p.rules
settled-rules s path origins now p q x =
    let e : Ending = end_of (spot_at (led path p) x.body.path) x.ticket x.body in
    elim x.left [
      | inl k ↦ ap (λ (z : Plain). z.rules) k ∙ ended-rules e x.ticket x.body (led path p)
      | inr (inl k) ↦ ap (λ (z : Plain). z.rules) k ∙ ended-rules (end_of (spot_at (led path p) path) x.ticket x.body) x.ticket x.body (led path p)
      | inr (inr k) ↦ ap (λ (z : Plain). z.rules) k
    ]

after-rules : {S : Type 0} (s : SiteGhosts S) (f : Option (List ℕ × List (List ℕ))) (now : Moment) (old new : House)
    → AfterAny s f now old new → new.plain.rules ≡ old.plain.rules
after-rules s None now old new e = ap (λ (z : Plain). z.rules) e
after-rules s (Some f) now old new (inl e) = ap (λ (z : Plain). z.rules) e
after-rules s (Some f) now old new (inr x) = settled-rules s f.0 f.1 now old.plain new.plain x

pub at-rules : {S Q : Type 0} (s : SiteGhosts S) (tells : Bool) (conf : Settings) (m : Manner) (r : Request) (now : Moment) (old new : House)
    (note : Note Q) (io : Sent) → AnswersAt s tells conf m r now old new note io → new.plain.rules ≡ old.plain.rules
at-rules {S} {Q} s tells conf m r now old new note io a =
    target-rules (reading conf r.method r.target) a.leaves a.page
  where
    visit-rules : (v : Visit) → IfSome (by_visit {Q = Q} m v) (λ x. AfterAny s x.loads now old new) → Visits tells m now old new note io v
        → new.plain.rules ≡ old.plain.rules
    visit-rules Shows l p = ap (λ (h : House). h.plain.rules) p.same
    visit-rules Runs l (inl x) = (ended_leaves tells now old new (line_ended tells now old new x.is.line x.is.ran)).rules
    visit-rules Runs l (inr x) = (ended_leaves tells now old new x.ended).rules
    visit-rules Forbids l p = after-rules s None now old new l

    target-rules : (t : Reading) → IfSome (by_target {Q = Q} conf m (world_of s old now) r t) (λ x. AfterAny s x.loads now old new)
        → VisitsBy tells conf m now old new note io t → new.plain.rules ≡ old.plain.rules
    target-rules (Err fault) l p = after-rules s None now old new l
    target-rules (Ok (Page query)) l p = visit-rules (visit_of conf query) l p
    target-rules (Ok (File path origins)) l p = after-rules s _ now old new l

use Rattle.std.proofs.Common.{rules, ◌≡◌, Some, sym, subst}
use Rattle.acng_grow.specs.Effects.{Old}
use Rattle.acng_grow.specs.Stands.{StandsWhole}
use Rattle.acng_desk.specs.Tickets.{errand_of}
use Rattle.acng_fetch.specs.Leads.{Lead}
use Rattle.acng_fetch.proofs.LeadLemmas.{old_stands}
use Rattle.acng_fetch.proofs.locked.LockedLeadGrows.same.Goals as goal

pub same-requires-clause-stands : goal.same-requires-clause-stands
same-requires-clause-stands g c = λ told.
    let t = c.self.inside.ticket in
    let h = g.F.BodyFile.handle c.in-Some.file in
    let found = c.deref_mut.result.now.path in
    let path : found ≡ t.info.path = search rules in
    let old = c.args.old.now in
    let is = subst (λ (l : Lead). (errand_of l.ticket.info).old ≡ Some old) (sym c.self.view_is) c.requires.old in
    subst (λ (o : Old). StandsWhole g.S.Site found o.label h.bytes) (sym c.old.view_is)
    (old_stands g.S.Site g.F.BodyFile.tells t.info.path found t.info.was old h path is c.in-Some.ensures.is_old told)

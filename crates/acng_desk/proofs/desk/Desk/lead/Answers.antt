use Rattle.std.proofs.Common.{◌≡◌, ap, subst, sym, ◌∙◌, Some}
use Rattle.std.specs.Option.{option_map}
use Rattle.std.specs.FinMap as map
use Rattle.acng_keeper.specs.Handles.{fresh}
use Rattle.acng_desk.specs.House.{Plain, parked_of}
use Rattle.acng_desk.specs.Tickets.{Ticketed, IsTicket}
use Rattle.acng_desk.proofs.LeadSteps.{given, given_keeps}
use Rattle.acng_desk.proofs.desk.Desk.lead.Goals as goal

pub new-ticket-requires-clause-keeps : goal.new-ticket-requires-clause-keeps
new-ticket-requires-clause-keeps g c =
    let path = c.args.path.now in
    let h = c.args.self.now in
    let given_ = c.in_ok-given.given in
    let old = option_map g.K.Body.BodyFile.handle c.in_ok-old_body.old_body in
    let plain : c.fetch_old.new.self.plain ≡ h.plain = c.in_ok-old_body.ensures.plain in
    let new : g.K.Body.BodyFile.handle given_.fresh ≡ fresh h.plain.next_id = c.in_ok-given.ensures.body
    ∙ ap (λ (p : Plain). fresh p.next_id) plain in
    let part : option_map (parked_of g.K.Body.BodyFile.handle) given_.part_body ≡ map.get h.plain.parts path =
    c.in_ok-given.ensures.part ∙ ap (λ (p : Plain). map.get p.parts path) plain in
    let keeps = given_keeps g.S.Site g.K.Keeper.tells g.K.Body.BodyFile.tells g.met.K.Keeper.body_tells h path c.keeps.ensures
    c.args.origins.now c.args.now old c.requires.origins c.requires.serve c.requires.numbers c.in_ok-old_body.ensures.body in
    let made : Ticketed = record {
      info = c.in-Ok.info;
      left = 16;
      fresh = Some (g.K.Body.BodyFile.handle given_.fresh);
      old_body = old;
      part_body = option_map (parked_of g.K.Body.BodyFile.handle) given_.part_body;
    } in
    let is : ◌≡◌ {A = Ticketed} made (given g.S.Site g.K.Keeper.tells g.K.Body.BodyFile.tells g.met.K.Keeper.body_tells h path
    c.keeps.ensures c.args.origins.now c.args.now old) =
    (λ i. record { info = c.in-Ok.ensures i; left = 16; fresh = Some (new i); old_body = old; part_body = part i }) in
    subst (IsTicket g.S.Site g.K.Body.BodyFile.tells) (sym is) keeps

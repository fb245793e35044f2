use Rattle.std.proofs.Common.{◌≡◌, ◌≤◌, ◌+◌, sym, subst, ap, ◌∙◌, inl, refl, is_some, true, Some, None}
use Rattle.std.proofs.Common.{arith}
use Rattle.std.specs.Option.{option_map, IfSome}
use mathlib.Core.Bool.{true≢false}
use Rattle.acng_grow.specs.declared.facts.Stage.TheVariants as stage
use Rattle.acng_grow.specs.Grown.{number_of}
use Rattle.acng_rows.specs.declared.fault.RowFault.{RowFault}
use Rattle.acng_rows.specs.Calls.{RowRose}
use Rattle.acng_rows.specs.Rows.{whole_at, whole_in}
use Rattle.acng_desk.specs.declared.ending.Ending.TheVariants as ending
use Rattle.acng_desk.specs.declared.ticket.Info.{Info}
use Rattle.acng_desk.specs.House.{Parked, parked_of, spot_at}
use Rattle.acng_desk.specs.Tickets.{Ticketed}
use Rattle.acng_desk.specs.Settles.{IsAmong, ended}
use Rattle.acng_desk.proofs.Changes.{later}
use Rattle.acng_desk.proofs.Endings.{end_out, keep_stage, same_stage, park_stage, back_stage, park_room, room_is, same_held, ticket_part}
use Rattle.acng_desk.proofs.Endings.{ticket_below, part_number, file_number}
use Rattle.acng_desk.proofs.Owns.{own_apart, out_below}
use Rattle.acng_desk.proofs.Results.{ok_all}
use Rattle.acng_desk.proofs.Stopped.{rest_stops, any_stops}
use Rattle.acng_desk.proofs.desk.Desk.come_in.Goals as goal

whole_same : stage.Whole ≡ stage.Same → ⊥
whole_same q = cc

cut_same : stage.Cut ≡ stage.Same → ⊥
cut_same q = cc

pub keep_load-requires-clause-stage : goal.keep_load-requires-clause-stage
keep_load-requires-clause-stage g c =
    let plain = c.args.self.now.plain in
    let t = c.args.ticket.now in
    let body = c.args.body.now in
    let s = spot_at plain body.path in
    let o = end_out s t body ending.Keep (sym c.requires.ending ∙ c.in-Keep.is) (λ q. cc) in
    keep_stage s t body body.seen.stage o.1

pub keep_load-requires-clause-label : goal.keep_load-requires-clause-label
keep_load-requires-clause-label g c =
    let plain = c.args.self.now.plain in
    let t = c.args.ticket.now in
    let body = c.args.body.now in
    let s = spot_at plain body.path in
    let o = end_out s t body ending.Keep (sym c.requires.ending ∙ c.in-Keep.is) (λ q. cc) in
    let is = keep_stage s t body body.seen.stage o.1 in
    let P : Info → Type 0 = λ i. IfSome body.seen.label (IsAmong i.first) in
    subst P (sym c.info.ensures) (c.requires.ends.label (λ q. whole_same (sym is ∙ q)))

pub same_load-requires-clause-held : goal.same_load-requires-clause-held
same_load-requires-clause-held g c =
    let plain = c.args.self.now.plain in
    let t = c.args.ticket.now in
    let body = c.args.body.now in
    let s = spot_at plain body.path in
    let o = end_out s t body ending.Same (sym c.requires.ending ∙ c.in-Same.is) (λ q. cc) in
    let is = same_stage s t body body.seen.stage o.1 in
    let held = same_held (whole_in s.row) t.info (number_of body) is.1 (c.requires.ends.file_same is.0)
    (file_number body.file (c.keeps-3.ensures.file.same is.0)) in
    subst (λ q. is_some (whole_at plain.rows q) ≡ true) (c.requires.ends.path ∙ sym (ap (λ (i : Info). i.path) c.info-in-Same.ensures)) held

pub unreachable-requires : goal.unreachable-requires
unreachable-requires g c =
    let plain = c.args.self.now.plain in
    let t = c.args.ticket.now in
    let body = c.args.body.now in
    let s = spot_at plain body.path in
    let o = end_out s t body ending.Same (sym c.requires.ending ∙ c.in-Same.is) (λ q. cc) in
    let is = same_stage s t body body.seen.stage o.1 in
    let held = same_held (whole_in s.row) t.info (number_of body) is.1 (c.requires.ends.file_same is.0)
    (file_number body.file (c.keeps-3.ensures.file.same is.0)) in
    let path = c.info-in-Same.result.now.path in
    let there = subst (λ q. is_some (whole_at plain.rows q) ≡ true) (c.requires.ends.path
    ∙ sym (ap (λ (i : Info). i.path) c.info-in-Same.ensures)) held in
    let none : whole_at plain.rows path ≡ None =
    subst (λ (f : RowFault _). RowRose f (whole_at plain.rows path) c.args.self.now.faults c.same_load.new.self.faults)
    c.in-Err-NotHeld.field-0-is c.in-Err-NotHeld.ensures.cause in
    true≢false (sym there ∙ ap is_some none)

pub park_load-requires-clause-cut : goal.park_load-requires-clause-cut
park_load-requires-clause-cut g c =
    let plain = c.args.self.now.plain in
    let t = c.args.ticket.now in
    let body = c.args.body.now in
    let s = spot_at plain body.path in
    let o = end_out s t body ending.Park (sym c.requires.ending ∙ c.in-Park.is) (λ q. cc) in
    (park_stage s t body body.seen.stage o.1).0

pub park_load-requires-clause-label : goal.park_load-requires-clause-label
park_load-requires-clause-label g c =
    let plain = c.args.self.now.plain in
    let t = c.args.ticket.now in
    let body = c.args.body.now in
    let s = spot_at plain body.path in
    let o = end_out s t body ending.Park (sym c.requires.ending ∙ c.in-Park.is) (λ q. cc) in
    let is = (park_stage s t body body.seen.stage o.1).0 in
    let P : Info → Type 0 = λ i. IfSome body.seen.label (IsAmong i.first) in
    subst P (sym c.info-in-Park.ensures) (c.requires.ends.label (λ q. cut_same (sym is ∙ q)))

pub park_load-requires-clause-room : goal.park_load-requires-clause-room
park_load-requires-clause-room g c =
    let plain = c.args.self.now.plain in
    let t = c.args.ticket.now in
    let body = c.args.body.now in
    let s = spot_at plain body.path in
    let o = end_out s t body ending.Park (sym c.requires.ending ∙ c.in-Park.is) (λ q. cc) in
    room_is plain body.path (park_room s body (park_stage s t body body.seen.stage o.1).1)

pub unreachable-requires-in_default : goal.unreachable-requires-in_default
unreachable-requires-in_default g c =
    let plain = c.args.self.now.plain in
    let t = c.args.ticket.now in
    let body = c.args.body.now in
    let s = spot_at plain body.path in
    let o = end_out s t body ending.Back (sym c.requires.ending ∙ c.in-Back.is) (λ q. cc) in
    let some : is_some t.part_body ≡ true = (back_stage s t body body.seen.stage o.1).1 in
    true≢false (sym some ∙ sym (ap is_some c.take_partial.ensures.given)
    ∙ ap (λ q. is_some (option_map (parked_of g.K.Body.BodyFile.handle) q)) c.in_default.is)

pub rest_load-requires-clause-below : goal.rest_load-requires-clause-below
rest_load-requires-clause-below g c =
    let plain = c.args.self.now.plain in
    let t = c.args.ticket.now in
    let body = c.args.body.now in
    let s = spot_at plain body.path in
    let o = end_out s t body ending.Back (sym c.requires.ending ∙ c.in-Back.is) (λ q. cc) in
    let b : Parked = parked_of g.K.Body.BodyFile.handle c.in-Some.part in
    let at : t.part_body ≡ Some b = sym c.take_partial.ensures.given ∙ ap (option_map (parked_of g.K.Body.BodyFile.handle)) c.in-Some.is in
    let more : t.info.first + 16 ≤ plain.next_try = out_below g.S.Site g.K.Keeper.tells plain body.path t.info c.keeps.ensures.plain o.0 in
    later t.info.first plain.next_try b.label (omega (arith, more)) (ticket_below g.S.Site g.K.Body.BodyFile.tells t b c.keeps-2.ensures at)

pub rest_load-requires-clause-room : goal.rest_load-requires-clause-room
rest_load-requires-clause-room g c =
    let plain = c.args.self.now.plain in
    let t = c.args.ticket.now in
    let body = c.args.body.now in
    let s = spot_at plain body.path in
    let o = end_out s t body ending.Back (sym c.requires.ending ∙ c.in-Back.is) (λ q. cc) in
    room_is plain body.path (back_stage s t body body.seen.stage o.1).2

pub rest_load-requires-clause-other : goal.rest_load-requires-clause-other
rest_load-requires-clause-other g c =
    let plain = c.args.self.now.plain in
    let t = c.args.ticket.now in
    let body = c.args.body.now in
    let s = spot_at plain body.path in
    let o = end_out s t body ending.Back (sym c.requires.ending ∙ c.in-Back.is) (λ q. cc) in
    let b : Parked = parked_of g.K.Body.BodyFile.handle c.in-Some.part in
    let at : t.part_body ≡ Some b = sym c.take_partial.ensures.given ∙ ap (option_map (parked_of g.K.Body.BodyFile.handle)) c.in-Some.is in
    let number = part_number t.info b (ticket_part g.S.Site g.K.Body.BodyFile.tells t b c.keeps-2.ensures at) in (
      inl refl,
      λ q. own_apart g.S.Site g.K.Keeper.tells plain body.path t.info b.handle.number c.keeps.ensures.plain o.0 number
          (sym q ∙ ap (λ (i : Info). i.fresh) c.info-info.ensures ∙ ap (λ (x : Ticketed). x.info.fresh) c.take_partial.ensures.same),
    )

-- ---- stops

pub returns-in-Unknown-clause-stops : goal.returns-in-Unknown-clause-stops
returns-in-Unknown-clause-stops g c = λ told.
    rest_stops g.S.Site (ended c.args.ending c.args.ticket.now c.args.body.now c.args.self.now.plain).rows c.args.self.now c.args.self.now refl

pub returns-in-Park-clause-stops : goal.returns-in-Park-clause-stops
returns-in-Park-clause-stops g c = λ told.
    any_stops g.S.Site (ended c.args.ending c.args.ticket.now c.args.body.now c.args.self.now.plain).rows c.args.self.now c.park_load.new.self
    (c.park_load.ensures.files told).0

pub returns-in-Some-clause-stops : goal.returns-in-Some-clause-stops
returns-in-Some-clause-stops g c = λ told.
    any_stops g.S.Site (ended c.args.ending c.args.ticket.now c.args.body.now c.args.self.now.plain).rows c.args.self.now c.rest_load.new.self
    (c.rest_load.ensures.files told).0

pub returns-in-Drop-clause-stops : goal.returns-in-Drop-clause-stops
returns-in-Drop-clause-stops g c = λ told.
    any_stops g.S.Site (ended c.args.ending c.args.ticket.now c.args.body.now c.args.self.now.plain).rows c.args.self.now c.drop_load.new.self
    (c.drop_load.ensures.files told).0

pub returns-in-Some-clause-exact : goal.returns-in-Some-clause-exact
returns-in-Some-clause-exact g c = ok_all c.rest_load.result (λ told. (c.rest_load.ensures.files told).1)

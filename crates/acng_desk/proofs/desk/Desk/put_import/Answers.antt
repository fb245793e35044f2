use Rattle.std.proofs.Common.{◌≡◌, ◌∙◌, ℕ, false, sym, subst}
use Rattle.acng_desk.specs.House.{Plain, spot_at}
use Rattle.acng_desk.specs.Begins.{is_full}
use Rattle.acng_desk.specs.Commands.{PutImport, imported, put_in, step}
use Rattle.acng_desk.specs.Stops.{StopsAt}
use Rattle.acng_desk.proofs.Stopped.{any_stops, since_files, put_stops, plain_alike}
use Rattle.acng_desk.proofs.desk.Desk.put_import.Goals as goal

pub returns-in-Err-seal_spare-clause-stops : goal.returns-in-Err-seal_spare-clause-stops
returns-in-Err-seal_spare-clause-stops g c = λ told.
    let size = (g.K.Body.BodyFile.handle c.args.body).size in
    any_stops g.S.Site (step (PutImport c.args.path.now c.args.id.0 c.args.hash size c.args.now) c.args.self.now.plain).rows
    c.args.self.now c.seal_spare.new.self (c.seal_spare.ensures.files told).0

pub returns-in-Ok-take_in-clause-stops : goal.returns-in-Ok-take_in-clause-stops
returns-in-Ok-take_in-clause-stops g c = λ told.
    let h = c.args.self.now in
    let mid = c.seal_spare.new.self in
    let new = c.take_in.new.self in
    let path = c.args.path.now in
    let id = c.args.id.0 in
    let size = (g.K.Body.BodyFile.handle c.args.body).size in
    let room : is_full (spot_at h.plain path) ≡ false = sym c.lacks_room.ensures ∙ c.if-lacks_room.false in
    let P : ℕ → Plain → Type 0 = λ n p. StopsAt g.S.Site (put_in path (imported id c.args.hash n c.args.now) p).rows mid new in
    let stops : P size h.plain = subst (λ n. P n h.plain) c.len-size.ensures.size
    (subst (P c.len-size.result) c.seal_spare.ensures.plain (c.take_in.ensures.stops told)) in
    put_stops g.S.Site h new path id c.args.hash size c.args.now room
    (since_files g.S.Site (put_in path (imported id c.args.hash size c.args.now) h.plain).rows h mid new
    (plain_alike h.plain mid.plain c.seal_spare.ensures.plain) (c.seal_spare.ensures.files told) stops)

pub returns-in-Err-take_in-clause-stops : goal.returns-in-Err-take_in-clause-stops
returns-in-Err-take_in-clause-stops g c = λ told.
    let h = c.args.self.now in
    let mid = c.seal_spare.new.self in
    let new = c.take_in.new.self in
    let path = c.args.path.now in
    let id = c.args.id.0 in
    let size = (g.K.Body.BodyFile.handle c.args.body).size in
    let room : is_full (spot_at h.plain path) ≡ false = sym c.lacks_room.ensures ∙ c.if-lacks_room.false in
    let P : ℕ → Plain → Type 0 = λ n p. StopsAt g.S.Site (put_in path (imported id c.args.hash n c.args.now) p).rows mid new in
    let stops : P size h.plain = subst (λ n. P n h.plain) c.len-size.ensures.size
    (subst (P c.len-size.result) c.seal_spare.ensures.plain (c.take_in.ensures.stops told)) in
    put_stops g.S.Site h new path id c.args.hash size c.args.now room
    (since_files g.S.Site (put_in path (imported id c.args.hash size c.args.now) h.plain).rows h mid new
    (plain_alike h.plain mid.plain c.seal_spare.ensures.plain) (c.seal_spare.ensures.files told) stops)

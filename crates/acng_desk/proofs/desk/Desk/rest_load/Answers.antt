use Rattle.std.proofs.Common.{sym, subst, Some, None, Option}
use Rattle.std.specs.Option.{IfSome}
use Rattle.acng_desk.specs.House.{Plain, Parked, parked_of}
use Rattle.acng_desk.specs.Keeps.{IsNobodys}
use Rattle.acng_desk.proofs.Owns.{other_freed}
use Rattle.acng_desk.proofs.Stopped.{rest_files, left_files, both_files, left_with_alike, plain_alike}
use Rattle.acng_desk.proofs.desk.Desk.rest_load.Goals as goal

pub discard_body-requires : goal.discard_body-requires
discard_body-requires g c =
    let h = c.args.self.now in
    let part : Parked = parked_of g.K.Body.BodyFile.handle c.args.part in
    let P : Plain → Type 0 = λ p. IfSome c.args.other (IsNobodys p.rows p.parts) in
    record {
      nobodys = subst P (sym c.in-Ok.ensures.plain)
          (other_freed g.S.Site g.K.Keeper.tells h c.args.info.now.path c.args.info.now part c.args.other c.keeps.ensures c.requires.out
          c.requires.other);
    }

pub returns-in_default-clause-files : goal.returns-in_default-clause-files
returns-in_default-clause-files g c = λ told.
    let h = c.args.self.now in
    let mid = c.rest.new.self in
    both_files g.S.Site h mid c.close.new.self (plain_alike h.plain mid.plain c.in_default.ensures.same)
    (rest_files g.S.Site h mid c.rest.ensures.kept (plain_alike h.plain mid.plain c.in_default.ensures.same))
    (left_files g.S.Site mid c.close.new.self c.args.info.now.path None c.close.ensures.plain c.close.ensures.kept)

pub returns-clause-files : goal.returns-clause-files
returns-clause-files g c = λ told.
    let h = c.args.self.now in
    let mid = c.rest.new.self in
    let part : Option Parked = Some (parked_of g.K.Body.BodyFile.handle c.args.part) in
    both_files g.S.Site h mid c.discard_body.new.self (left_with_alike h.plain mid.plain c.args.info.now.path part c.in-Ok.ensures.plain)
    (left_files g.S.Site h mid c.args.info.now.path part c.in-Ok.ensures.plain c.rest.ensures.kept) (c.discard_body.ensures.files told)

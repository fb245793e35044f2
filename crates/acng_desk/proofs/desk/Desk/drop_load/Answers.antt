use Rattle.std.proofs.Common.{sym, subst, ◌∙◌, None}
use Rattle.std.specs.Option.{IfSome}
use Rattle.acng_rows.specs.Rows.{out_at}
use Rattle.acng_desk.specs.House.{Plain}
use Rattle.acng_desk.specs.Keeps.{IsNobodys}
use Rattle.acng_desk.specs.Settles.{part_id}
use Rattle.acng_desk.proofs.Owns.{out_fresh, close_freed, part_freed}
use Rattle.acng_desk.proofs.Stopped.{left_files, both_files, plain_alike, left_with_alike}
use Rattle.acng_desk.proofs.desk.Desk.drop_load.Goals as goal

pub discard_body-requires : goal.discard_body-requires
discard_body-requires g c =
    let h = c.args.self.now in
    let path = c.args.info.now.path in
    let P : Plain → Type 0 = λ p. IsNobodys p.rows p.parts c.args.info.now.fresh in
    record {
      nobodys = subst P (sym c.close.ensures.plain) (close_freed g.S.Site g.K.Keeper.tells h path c.args.info.now.fresh c.keeps.ensures
          (out_fresh (out_at h.plain.rows path) c.args.info.now c.requires.out));
    }

pub discard_body-requires-2 : goal.discard_body-requires-2
discard_body-requires-2 g c =
    let h = c.args.self.now in
    let path = c.args.info.now.path in
    let P : Plain → Type 0 = λ p. IfSome (part_id c.args.info.now) (IsNobodys p.rows p.parts) in
    let freed = subst P (sym (c.discard_body.ensures.plain ∙ c.close.ensures.plain))
    (part_freed g.S.Site g.K.Keeper.tells h path c.args.info.now c.keeps.ensures c.requires.out) in
    record {
      nobodys = subst (λ o. IfSome o (IsNobodys c.discard_body.new.self.plain.rows c.discard_body.new.self.plain.parts))
          (sym c.part_id.ensures) freed;
    }

pub returns-in_err-discard_body-clause-files : goal.returns-in_err-discard_body-clause-files
returns-in_err-discard_body-clause-files g c = λ told.
    let h = c.args.self.now in
    let mid = c.close.new.self in
    both_files g.S.Site h mid c.discard_body.new.self (left_with_alike h.plain mid.plain c.args.info.now.path None c.close.ensures.plain)
    (left_files g.S.Site h mid c.args.info.now.path None c.close.ensures.plain c.close.ensures.kept) (c.discard_body.ensures.files told)

pub returns-clause-files : goal.returns-clause-files
returns-clause-files g c = λ told.
    let h = c.args.self.now in
    let mid = c.close.new.self in
    let near = c.discard_body.new.self in
    both_files g.S.Site h mid c.discard_body-2.new.self (left_with_alike h.plain mid.plain c.args.info.now.path None c.close.ensures.plain)
    (left_files g.S.Site h mid c.args.info.now.path None c.close.ensures.plain c.close.ensures.kept)
    (both_files g.S.Site mid near c.discard_body-2.new.self (plain_alike mid.plain near.plain c.discard_body.ensures.plain)
    (c.discard_body.ensures.files told) (c.discard_body-2.ensures.files told))

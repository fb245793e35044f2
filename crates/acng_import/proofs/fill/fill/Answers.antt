use Rattle.std.proofs.Common.{◌∙◌, ap, arith, take, drop}
use Rattle.acng_import.specs.Files.{file_at}
use Rattle.acng_import.proofs.Readings.{filling_more}
use Rattle.acng_import.proofs.fill.fill.Goals as goal

pub loop-count-preserved : goal.loop-count-preserved
loop-count-preserved g c =
    let s = c.loop-count in
    let i = s.invariant in
    let r = c.in-Ok.ensures in
    let a = c.in_default.ensures in
    let handle = g.B.BodyFile.handle in
    let place = c.args.i in
    let n = c.in-Ok.count in
    record {
      filling = filling_more g.F.Finder.tells g.B.BodyFile.tells (file_at (g.F.Finder.bodies c.args.finder.now) place) s.hash
          c.add.new.self s.at n c.read_at.new.buf (handle s.body) (handle c.append.new.self) i.filling r.bound.0
          (λ t. r.bytes t ∙ ap (λ bodies. take n (drop s.at (file_at bodies place))) i.bodies) c.add.ensures a.appended;
      small = omega (arith, c.if-count-at.false, i.small);
      names = r.same_names ∙ i.names;
      bodies = r.same_bodies ∙ i.bodies;
      faults = r.cause.worked ∙ i.faults;
      number = a.appended.number ∙ i.number;
      writable = a.appended.writable;
      may = a.later.may_fail ∙ i.may;
    }

use Rattle.std.proofs.Common.{◌++◌, ◌∙◌, ap, arith, take, drop}
use Rattle.acng_import.proofs.Readings.{read_more}
use Rattle.acng_import.proofs.copy.hash_of.Goals as goal

pub loop-at-preserved : goal.loop-at-preserved
loop-at-preserved g c =
    let s = c.loop-at in
    let i = s.invariant in
    let r = c.in-Ok.ensures in
    let n = c.in-Ok.count in
    let old = i.hashing in
    let size = ap (λ h. h.size) i.same in
    record {
      hashing = record {
        text = old.text ++ take n c.read_at.new.buf;
        read = read_more g.B.BodyFile.tells (g.B.BodyFile.handle c.args.body.now).bytes s.hash c.add.new.self s.at n old.text
            c.read_at.new.buf old.read r.fits.0 (λ t. r.bytes t ∙ ap (λ h. take n (drop s.at h.bytes)) i.same)
            (c.add.ensures old.text old.read.taken);
      };
      few = omega (arith, r.there, i.few, size);
      same = r.same ∙ i.same;
      may = r.later.may_fail ∙ i.may;
    }

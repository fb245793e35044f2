use Rattle.std.proofs.Common.{◌≡◌, ◌+◌, ◌-◌, ◌++◌, take, length, refl, ap, ◌∙◌, arith, rules}
use Rattle.std.proofs.lemmas.Slice.{take-put_mid, drop-put_mid, overwrites}
use Rattle.acng_head.proofs.write.put.Goals as goal

pub returns : goal.returns
returns c =
    let out = c.args.out.now in
    let text = c.args.text.now in
    let at = c.args.at in
    let ys = c.copy_from_slice.new.self in
    let same : length ys ≡ length text = ap length c.copy_from_slice.ensures.after in
    record {
      end_is = refl;
      front =
          take-put_mid at (at + length text - at) out ys (at + length text) (omega (arith, same)) (omega arith)
          ∙ ap (λ y. take at out ++ y) c.copy_from_slice.ensures.after;
      after = drop-put_mid at (at + length text - at) out ys (at + length text) (omega arith) (omega arith) (omega (arith, same));
      len = search (rules, overwrites);
    }

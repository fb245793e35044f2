use Rattle.std.proofs.Common.{◌-◌, length, take, drop, sym, ap, ◌∙◌}
use Rattle.acng_base.proofs.Ranges.{rest_is_drop}
use Rattle.acng_conf.specs.Globs.{fits, some_end}
use Rattle.acng_conf.proofs.Globs.{past_star}
use Rattle.acng_conf.proofs.glob.fits_some_end.Goals as goal

pub loop-left-preserved-then-first_is : goal.loop-left-preserved-then-first_is
loop-left-preserved-then-first_is c =
    let k = c.equal_bytes-equal.result in
    let rest = c.loop-left.rest.now in
    let left = c.loop-left.left.now in
    let behind = take (length rest - k) (drop k rest) in
    let step = past_star rest left behind k c.equal_bytes-equal.ensures.same c.equal_bytes-equal.ensures.later (sym (rest_is_drop k rest)) (sym c.first_is.ensures ∙ c.if-first_is.true) in
    c.loop-left.invariant ∙ step ∙ ap (λ p. some_end (fits p) (drop k left)) (sym (rest_is_drop 1 behind))
    ∙ ap (some_end (fits (take (length behind - 1) (drop 1 behind)))) (sym (rest_is_drop k left))

use Rattle.std.proofs.Common.{◌≡◌, true, false, take, drop, bytes_eq, codes, ap, sym, ◌∙◌, arith}
use Rattle.acng_base.proofs.Ranges.{rest_is_drop}
use Rattle.acng_conf.proofs.Schemes.{scheme_here, scheme_later}
use Rattle.acng_conf.proofs.place.has_scheme.Goals as goal

pub returns-then-is_scheme_end : goal.returns-then-is_scheme_end
returns-then-is_scheme_end c =
    let word = c.args.word.now in
    let at = c.loop-at.at in
    let here : bytes_eq (take 3 (drop at word)) (codes "://") ≡ true =
    ap (λ t. bytes_eq (take 3 t) (codes "://")) (sym (rest_is_drop at word)) ∙ sym c.is_scheme_end.ensures ∙ c.if-is_scheme_end.true in
    sym (c.loop-at.invariant.same ∙ scheme_here word at c.loop-at-test.true here)

pub loop-at-preserved : goal.loop-at-preserved
loop-at-preserved c =
    let word = c.args.word.now in
    let at = c.loop-at.at in
    let other : bytes_eq (take 3 (drop at word)) (codes "://") ≡ false =
    ap (λ t. bytes_eq (take 3 t) (codes "://")) (sym (rest_is_drop at word)) ∙ sym c.is_scheme_end.ensures ∙ c.if-is_scheme_end.false in
    record { within = omega arith; same = c.loop-at.invariant.same ∙ scheme_later word at c.loop-at-test.true other }

use Rattle.std.proofs.Common.{◌-◌, length, take, drop, sym, ap, ◌∙◌}
use Rattle.acng_base.proofs.Ranges.{rest_is_drop}
use Rattle.acng_conf.specs.Globs.{fits, some_end}
use Rattle.acng_conf.proofs.Globs.{star_first}
use Rattle.acng_conf.proofs.glob.fits.Goals as goal

pub returns-then-first_is : goal.returns-then-first_is
returns-then-first_is c =
    let k = c.equal_bytes-equal.result in
    let pattern = c.args.pattern.now in
    let name = c.args.name.now in
    let behind = take (length pattern - k) (drop k pattern) in
    let star = star_first behind (sym c.first_is.ensures ∙ c.if-first_is.true) in
    c.fits_some_end.ensures ∙ ap (λ p. some_end (fits p) (take (length name - k) (drop k name))) (rest_is_drop 1 behind)
    ∙ ap (some_end (fits (drop 1 behind))) (rest_is_drop k name)
    ∙ ap (λ p. fits p (drop k name)) (sym (sym (rest_is_drop k pattern) ∙ star)) ∙ sym c.equal_bytes-equal.ensures.same

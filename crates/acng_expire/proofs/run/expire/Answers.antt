use Rattle.std.proofs.Common.{◌≡◌, false, length, sym, ap, ◌∙◌}
use Rattle.acng_desk.specs.House.{Plain}
use Rattle.acng_conf.specs.Settings.{Rules}
use Rattle.acng_expire.specs.Expirations.{is_broken, is_stopped}
use Rattle.acng_expire.proofs.Ends.{by_run, plain_is}
use Rattle.acng_expire.proofs.run.expire.Goals as goal

pub returns : goal.returns
returns g c =
    let of = c.in-Ok.ensures in
    let old = c.args.desk.now in
    let found = c.in-Ok.reach in
    let same = plain_is g.K.Keeper.tells old c.of.new.desk of.rests in
    let most : c.from.result ≡ old.plain.rules.abort_limit =
    c.from.ensures ∙ c.abort_limit.ensures ∙ ap (λ (r : Rules). r.abort_limit) c.rules.ensures
    ∙ ap (λ (p : Plain). p.rules.abort_limit) same in
    let count : c.len-problems.result ≡ length found.problems = c.len-problems.ensures ∙ ap length c.problems.ensures in
    let goes : is_stopped old.plain found ≡ false =
    sym (c.if-is_broken.ensures ∙ ap (λ n. is_broken n c.len-problems.result) most ∙ ap (is_broken old.plain.rules.abort_limit) count) in
    by_run g.K.Keeper.tells c.args.failed.now c.args.now.0 old c.of.new.desk c.expire_by.new.desk found
    (record { reach = of.reach; held = of.held }) of.rests goes c.expire_by.result c.expire_by.ensures

use Rattle.std.proofs.Common.{◌≡◌, true, sym, ap, ◌∙◌, subst}
use Rattle.acng_conf.specs.Settings.{Settings}
use Rattle.acng_conf.specs.Readings.{owner, naming, are_names}
use Rattle.acng_conf.proofs.Names.{naming_names}
use Rattle.acng_conf.proofs.Owners.{after_naming}
use Rattle.acng_conf.proofs.conf.Conf.name_group.Goals as goal

pub invariant_of-result : goal.invariant_of-result
invariant_of-result c =
    let name = c.args.name.now in
    let old = c.self.inside.settings in
    let is : naming name c.args.line old ≡ c.name_group.new.self = sym c.in_ok-name_group.ensures.named in
    record {
      same = λ x. c.self.invariant.same x ∙ sym (after_naming name c.args.line old x) ∙ ap (λ (s : Settings). owner x s.groups) is;
      names = subst (λ (s : Settings). are_names s.groups ≡ true) is (naming_names name c.args.line old c.requires c.self.invariant.names);
    }

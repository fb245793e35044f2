use Rattle.std.proofs.Common.{◌≡◌, [], refl, ◌∙◌, sym, ap, rules}
use Rattle.acng_conf.specs.Readings.{owner, new_group, with_targets, change, are_names}
use Rattle.acng_conf.proofs.Names.{same_names}
use Rattle.acng_conf.proofs.Owners.{unmoved}
use Rattle.acng_conf.proofs.conf.Conf.add_rest.Goals as goal

pub invariant_of-result : goal.invariant_of-result
invariant_of-result c =
    let old = c.self.inside.settings in
    let k = c.args.k in
    let f = with_targets c.targets.result.now in
    let is : (change f k old).groups ≡ c.warn_all.new.self.groups = search rules in
    record {
      same = λ x. c.self.invariant.same x ∙ sym (unmoved f (λ g. refl) (new_group [] 0) old.groups k x) ∙ ap (owner x) is;
      names = ap are_names (sym is) ∙ same_names f (λ g. refl) (new_group [] 0) old.groups k ∙ c.self.invariant.names;
    }

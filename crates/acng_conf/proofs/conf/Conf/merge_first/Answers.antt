use Rattle.std.proofs.Common.{◌≡◌, ◌+◌, ◌<◌, length, refl, ◌∙◌, List, [], ℕ, None, sym, ap, subst, rules}
use Rattle.acng_conf.specs.Settings.{Settings}
use Rattle.acng_conf.specs.Readings.{owner, new_group, with_place, change, are_names}
use Rattle.acng_conf.proofs.Names.{same_names}
use Rattle.acng_conf.proofs.Owners.{agrees}
use Rattle.acng_conf.proofs.conf.Conf.merge_first.Goals as goal

pub invariant_of-result : goal.invariant_of-result
invariant_of-result c =
    let old = c.self.inside.settings in
    let k = c.args.k in
    let key = c.in_ok-key.key in
    let text : key.items ≡ c.args.entry.now = c.in_ok-key.ensures.items in
    let within : k < length old.groups = search rules in
    let unowned : owner c.args.entry.now old.groups ≡ None = search rules in
    let first : owner key.items old.groups ≡ None = subst (λ (e : List ℕ). owner e old.groups ≡ None) (sym text) unowned in
    let is : change (with_place key.items) k (record old { entries = old.entries + 1 }) ≡ c.add_place.new.self =
    ap (λ (e : List ℕ). change (with_place e) k (record old { entries = old.entries + 1 })) text ∙ sym c.in_ok-add_place.ensures in
    record {
      same = λ x.
          agrees (λ j. j.items) c.self.inside.owners c.insert.new.self key (new_group [] 0) old.groups k within first c.self.invariant.same c.in-Ok.ensures.updates x
          ∙ ap (λ (s : Settings). owner x s.groups) is;
      names = ap (λ (s : Settings). are_names s.groups) (sym is) ∙ same_names (with_place key.items) (λ g. refl) (new_group [] 0) old.groups k ∙ c.self.invariant.names;
    }

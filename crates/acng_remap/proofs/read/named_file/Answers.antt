use Rattle.std.proofs.Common.{◌≡◌, ◌+◌, ◌<◌, List, [], get_or, Bool, true, ℕ, Option, Some, None, Err, cond, length, take, drop, sym, ap, ◌∙◌, subst, rules}
use Rattle.std.proofs.lemmas.List.{length-take-le, get_or_default}
use Rattle.acng_conf.specs.Readings.{new_group}
use Rattle.acng_conf.specs.Settings.{Mirrors}
use Rattle.acng_remap.specs.Decisions.{group, has_target}
use Rattle.acng_remap.specs.Readings.{Gives, group_file, named_file, named_group, rest_after}
use Rattle.acng_remap.specs.declared.target.TargetFault.TheVariants.{BadTarget}
use Rattle.acng_remap.proofs.read.named_file.Goals as goal

pub returns-then-has_target : goal.returns-then-has_target
returns-then-has_target c =
    let groups = c.args.conf.now.groups in
    let place = c.args.place.items in
    let host = take c.args.len place in
    let k = c.in-Some.k in
    let g = group groups k in
    let named : named_group groups host c.args.port ≡ Some k = search rules in
    let within : k < length groups = search rules in
    let found : c.index-groups-k.result ≡ get_or groups k c.index-groups-k.result =
    c.index-groups-k.is ∙ ap (λ (gs : List Mirrors). get_or gs k c.index-groups-k.result) c.groups.ensures.groups in
    let at : c.index-groups-k.result ≡ g = found ∙ get_or_default groups k c.index-groups-k.result (new_group [] 0) within in
    let target : has_target g ≡ true = ap has_target (sym at) ∙ sym c.has_target.ensures ∙ c.if-has_target.true in
    let front : length host ≡ c.args.len = length-take-le c.args.len place c.requires in
    let given : Gives (group_file g (drop (c.args.len + 1) place) place) c.group_file.result =
    subst (λ (m : Mirrors). Gives (group_file m (drop (c.args.len + 1) place) place) c.group_file.result) at c.group_file.ensures in
    let behind : Gives (group_file g (rest_after host place) place) c.group_file.result =
    subst (λ (n : ℕ). Gives (group_file g (drop (n + 1) place) place) c.group_file.result) (sym front) given in
    let reached : Gives (named_file groups place host (Some k)) c.group_file.result =
    subst (λ (b : Bool). Gives (cond b (group_file g (rest_after host place) place) (Err BadTarget)) c.group_file.result) (sym target) behind in
    subst (λ (o : Option ℕ). Gives (named_file groups place host o) c.group_file.result) (sym named) reached

pub returns-in-None : goal.returns-in-None
returns-in-None c =
    let groups = c.args.conf.now.groups in
    let place = c.args.place.items in
    let host = take c.args.len place in
    let named : named_group groups host c.args.port ≡ None = search rules in
    subst (λ (o : Option ℕ). Gives (named_file groups place host o) c.file_outside_groups.result) (sym named) c.file_outside_groups.ensures

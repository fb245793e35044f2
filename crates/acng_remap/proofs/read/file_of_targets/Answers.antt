use Rattle.std.proofs.Common.{◌≡◌, ◌+◌, ◌++◌, ◌∷◌, List, ℕ, None, Ok, drop, map, length, sym, ap, ◌∙◌, rules}
use Rattle.acng_base.specs.Paths.{path_refusal}
use Rattle.acng_base.specs.declared.path.PathFault.{PathFault}
use Rattle.std.specs.declared.option.Option.{Option}
use Rattle.acng_remap.specs.Readings.{file_or, asked}
use Rattle.acng_remap.specs.declared.target.Target.TheVariants.{File}
use Rattle.acng_remap.proofs.Following.{rest_of}
use Rattle.acng_remap.proofs.read.file_of_targets.Goals as goal

pub returns : goal.returns
returns c =
    let name = c.args.group.now.name in
    let rest = drop (c.args.len + 1) c.args.place.items in
    let text = name ++ 47 ∷ rest in
    let path : c.in_ok-path.path ≡ text = search rules in
    let is_path : path_refusal text ≡ None = search rules in
    let found : c.behind-rest.result.now ≡ drop (length name + 1) c.in_ok-path.path = search rules in
    let same : c.behind-rest.result.now ≡ rest = found ∙ ap (drop (length name + 1)) path ∙ rest_of name rest in
    let asked_for : c.in_ok-origins.origins ≡ map (asked c.behind-rest.result.now) c.args.group.now.targets = search rules in
    let origins : c.in_ok-origins.origins ≡ map (asked rest) c.args.group.now.targets = asked_for ∙ ap (λ (r : List ℕ). map (asked r) c.args.group.now.targets) same in
    ap (λ (o : Option PathFault). file_or o text (map (asked rest) c.args.group.now.targets)) is_path
    ∙ ap (λ p. Ok (File p (map (asked rest) c.args.group.now.targets))) (sym path)
    ∙ ap (λ os. Ok (File c.in_ok-path.path os)) (sym origins)

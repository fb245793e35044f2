use Rattle.std.proofs.Common.{◌∷◌, [], ◌++◌, ap, ◌∙◌}
use Rattle.acng_cli.specs.Repository.{others_at}
use Rattle.acng_cli.proofs.Generates.{pushed}
use Rattle.acng_cli.proofs.repository.push_packages.Goals as goal

pub returns : goal.returns
returns c =
    let old = c.args.files.now.items in
    let k = c.args.k in
    c.in_ok-push_other.ensures
    ∙ ap (λ x. x ++ others_at k) (c.in_ok-push.ensures.items ∙ ap (λ f. old ++ f ∷ []) c.in_ok-package_of.ensures)
    ∙ pushed old k

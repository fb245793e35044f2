use Rattle.std.proofs.Common.{◌∷◌, [], ◌++◌, ap, sym, ◌∙◌}
use Rattle.acng_cli.proofs.Generates.{other_there}
use Rattle.acng_cli.proofs.repository.push_other.Goals as goal

pub returns-in_ok-push : goal.returns-in_ok-push
returns-in_ok-push c =
    let old = c.args.files.now.items in
    c.in_ok-push.ensures.items ∙ ap (λ f. old ++ f ∷ []) c.in_ok-package_of.ensures
    ∙ ap (λ x. old ++ x) (sym (other_there c.args.k c.if-k-eq0.true))

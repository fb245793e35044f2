use Rattle.std.proofs.Common.{ap, sym, ◌∙◌, ◌++◌}
use Rattle.acng_cli.specs.Repository.{packages_at, stanza}
use Rattle.acng_cli.proofs.Generates.{packages_next, stanzas_next}
use Rattle.acng_cli.proofs.repository.repository.Goals as goal

pub loop-k-preserved : goal.loop-k-preserved
loop-k-preserved c =
    let k = c.loop-k.k in
    record {
      files = c.in_ok-push_packages.ensures ∙ ap (λ x. x ++ packages_at k) c.loop-k.invariant.files ∙ sym (packages_next k);
      names = c.in_ok-push_stanza.ensures ∙ ap (λ x. x ++ stanza k) c.loop-k.invariant.names ∙ sym (stanzas_next k);
    }

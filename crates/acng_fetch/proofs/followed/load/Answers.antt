use Rattle.std.proofs.Common.{◌≡◌, true, ◌∙◌, subst}
use Rattle.acng_grow.specs.Agrees.{label_agrees, cause_agrees}
use Rattle.acng_desk.specs.Settles.{was_label}
use Rattle.acng_fetch.proofs.followed.load.Goals as goal

pub returns : goal.returns
returns g c =
    let by = c.settle_through-settled.ensures in
    let loads = by.loads in
    let info = c.load_body-left.ensures.info in
    record {
      old = by.old;
      fresh = by.fresh;
      final = by.final;
      loads = record {
        spent = loads.spent;
        body = loads.body;
        info = loads.info ∙ info;
        ends = loads.ends;
        loaded = loads.loaded;
        label = subst (λ i. label_agrees i.first (was_label i) loads.body.seen.label ≡ true) info loads.label;
        cause = subst (λ i. cause_agrees i.first loads.body.seen.shown ≡ true) info loads.cause;
        left = loads.left;
        is = loads.is;
      };
      answers = by.answers;
      later = by.later;
    }

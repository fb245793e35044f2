use Rattle.std.proofs.Common.{codes, rules, tests}
use Rattle.std.proofs.lemmas.Iterator.Search.{any_from_yields_List}
use Rattle.std.proofs.lemmas.Iterator.Splits.{YieldsList-from_slice_split}
use Rattle.acng_base.specs.Paths.{is_slash}
use Rattle.acng_base.specs.Names.{begins_with}
use Rattle.acng_class.proofs.segments.has_installer.Goals as goal

pub returns : goal.returns
returns c =
    any_from_yields_List (λ s. begins_with s (codes "installer-")) _ _ _ c.any.ensures.ran
    (YieldsList-from_slice_split _ is_slash c.args.path.now c.split.ensures.rest c.split.ensures.done c.split.ensures.closure (λ x b q k. search (rules, tests)))
    (λ x b q k. search (rules, tests))

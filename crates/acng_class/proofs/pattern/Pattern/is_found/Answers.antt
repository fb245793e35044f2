use Rattle.std.proofs.Common.{◌∙◌, is_some, ap}
use Rattle.regex.specs.Patterns.{Re, find_str}
use Rattle.acng_class.specs.Patterns.{found_by}
use Rattle.acng_class.proofs.Verdicts.{found}
use Rattle.acng_class.proofs.pattern.Pattern.is_found.Goals as goal

pub returns : goal.returns
returns c =
    let text = c.args.text.now in
    c.is_match.ensures.found
    ∙ ap (λ (re : Re). is_some (find_str re text 0)) c.in_ok-matcher.ensures.pattern
    ∙ found c.self.inside.regex text (λ k. (c.type_inv.text k).fits) c.self.invariant.0 c.self.invariant.1
    ∙ ap (λ source. found_by source text) c.self.view_is

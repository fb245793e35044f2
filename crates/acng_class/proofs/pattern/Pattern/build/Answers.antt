use Rattle.std.proofs.Common.{◌≡◌, ◌∙◌, subst, sym}
use Rattle.regex.specs.Patterns.{default_config}
use Rattle.regex.specs.Failures.{IsRightKind}
use Rattle.acng_conf.specs.Readings.{is_pattern}
use Rattle.std.proofs.Common.{false}
use Rattle.std.specs.Str.{IsUtf8}
use Rattle.acng_class.proofs.Verdicts.{accepted, refused, no_text}
use Rattle.acng_class.proofs.pattern.Pattern.build.Goals as goal

pub returns-in_default-clause-bad : goal.returns-in_default-clause-bad
returns-in_default-clause-bad c = λ _. no_text c.args.source.now c.in_default.ensures.cases.0

pub returns-in-Ok-new-clause-accepted : goal.returns-in-Ok-new-clause-accepted
returns-in-Ok-new-clause-accepted c =
    let made = c.in-Ok-new.ensures in
    let given = c.in-Ok.ensures.cases in
    accepted c.in-Ok-new.regex c.args.source.now given.1 (made.source ∙ given.0) made.config made.read

pub returns-in-Err-Syntax-clause-bad : goal.returns-in-Err-Syntax-clause-bad
returns-in-Err-Syntax-clause-bad c = λ _.
    let made = c.in-Err-Syntax.ensures in
    let e = c.in-Err-Syntax.field-0-0 in
    let is = c.in-Err-Syntax.field-0-is in
    let text = c.in-Ok.text.now in
    let given = c.in-Ok.ensures.cases in
    subst (λ s. is_pattern s ≡ false) given.0
    (refused text e.kind (subst IsUtf8 (sym given.0) given.1) (subst (IsRightKind default_config text) is made.kind) (made.by_grammar e is))

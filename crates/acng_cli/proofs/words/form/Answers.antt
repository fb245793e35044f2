use Rattle.std.proofs.Common.{◌≡◌, ◌∙◌, rules, ap, ap₂, Some, Option, pos, true, false}
use Rattle.std.proofs.lemmas.Result.{IfOk-weaker}
use Rattle.clap.specs.declared.builder.arg.Arg.{Arg}
use Rattle.clap.specs.Words.{Rule, app_of, rule_of, with_rule}
use Rattle.clap.specs.Simple.{app_of_fields, on_top}
use Rattle.clap.specs.declared.builder.value_parser.ValueParser.{ValueParser}
use Rattle.clap.specs.declared.builder.value_parser.ValueParser.TheVariants as vp
use Rattle.acng_cli.specs.Words.{command_rule, number_rule, conf_rule, cache_rule, bare_app}
use Rattle.acng_cli.proofs.words.form.Goals as goal

pub returns : goal.returns
returns c =
    let made : c.range-numbers.result ≡ vp.Signed (pos 1) (pos 20000) = rw (c.value_parser.ensures, c.new-2.ensures.start, c.new-2.ensures.end) at c.range-numbers.ensures in
    let given = c.value_parser-number.ensures.given in
    let command_is : rule_of c.required-command.result ≡ command_rule = search rules in
    let number_is : rule_of c.value_parser-number.result ≡ number_rule =
    ap rule_of c.value_parser-number.ensures.others
    ∙ ap₂ (λ (r : Rule) (p : Option ValueParser). record r { parser = p }) c.new-3.ensures.rule (given.1 ∙ ap Some (given.2 ∙ made)) in
    let conf_is : rule_of c.long-conf.result ≡ conf_rule = search rules in
    let cache_is : rule_of c.long-cache.result ≡ cache_rule = search rules in
    let bare_is : app_of c.no_binary_name.result ≡ bare_app =
    ap app_of_fields c.no_binary_name.ensures ∙ ap (on_top (λ s. record s { no_binary_name = true })) c.new-6.ensures.app in
    let first : app_of c.in_ok-arg.field-0 ≡ with_rule bare_app command_rule = c.in_ok-arg.ensures.shape (search rules) ∙ ap₂ with_rule bare_is command_is in
    let local : c.value_parser-number.result.global ≡ false = ap (λ (a : Arg). a.global) c.value_parser-number.ensures.others ∙ c.new-3.ensures.optional.1 in
    let second = c.in_ok-arg-2.ensures.shape local ∙ ap₂ with_rule first number_is in
    let third = c.in_ok-arg-3.ensures.shape (search rules) ∙ ap₂ with_rule second conf_is in
    IfOk-weaker c.arg-4.result _ _ (λ r added. added.shape (search rules) ∙ ap₂ with_rule third cache_is) c.arg-4.ensures

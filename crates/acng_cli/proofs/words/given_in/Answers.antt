use Rattle.std.proofs.Common.{◌≡◌, ◌∙◌, ap, sym, map, codes, List, []}
use Rattle.clap.specs.Words.{App, Text, first_of, matches_of, is_simple, is_simple_and_free, fault_of, found_of, first_value, app_of}
use Rattle.clap.specs.declared.builder.command.Command.{Command}
use Rattle.clap.specs.declared.parser.matches.ArgMatches.{ArgMatches}
use Rattle.clap.specs.Simple.{HasMatchesOf}
use Rattle.clap.proofs.WalkLemmas.{first_value-rows}
use Rattle.acng_cli.specs.Words.{words_app, words_fault, word_of}
use Rattle.acng_cli.proofs.WordsForm.{simple, simple_and_free, some_kind, out_of_form}
use Rattle.acng_cli.proofs.words.given_in.Goals as goal

-- the value that the matches give, by the words alone
value : (command : Command) (m : ArgMatches) (words : List Text) (id : Text) → app_of command ≡ words_app → HasMatchesOf (app_of command) words m
    → first_value (found_of m) id ≡ word_of id words
value command m words id is has =
    first_value-rows (found_of m) id ∙ ap (first_of id) ((has (ap is_simple is ∙ simple)).0) ∙ ap (λ (a : App). first_of id (matches_of a words)) is

pub returns-in-Ok-try_get_matches_from-clause-taken : goal.returns-in-Ok-try_get_matches_from-clause-taken
returns-in-Ok-try_get_matches_from-clause-taken c =
    let is = c.in-Ok.ensures in
    let words = map (λ s. s.now) c.args.words.now in
    ap (λ (a : App). fault_of a words) (sym is) ∙ c.in-Ok-try_get_matches_from.ensures.kinds (ap is_simple_and_free is ∙ simple_and_free)

pub returns-in-Ok-try_get_matches_from-clause-command : goal.returns-in-Ok-try_get_matches_from-clause-command
returns-in-Ok-try_get_matches_from-clause-command c =
    c.get_str.ensures ∙ value c.in-Ok.form c.in-Ok-try_get_matches_from.matches _ (codes "COMMAND") c.in-Ok.ensures c.in-Ok-try_get_matches_from.ensures.matches

pub returns-in-Ok-try_get_matches_from-clause-number : goal.returns-in-Ok-try_get_matches_from-clause-number
returns-in-Ok-try_get_matches_from-clause-number c =
    c.get_str-in-Ok-try_get_matches_from.ensures ∙ value c.in-Ok.form c.in-Ok-try_get_matches_from.matches _ (codes "NUMBER") c.in-Ok.ensures c.in-Ok-try_get_matches_from.ensures.matches

pub returns-in-Ok-try_get_matches_from-clause-conf : goal.returns-in-Ok-try_get_matches_from-clause-conf
returns-in-Ok-try_get_matches_from-clause-conf c =
    c.get_str-in-Ok-try_get_matches_from-2.ensures ∙ value c.in-Ok.form c.in-Ok-try_get_matches_from.matches _ (codes "conf") c.in-Ok.ensures c.in-Ok-try_get_matches_from.ensures.matches

pub returns-in-Ok-try_get_matches_from-clause-cache : goal.returns-in-Ok-try_get_matches_from-clause-cache
returns-in-Ok-try_get_matches_from-clause-cache c =
    c.get_str-in-Ok-try_get_matches_from-3.ensures ∙ value c.in-Ok.form c.in-Ok-try_get_matches_from.matches _ (codes "cache") c.in-Ok.ensures c.in-Ok-try_get_matches_from.ensures.matches

pub returns : goal.returns
returns c =
    let words = map (λ s. s.now) c.args.words.now in
    let is = c.in-Ok.ensures in
    let fails = c.in-Err.ensures.kinds (ap is_simple_and_free is ∙ simple_and_free) in
    let fault : words_fault words ≡ [] → ⊥ = (λ none. some_kind (fault_of (app_of c.in-Ok.form) words) c.in-Err.error fails (λ memory. c.in_default-kind.not-OutOfMemory (c.kind.ensures ∙ memory)) (ap (λ (a : App). fault_of a words) is ∙ none)) in
    record { taken = tt; command = tt; number = tt; conf = tt; cache = tt; refused = (λ _. out_of_form words fault) }

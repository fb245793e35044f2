-- The words of the command line: the form that `clap` reads them by, and what they say.
use Rattle.std.specs.Prelude.{◌&&◌, ℕ, Bool, true, false, cond, List, [], ◌∷◌, Option, Some, None, Result, Ok, Err, codes, pos, bytes_eq}
use Rattle.std.specs.List.{list_all}
use Rattle.std.specs.Str.{is_utf8}
use Rattle.std.specs.Str.Parse.{signed_digits_value}
use lib.IntN.{nat_abs}
use Rattle.clap.specs.Words.{App, Rule, Text, Kinds, first_of, matches_of, new_app, new_rule, with_rule, fault_of}
use Rattle.clap.specs.Simple.{on_top}
use Rattle.clap.specs.ValueTests.{accepts}
use Rattle.clap.specs.declared.builder.value_parser.ValueParser.{ValueParser}
use Rattle.clap.specs.declared.builder.value_parser.ValueParser.TheVariants.{Signed}
use Rattle.acng_cli.specs.declared.words.Command.{Command}
use Rattle.acng_cli.specs.declared.words.Command.TheVariants as command
use Rattle.acng_cli.specs.declared.words.WordsFault.{WordsFault}
use Rattle.acng_cli.specs.declared.words.WordsFault.TheVariants as fault
use Rattle.acng_cli.specs.declared.words.Words.{Words}

-- ---- the form: two positions, the first required, and two options with a value each

abbrev pub command_rule : Rule
command_rule = record (new_rule (codes "COMMAND")) { required = true }

-- 1 to 20,000
abbrev pub number_parser : ValueParser
number_parser = Signed (pos 1) (pos 20000)

abbrev pub number_rule : Rule
number_rule = record (new_rule (codes "NUMBER")) { parser = Some number_parser }

abbrev pub conf_rule : Rule
conf_rule = record (new_rule (codes "conf")) { long = Some (codes "conf") }

abbrev pub cache_rule : Rule
cache_rule = record (new_rule (codes "cache")) { long = Some (codes "cache") }

abbrev pub bare_app : App
bare_app = on_top (λ s. record s { no_binary_name = true }) (new_app (codes "acng"))

abbrev pub words_app : App
words_app = with_rule (with_rule (with_rule (with_rule bare_app command_rule) number_rule) conf_rule) cache_rule

-- what is wrong with the words, by their form
abbrev pub words_fault : List Text → Kinds
words_fault = fault_of words_app

-- the first value of an argument, by its name
abbrev pub word_of : Text → List Text → Option Text
word_of id words = first_of id (matches_of words_app words)

-- ---- what they say

abbrev pub is_none : Kinds → Bool
is_none [] = true
is_none (kind ∷ kinds) = false

-- each word is UTF-8, and they have the form
abbrev pub is_taken : List Text → Bool
is_taken words = list_all is_utf8 words && is_none (words_fault words)

-- the number that a text writes, 1 to 20,000
abbrev pub number_of : Text → Option ℕ
number_of text = cond (accepts false number_parser text) (Some (nat_abs (signed_digits_value 10 text))) None

-- the number of NUMBER, where it stands
abbrev pub numbered : Option Text → Option ℕ
numbered None = None
numbered (Some text) = number_of text

-- the commands without a number
abbrev pub named : Text → Option Command
named name = cond (bytes_eq name (codes "serve")) (Some command.Serve)
    (cond (bytes_eq name (codes "once")) (Some command.Once)
    (cond (bytes_eq name (codes "expire")) (Some command.Expire)
    (cond (bytes_eq name (codes "import")) (Some command.Import)
    (cond (bytes_eq name (codes "report")) (Some command.Report)
    (cond (bytes_eq name (codes "check-conf")) (Some command.CheckConf) None)))))

abbrev pub plain : Option Command → Option ℕ → Result Command WordsFault
plain None number = Err fault.NoCommand
plain (Some c) None = Ok c
plain (Some c) (Some n) = Err fault.StrayNumber

abbrev pub with_number : Option ℕ → Result Command WordsFault
with_number None = Err fault.NoNumber
with_number (Some n) = Ok (command.Gen n)

-- the command of COMMAND and NUMBER
abbrev pub command_in : Option Text → Option ℕ → Result Command WordsFault
command_in None number = Err fault.NoCommand
command_in (Some name) number = cond (bytes_eq name (codes "gen")) (with_number number) (plain (named name) number)

abbrev pub or_default : Text → Option Text → Text
or_default text None = text
or_default text (Some given) = given

abbrev pub with_files : Text → Text → Result Command WordsFault → Result Words WordsFault
with_files conf cache (Ok c) = Ok (record { command = c; conf = conf; cache = cache })
with_files conf cache (Err e) = Err e

abbrev pub said_by : List Text → Result Words WordsFault
said_by words =
    with_files (or_default (codes "acng.conf") (word_of (codes "conf") words)) (or_default (codes "cache") (word_of (codes "cache") words))
    (command_in (word_of (codes "COMMAND") words) (numbered (word_of (codes "NUMBER") words)))

-- what the words say, or why they aren't read
abbrev pub words_of : List Text → Result Words WordsFault
words_of words = cond (is_taken words) (said_by words) (Err fault.NotRead)

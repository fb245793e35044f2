-- What the words of the command line say, held against literal ones.
use Rattle.std.proofs.Common.{◌≡◌, [], ◌∷◌, Result, Ok, Err, codes, refl}
use Rattle.std.specs.Str.{is_utf8}
use Rattle.clap.proofs.OnLiterals.{clap_on_literals}
use Rattle.acng_cli.specs.Words.{words_of}
use Rattle.acng_cli.specs.declared.words.Command.{Command}
use Rattle.acng_cli.specs.declared.words.Command.TheVariants.{Serve, Once, Expire, Import, Report, CheckConf, Gen}
use Rattle.acng_cli.specs.declared.words.WordsFault.{WordsFault}
use Rattle.acng_cli.specs.declared.words.WordsFault.TheVariants.{NotRead, NoCommand, NoNumber, StrayNumber}
use Rattle.acng_cli.specs.declared.words.Words.{Words}

-- this command, with the files that are taken where none is named
abbrev asks : Command → Result Words WordsFault
asks c = Ok (record { command = c; conf = codes "acng.conf"; cache = codes "cache" })

-- ---- a command alone

serve : words_of (codes "serve" ∷ []) ≡ asks Serve
unfolding clap_on_literals is_utf8
serve = refl

once : words_of (codes "once" ∷ []) ≡ asks Once
unfolding clap_on_literals is_utf8
once = refl

expire : words_of (codes "expire" ∷ []) ≡ asks Expire
unfolding clap_on_literals is_utf8
expire = refl

import_alone : words_of (codes "import" ∷ []) ≡ asks Import
unfolding clap_on_literals is_utf8
import_alone = refl

report : words_of (codes "report" ∷ []) ≡ asks Report
unfolding clap_on_literals is_utf8
report = refl

check_conf : words_of (codes "check-conf" ∷ []) ≡ asks CheckConf
unfolding clap_on_literals is_utf8
check_conf = refl

no_words : words_of [] ≡ Err NotRead
unfolding clap_on_literals is_utf8
no_words = refl

unknown : words_of (codes "twice" ∷ []) ≡ Err NoCommand
unfolding clap_on_literals is_utf8
unknown = refl

-- letters' case counts
capital : words_of (codes "Once" ∷ []) ≡ Err NoCommand
unfolding clap_on_literals is_utf8
capital = refl

help : words_of (codes "--help" ∷ []) ≡ Err NotRead
unfolding clap_on_literals is_utf8
help = refl

-- the byte 255 stands in no UTF-8
no_text : words_of (codes "once" ∷ (255 ∷ []) ∷ []) ≡ Err NotRead
unfolding clap_on_literals is_utf8
no_text = refl

-- ---- the number

gen_10 : words_of (codes "gen" ∷ codes "10" ∷ []) ≡ asks (Gen 10)
unfolding clap_on_literals is_utf8
gen_10 = refl

gen_plus_007 : words_of (codes "gen" ∷ codes "+007" ∷ []) ≡ asks (Gen 7)
unfolding clap_on_literals is_utf8
gen_plus_007 = refl

gen_1 : words_of (codes "gen" ∷ codes "1" ∷ []) ≡ asks (Gen 1)
unfolding clap_on_literals is_utf8
gen_1 = refl

gen_0 : words_of (codes "gen" ∷ codes "0" ∷ []) ≡ Err NotRead
unfolding clap_on_literals is_utf8
gen_0 = refl

gen_20000 : words_of (codes "gen" ∷ codes "20000" ∷ []) ≡ asks (Gen 20000)
unfolding clap_on_literals is_utf8
gen_20000 = refl

gen_20001 : words_of (codes "gen" ∷ codes "20001" ∷ []) ≡ Err NotRead
unfolding clap_on_literals is_utf8
gen_20001 = refl

gen_ten : words_of (codes "gen" ∷ codes "ten" ∷ []) ≡ Err NotRead
unfolding clap_on_literals is_utf8
gen_ten = refl

gen_alone : words_of (codes "gen" ∷ []) ≡ Err NoNumber
unfolding clap_on_literals is_utf8
gen_alone = refl

stray_number : words_of (codes "check-conf" ∷ codes "5" ∷ []) ≡ Err StrayNumber
unfolding clap_on_literals is_utf8
stray_number = refl

-- ---- the files

with_conf : words_of (codes "check-conf" ∷ codes "--conf" ∷ codes "x" ∷ []) ≡ Ok (record { command = CheckConf; conf = codes "x"; cache = codes "cache" })
unfolding clap_on_literals is_utf8
with_conf = refl

-- an option may stand first, and its value behind `=`
with_cache : words_of (codes "--cache=/c" ∷ codes "report" ∷ []) ≡ Ok (record { command = Report; conf = codes "acng.conf"; cache = codes "/c" })
unfolding clap_on_literals is_utf8
with_cache = refl

conf_twice : words_of (codes "check-conf" ∷ codes "--conf" ∷ codes "x" ∷ codes "--conf" ∷ codes "y" ∷ []) ≡ Err NotRead
unfolding clap_on_literals is_utf8
conf_twice = refl

conf_without_file : words_of (codes "check-conf" ∷ codes "--conf" ∷ []) ≡ Err NotRead
unfolding clap_on_literals is_utf8
conf_without_file = refl

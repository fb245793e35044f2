-- A text that `regex` reads is a pattern, one that it refuses for another cause than memory isn't, and a search by a
-- pattern that was read from its text answers what the text says.
use Rattle.std.proofs.Common.{Bool, false, true, is_some, get_or, subst, ◌≡◌, ◌≢◌, ℕ, List, Option, Some, None, ap, ◌∙◌, ◌&&◌, ◌≤◌, ◌<◌, length, chars, IsSomeAnd}
use Rattle.std.proofs.lemmas.Str.{is_utf8-from_IsUtf8}
use Rattle.std.specs.Option.{option_map_or}
use Rattle.std.specs.Str.{IsUtf8}
use Rattle.regex.proofs.ForCallers.{is_match_alike}
use Rattle.regex.specs.Names.{names_of}
use Rattle.regex.specs.Patterns.{Re, SameCaptures, Config, Reads, Refuses, default_config, find_str}
use Rattle.regex.specs.Strings.{regex_pattern, regex_source, regex_config, IsReadFromSource}
use Rattle.regex.specs.declared.string.regex.Regex.{Regex}
use Rattle.regex_hir.specs.Meaning.{meaning}
use Rattle.regex_hir.specs.declared.hir.Hir.{Hir}
use Rattle.regex_syntax.specs.Brackets.{Nested}
use Rattle.regex_syntax.specs.Grammar.{Names, read, group_count}
use Rattle.regex_syntax.specs.declared.error.ErrorKind.{ErrorKind}
use Rattle.regex_syntax.specs.declared.error.ErrorKind.TheVariants.{OutOfMemory}
use Rattle.acng_conf.specs.Readings.{is_read, is_pattern}
use Rattle.acng_conf.proofs.Patterns.{reads, refuses, not_utf8}
use Rattle.acng_class.specs.Patterns.{found_by}

abbrev Reading : Type 0
Reading = Option (Nested Re × Names)

abbrev Fits : Config → Hir → Names → Nested Re × Names → Type 0
Fits config hir names x = (x.0.depth ≤ config.nest_limit) × SameCaptures (meaning hir) x.0.value × (names ≡ x.1)
    × (group_count (meaning hir) ≤ length names)

-- ---- whether a text is a pattern

pub accepted : (r : Regex) (source : List ℕ) → IsUtf8 source → regex_source r ≡ source → regex_config r ≡ default_config → IsReadFromSource r → is_pattern source ≡ true
accepted r source utf8 text config made =
    let hir : Hir = r.pattern.program.hir in
    let names : Names = names_of r.pattern.names.items in
    let read_text : Reads default_config source hir names = subst (λ s. Reads default_config s hir names) text (subst (λ c. Reads c (regex_source r) hir names) config made) in
    ap (λ t. t && is_read source) (is_utf8-from_IsUtf8 source utf8) ∙ reads source hir names read_text

pub refused : (source : List ℕ) (kind : ErrorKind) → IsUtf8 source → kind ≢ OutOfMemory → Refuses default_config source kind → is_pattern source ≡ false
refused source kind utf8 fresh r = ap (λ t. t && is_read source) (is_utf8-from_IsUtf8 source utf8) ∙ refuses source kind fresh r

pub no_text : (source : List ℕ) → (IsUtf8 source → ⊥) → is_pattern source ≡ false
no_text source h = ap (λ t. t && is_read source) (not_utf8 source h)

-- ---- what a search answers

abbrev answer : Reading → List ℕ → Bool
answer o text = option_map_or (λ x. is_some (find_str x.0.value text 0)) o false

carry : (config : Config) (o : Reading) (hir : Hir) (names : Names) (text : List ℕ)
    → ((k : ℕ) → get_or text k 0 < 256) → IsSomeAnd o (Fits config hir names)
    → is_some (find_str (meaning hir) text 0) ≡ answer o text
carry config None hir names text bytes p = absurd p
carry config (Some x) hir names text bytes p = is_match_alike p.1 text bytes true 0

pub found : (r : Regex) (text : List ℕ) → ((k : ℕ) → get_or text k 0 < 256) → regex_config r ≡ default_config → IsReadFromSource r
    → is_some (find_str (regex_pattern r) text 0) ≡ found_by (regex_source r) text
unfolding Reads
found r text bytes config made =
    carry default_config (read default_config (chars (regex_source r))) r.pattern.program.hir (names_of r.pattern.names.items) text bytes
    (subst (λ c. Reads c (regex_source r) r.pattern.program.hir (names_of r.pattern.names.items)) config made)

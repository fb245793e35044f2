-- What a configuration's text says, line by line, or the first refusal.
use Rattle.std.specs.Prelude.{ℕ, ◌+◌, Bool, true, false, not, ◌&&◌, ◌||◌, ◌==◌, nat_le, nat_lt, List, [], ◌∷◌, ◌++◌, cond, bytes_eq, chars, map, take, drop, length, position, insert, set, slice_index_or, Option, Some, None, Result, Ok, Err, MatchResult, unwrap_or, ⊤, ◌≡◌, ◌≢◌}
use Rattle.std.specs.List.{list_any}
use Rattle.std.specs.Option.{option_map_or}
use Rattle.std.specs.Str.{is_utf8}
use Rattle.regex_syntax.specs.Grammar.{read}
use Rattle.regex.specs.Patterns.{default_config}
use Rattle.acng_base.specs.Cuts.{slash, is_colon, trim, without_cr, pieces, words}
use Rattle.acng_conf.specs.Lines.{first_is, without_comment, is_skipped}
use Rattle.acng_conf.specs.Keys.{is_key, is_page, is_group_name, key_of, group_name}
use Rattle.acng_conf.specs.Numbers.{number_within}
use Rattle.acng_conf.specs.Remaps.{RemapLine, line_of, first_section}
use Rattle.acng_conf.specs.Settings.{Mirrors, Settings, defaults, most_text, most_line, most_groups, most_entries}
use Rattle.acng_conf.specs.declared.fault.ConfCause.{ConfCause}
use Rattle.acng_conf.specs.declared.fault.ConfCause.TheVariants.{NoMemory, NotALine, BadNumber, BadUrl, BadPattern, NoMerge, TwiceMerged, TooLong, TooMany}
use Rattle.acng_conf.specs.declared.fault.ConfFault.{ConfFault}
use Rattle.acng_conf.specs.declared.fault.ListFile.{ListFile}
use Rattle.acng_conf.specs.declared.fault.WarnCause.{WarnCause}
use Rattle.acng_conf.specs.declared.fault.WarnCause.TheVariants.{Unused as UnusedKey, NoTarget, ExtraBind}
use Rattle.acng_conf.specs.declared.fault.Warning.{Warning}
use Rattle.acng_conf.specs.declared.key.Key.{Key}
use Rattle.acng_conf.specs.declared.key.Key.TheVariants.{Setting as OneSetting, Group, Unused}
use Rattle.acng_conf.specs.declared.key.Setting.{Setting}
use Rattle.acng_conf.specs.declared.key.Setting.TheVariants.{Port, BindAddress, ReportPage, ExThreshold, ExAbortOnProblems, Offlinemode, FreshIndexMaxAge, RedirMax, MaintOverHttp, PfilePatternEx, VfilePatternEx}

-- the settings after a line, or why the line is refused
abbrev pub Step : Type 0
Step = Result Settings ConfCause

abbrev pub and_then : {S T E : Type 0} → Result S E → (S → Result T E) → Result T E
and_then (Ok s) next = next s
and_then (Err e) next = Err e

-- what a call gives against the step that it makes; want of memory alone is free
abbrev pub Gives : Step → Step → Type 0
Gives expected result = MatchResult result (λ s. expected ≡ Ok s) (λ cause. cause ≢ NoMemory → expected ≡ Err cause)

-- the same of a call that changes settings in place
abbrev pub GivesIn : Step → Result ⊤ ConfCause → Settings → Type 0
GivesIn expected result s = MatchResult result (λ _. expected ≡ Ok s) (λ cause. cause ≢ NoMemory → expected ≡ Err cause)

-- the same, with the line of a refusal
abbrev pub GivesAt : Result Settings ConfFault → Result Settings ConfFault → Type 0
GivesAt expected result = MatchResult result (λ s. expected ≡ Ok s) (λ fault. fault.cause ≢ NoMemory → expected ≡ Err fault)

-- ---- warnings

abbrev pub with_warnings : ℕ → List WarnCause → Settings → Settings
with_warnings n causes s = record s { warnings = s.warnings ++ map (λ c. record { line = n; cause = c }) causes }

abbrev pub with_warning : ℕ → WarnCause → Settings → Settings
with_warning n cause s = record s { warnings = s.warnings ++ record { line = n; cause = cause } ∷ [] }

-- ---- plain keys

-- a setting's number has at most 9 digits
abbrev pub setting_number : ℕ → ℕ → List ℕ → Option ℕ
setting_number low high value = number_within 9 low high value

abbrev pub with_number : Option ℕ → (ℕ → Settings) → Step
with_number None f = Err BadNumber
with_number (Some n) f = Ok (f n)

abbrev pub set_page : Settings → List ℕ → Step
set_page s value = cond (is_page value) (Ok (record s { report_page = value })) (Err NotALine)

-- the first word is the address; others are warned of
abbrev pub set_bind : ℕ → Settings → List (List ℕ) → Step
set_bind n s [] = Err NotALine
set_bind n s (w ∷ []) = Ok (record s { bind = w })
set_bind n s (w ∷ v ∷ ws) = Ok (with_warning n ExtraBind (record s { bind = w }))

-- `regex` reads the text, nested no deeper than it allows
abbrev pub is_read : List ℕ → Bool
is_read text = option_map_or (λ x. nat_le x.0.depth default_config.nest_limit) (read default_config (chars text)) false

abbrev pub is_pattern : List ℕ → Bool
is_pattern source = is_utf8 source && is_read source

abbrev pub with_pattern : List ℕ → Settings → Step
with_pattern source s = cond (is_pattern source) (Ok s) (Err BadPattern)

-- ---- groups

abbrev pub new_group : List ℕ → ℕ → Mirrors
new_group name n = record { name = name; merging = []; targets = []; last = n }

-- the number of the group of this name
abbrev pub called : List ℕ → List Mirrors → Option ℕ
called name groups = position (λ g. bytes_eq g.name name) groups

-- the same; the length where there is none
abbrev pub group_at : List ℕ → List Mirrors → ℕ
group_at name groups = unwrap_or (called name groups) (length groups)

abbrev pub has_name : List ℕ → List Mirrors → Bool
has_name name groups = list_any (λ g. bytes_eq g.name name) groups

-- each group has a name that a key may have, and no other has it
abbrev pub are_names : List Mirrors → Bool
are_names [] = true
are_names (g ∷ gs) = is_group_name g.name && (not (has_name g.name gs) && are_names gs)

abbrev pub with_group : List ℕ → ℕ → List Mirrors → List Mirrors
with_group name n groups = cond (nat_lt (group_at name groups) (length groups)) groups (groups ++ new_group name n ∷ [])

abbrev pub named_at : ℕ → Mirrors → Mirrors
named_at n g = record g { last = n }

abbrev pub with_place : List ℕ → Mirrors → Mirrors
with_place entry g = record g { merging = g.merging ++ entry ∷ [] }

abbrev pub with_targets : List (List ℕ) → Mirrors → Mirrors
with_targets targets g = record g { targets = g.targets ++ targets }

-- the groups with the one of this number changed
abbrev pub change : (Mirrors → Mirrors) → ℕ → Settings → Settings
change f k s = record s { groups = set s.groups k (f (slice_index_or s.groups k (new_group [] 0))) }

-- the group of this name stands among the groups, and the line names it
abbrev pub naming : List ℕ → ℕ → Settings → Settings
naming name n s = change (named_at n) (group_at name s.groups) (record s { groups = with_group name n s.groups })

-- ---- entries that merge

abbrev pub has_entry : List ℕ → Mirrors → Bool
has_entry entry g = list_any (λ e. bytes_eq e entry) g.merging

-- the group that the entry merges into
abbrev pub owner : List ℕ → List Mirrors → Option ℕ
owner entry groups = position (has_entry entry) groups

abbrev pub merge_owned : ℕ → Settings → List ℕ → Option ℕ → Step
merge_owned k s entry None = Ok (change (with_place entry) k (record s { entries = s.entries + 1 }))
merge_owned k s entry (Some j) = cond (j == k) (Ok s) (Err TwiceMerged)

-- an entry merges into one group; twice into the same one counts once
abbrev pub merge : ℕ → Settings → List ℕ → Step
merge k s entry = merge_owned k s entry (owner entry s.groups)

abbrev pub merge_all : ℕ → Settings → List (List ℕ) → Step
merge_all k s [] = Ok s
merge_all k s (e ∷ es) = and_then (merge k s e) (λ t. merge_all k t es)

-- there are more groups or entries than a configuration may have
abbrev pub is_too_many : Settings → Bool
is_too_many s = nat_lt most_groups (length s.groups) || nat_lt most_entries s.entries

abbrev pub within_limits : Settings → Step
within_limits s = cond (is_too_many s) (Err TooMany) (Ok s)

abbrev pub after_merging : ℕ → ℕ → RemapLine → Settings → Step
after_merging n k w s = within_limits (with_warnings n w.causes (change (with_targets w.targets) k s))

-- what a line brings, added to the group of this number
abbrev pub add_brought : ℕ → ℕ → Settings → List (List ℕ) → Option RemapLine → Step
add_brought n k s ws None = Err BadUrl
add_brought n k s ws (Some w) =
    cond (length (first_section ws) == 0) (Err NoMerge) (and_then (merge_all k s w.merging) (λ t. after_merging n k w t))

-- how many targets the group of this number has
abbrev pub held_at : ℕ → Settings → ℕ
held_at k s = length (slice_index_or s.groups k (new_group [] 0)).targets

abbrev pub add_words : List ListFile → ℕ → ℕ → Settings → List (List ℕ) → Step
add_words lists n k s ws = add_brought n k s ws (line_of lists (held_at k s) ws)

abbrev pub add_remap : List ListFile → ℕ → Settings → List ℕ → List ℕ → Step
add_remap lists n s name value =
    cond (is_group_name name) (add_words lists n (group_at name s.groups) (naming name n s) (words value)) (Err NotALine)

-- ---- lines

-- the settings after a setting's value at line n
abbrev pub with_setting : ℕ → Settings → List ℕ → Setting → Step
with_setting n s value Port = with_number (setting_number 1 65535 value) (λ x. record s { port = x })
with_setting n s value BindAddress = set_bind n s (words value)
with_setting n s value ReportPage = set_page s value
with_setting n s value ExThreshold = with_number (setting_number 0 36500 value) (λ x. record s { threshold_days = x })
with_setting n s value ExAbortOnProblems = with_number (setting_number 0 1000000 value) (λ x. record s { abort_limit = x })
with_setting n s value Offlinemode = with_number (setting_number 0 1 value) (λ x. record s { offline = x == 1 })
with_setting n s value FreshIndexMaxAge = with_number (setting_number 0 31536000 value) (λ x. record s { fresh_age = x })
with_setting n s value RedirMax = with_number (setting_number 0 15 value) (λ x. record s { redir_max = x })
with_setting n s value MaintOverHttp = with_number (setting_number 0 1 value) (λ x. record s { maint_over_http = x == 1 })
with_setting n s value PfilePatternEx = with_pattern value (record s { pfile_pattern = Some value })
with_setting n s value VfilePatternEx = with_pattern value (record s { vfile_pattern = Some value })

-- after a value, by what its key is; a group's key has the group's name
abbrev pub after_value : List ListFile → ℕ → Settings → List ℕ → List ℕ → Key → Step
after_value lists n s key value (OneSetting setting) = with_setting n s value setting
after_value lists n s key value Group = add_remap lists n s (group_name key) value
after_value lists n s key value Unused = Ok (with_warning n UnusedKey s)

abbrev pub after_key : List ListFile → ℕ → Settings → List ℕ → List ℕ → Step
after_key lists n s key value = cond (is_key key) (after_value lists n s key value (key_of key)) (Err NotALine)

-- the text before the first colon is the key
abbrev pub after_colon : List ListFile → ℕ → Settings → List ℕ → Option ℕ → Step
after_colon lists n s text None = Err NotALine
after_colon lists n s text (Some k) = after_key lists n s (take k text) (trim (drop (k + 1) text))

abbrev pub after_text : List ListFile → ℕ → Settings → List ℕ → Step
after_text lists n s text = after_colon lists n s text (position is_colon text)

-- a line that says something has a most of bytes
abbrev pub after_line : List ListFile → ℕ → Settings → List ℕ → Step
after_line lists n s line =
    cond (is_skipped (trim line)) (Ok s)
    (cond (nat_lt most_line (length line)) (Err TooLong) (after_text lists n s (without_comment (trim line))))

-- ---- the text

-- a refusal is at its line
abbrev pub at_line : ℕ → Step → Result Settings ConfFault
at_line n (Ok s) = Ok s
at_line n (Err cause) = Err (record { line = n; cause = cause })

-- The pieces between line feeds, of which the first is line n; a carriage return before a line feed is dropped. The
-- last piece is a line, unless the text is over its limit there.
abbrev pub after_lines : Bool → List ListFile → ℕ → Settings → List (List ℕ) → Result Settings ConfFault
after_lines over lists n s [] = Ok s
after_lines over lists n s (p ∷ []) = at_line n (cond over (Err TooLong) (after_line lists n s p))
after_lines over lists n s (p ∷ q ∷ ps) =
    and_then (at_line n (after_line lists n s (without_cr p))) (λ t. after_lines over lists (n + 1) t (q ∷ ps))

-- ---- groups with a prefix and no target

abbrev pub lacks_target : Mirrors → Bool
lacks_target g = list_any (λ e. first_is slash e) g.merging && length g.targets == 0

-- the position of the first warning of a later line
abbrev pub first_later : ℕ → List Warning → ℕ
first_later n ws = unwrap_or (position (λ v. nat_lt n v.line) ws) (length ws)

-- a warning after those of its line and of the lines before
abbrev pub put_warning : Warning → List Warning → List Warning
put_warning w ws = insert ws (first_later w.line ws) w

-- each such group is warned of at its last line
abbrev pub with_no_targets : List Warning → List Mirrors → List Warning
with_no_targets ws [] = ws
with_no_targets ws (g ∷ gs) = with_no_targets (cond (lacks_target g) (put_warning (record { line = g.last; cause = NoTarget }) ws) ws) gs

abbrev pub finished : Settings → Settings
finished s = record s { warnings = with_no_targets s.warnings s.groups }

-- what a text says, or its first refusal; no byte past the limit counts
abbrev pub reading : List ℕ → List ListFile → Result Settings ConfFault
reading text lists =
    and_then (after_lines (nat_lt most_text (length text)) lists 1 defaults (pieces (take most_text text))) (λ s. Ok (finished s))

-- Each line keeps a configuration within its bounds, and its warnings in order.
use Rattle.std.proofs.Common.{◌≡◌, ℕ, zero, suc, ◌+◌, ◌<◌, ◌≤◌, Bool, true, false, not, ◌&&◌, ◌||◌, ◌==◌, nat_le, nat_lt, List, [], ◌∷◌, ◌++◌, Option, Some, None, Result, Ok, Err, IfSome, cond, length, map, set, insert, get_or, take, drop, position, option_map, option_and_then, unwrap_or, refl, sym, ap, ◌∙◌, subst, arith, All, length-append}
use Rattle.std.specs.Bool.{⊤}
use Rattle.std.specs.List.{position_or_len}
use Rattle.std.specs.Str.Parse.{digits_value}
use Rattle.std.proofs.lemmas.Grind.{common_steps}
use Rattle.std.proofs.lemmas.List.Sums.{prefix_len-le-length}
use Rattle.std.proofs.lemmas.List.Elements.{All-nil, All-head, All-tail, All-set, All-push}
use Rattle.acng_conf.specs.Bounds.{AreRising, HasFewTargets, IsBounded}
use Rattle.acng_base.specs.Cuts.{is_colon, trim, without_cr, pieces, words}
use Rattle.acng_base.specs.Numbers.{are_digits}
use Rattle.acng_conf.specs.Lines.{without_comment, is_skipped}
use Rattle.acng_conf.specs.Globs.{fits}
use Rattle.acng_conf.specs.Keys.{is_key, is_page, is_group_name, key_of, group_name}
use Rattle.acng_conf.specs.Numbers.{if_within}
use Rattle.acng_conf.specs.Places.{url_entry, entry_of}
use Rattle.acng_conf.specs.Remaps.{RemapLine, Listing, empty_line, warned, with_target, taken, after_entry, after_list_line, after_list_lines, after_fitting, after_files, ends_with_gz, is_listed, after_pattern, is_file_word, after_word, after_words, first_section, after_section, after_flags, line_of}
use Rattle.acng_conf.specs.Settings.{Mirrors, Settings, defaults}
use Rattle.acng_conf.specs.Readings.{Step, and_then, with_warning, with_warnings, setting_number, with_number, set_bind, is_pattern, new_group, group_at, with_group, named_at, with_place, with_targets, change, naming, owner, merge_owned, merge, merge_all, within_limits, after_merging, add_brought, held_at, add_remap, with_setting, after_value, after_colon, after_line, at_line, after_lines, lacks_target, first_later, put_warning, with_no_targets, finished, reading}
use Rattle.acng_conf.specs.declared.fault.ConfCause.{ConfCause}
use Rattle.acng_conf.specs.declared.fault.ConfCause.TheVariants.{TooLong, TooMany}
use Rattle.acng_conf.specs.declared.fault.ConfFault.{ConfFault}
use Rattle.acng_conf.specs.declared.fault.ListFile.{ListFile}
use Rattle.acng_conf.specs.declared.fault.WarnCause.{WarnCause}
use Rattle.acng_conf.specs.declared.fault.WarnCause.TheVariants.{Unused as UnusedKey, NoTarget, ExtraBind, ExtraTarget, BadListLine}
use Rattle.acng_conf.specs.declared.fault.Warning.{Warning}
use Rattle.acng_conf.specs.declared.key.Key.{Key}
use Rattle.acng_conf.specs.declared.key.Key.TheVariants.{Setting as OneSetting, Group, Unused}
use Rattle.acng_conf.specs.declared.key.Setting.{Setting}
use Rattle.acng_conf.specs.declared.key.Setting.TheVariants.{Port, BindAddress, ReportPage, ExThreshold, ExAbortOnProblems, Offlinemode, FreshIndexMaxAge, RedirMax, MaintOverHttp, PfilePatternEx, VfilePatternEx}
use Rattle.acng_conf.specs.declared.place.Section.{Section}
use Rattle.acng_conf.specs.declared.place.Section.TheVariants.{Merging, Targets}

-- ---- warnings

-- the lines rise from the first number on, and none is above the second
abbrev RisesTo : ℕ → ℕ → List Warning → Type 0
RisesTo low high [] = low ≤ high
RisesTo low high (w ∷ ws) = (low ≤ w.line) × RisesTo w.line high ws

more_lines : (low high n : ℕ) (ws : List Warning) → high ≤ n → RisesTo low high ws → RisesTo low n ws
more_lines low high n [] le h = omega arith
more_lines low high n (w ∷ ws) le h = (h.0, more_lines w.line high n ws le h.1)

all_here : (low n : ℕ) (causes : List WarnCause) → low ≤ n → RisesTo low n (map (λ c. record { line = n; cause = c }) causes)
all_here low n [] h = h
all_here low n (c ∷ cs) h = (h, all_here n n cs (omega arith))

warned_here : (low n : ℕ) (ws : List Warning) (causes : List WarnCause) → RisesTo low n ws → RisesTo low n (ws ++ map (λ c. record { line = n; cause = c }) causes)
warned_here low n [] causes h = all_here low n causes h
warned_here low n (w ∷ ws) causes h = (h.0, warned_here w.line n ws causes h.1)

rising : (low high : ℕ) (ws : List Warning) → RisesTo low high ws → AreRising low ws
rising low high [] h = tt
rising low high (w ∷ ws) h = (h.0, rising w.line high ws h.1)

-- ---- what each line keeps

record Keeps (n port : ℕ) (groups : List Mirrors) (entries : ℕ) (warnings : List Warning) : Type 0 where
  some : 1 ≤ port
  few_groups : length groups ≤ 256
  few_entries : entries ≤ 20000
  few : All HasFewTargets groups
  rises : RisesTo 0 n warnings

abbrev Kept : ℕ → Settings → Type 0
Kept n s = Keeps n s.port s.groups s.entries s.warnings

abbrev Sure : ℕ → Step → Type 0
Sure n (Ok s) = Kept n s
Sure n (Err cause) = ⊤

either : (n : ℕ) (b : Bool) (x y : Step) → Sure n x → Sure n y → Sure n (cond b x y)
either n true x y hx hy = hx
either n false x y hx hy = hy

warn : (n : ℕ) (s : Settings) (cause : WarnCause) → Kept n s → Kept n (with_warning n cause s)
warn n s cause k = record { some = k.some; few_groups = k.few_groups; few_entries = k.few_entries; few = k.few; rises = warned_here 0 n s.warnings (cause ∷ []) k.rises }

-- ---- settings

ranged : (low high : ℕ) (text : List ℕ) → IfSome (setting_number low high text) (λ x. low ≤ x)
ranged low high text = digits (are_digits 9 text)
  where
    v : ℕ
    v = digits_value 10 text

    inside : (b c : Bool) → nat_le low v ≡ b → IfSome (cond (b && c) (Some v) None) (λ x. low ≤ x)
    inside false c e = tt
    inside true false e = tt
    inside true true e = grind (arith, common_steps)

    digits : (a : Bool) → IfSome (option_and_then (if_within low high) (cond a (Some v) None)) (λ x. low ≤ x)
    digits false = tt
    digits true = inside (nat_le low v) (nat_le v high) refl

numbered : (n : ℕ) (o : Option ℕ) (f : ℕ → Settings) → ((x : ℕ) → Kept n (f x)) → Sure n (with_number o f)
numbered n None f h = tt
numbered n (Some x) f h = h x

ported : (n : ℕ) (s : Settings) (o : Option ℕ) → IfSome o (λ x. 1 ≤ x) → Kept n s → Sure n (with_number o (λ x. record s { port = x }))
ported n s None h k = tt
ported n s (Some x) h k = record { some = h; few_groups = k.few_groups; few_entries = k.few_entries; few = k.few; rises = k.rises }

bound : (n : ℕ) (s : Settings) (ws : List (List ℕ)) → Kept n s → Sure n (set_bind n s ws)
bound n s [] k = tt
bound n s (w ∷ []) k = k
bound n s (w ∷ v ∷ ws) k = warn n (record s { bind = w }) ExtraBind k

one_setting : (n : ℕ) (s : Settings) (value : List ℕ) (setting : Setting) → Kept n s → Sure n (with_setting n s value setting)
one_setting n s value Port k = ported n s (setting_number 1 65535 value) (ranged 1 65535 value) k
one_setting n s value BindAddress k = bound n s (words value) k
one_setting n s value ReportPage k = either n (is_page value) _ _ k tt
one_setting n s value ExThreshold k = numbered n (setting_number 0 36500 value) (λ x. record s { threshold_days = x }) (λ _. k)
one_setting n s value ExAbortOnProblems k = numbered n (setting_number 0 1000000 value) (λ x. record s { abort_limit = x }) (λ _. k)
one_setting n s value Offlinemode k = numbered n (setting_number 0 1 value) (λ x. record s { offline = x == 1 }) (λ _. k)
one_setting n s value FreshIndexMaxAge k = numbered n (setting_number 0 31536000 value) (λ x. record s { fresh_age = x }) (λ _. k)
one_setting n s value RedirMax k = numbered n (setting_number 0 15 value) (λ x. record s { redir_max = x }) (λ _. k)
one_setting n s value MaintOverHttp k = numbered n (setting_number 0 1 value) (λ x. record s { maint_over_http = x == 1 }) (λ _. k)
one_setting n s value PfilePatternEx k = either n (is_pattern value) _ _ k tt
one_setting n s value VfilePatternEx k = either n (is_pattern value) _ _ k tt

-- ---- what a line brings to a group that holds so many targets

record Fits (h held : ℕ) (targets : List (List ℕ)) : Type 0 where
  held_is : held ≡ h
  room : h + length targets ≤ 64

abbrev Few : ℕ → RemapLine → Type 0
Few h w = Fits h w.held w.targets

abbrev SureLine : ℕ → Option RemapLine → Type 0
SureLine h o = IfSome o (λ w. Few h w)

one_of : (h : ℕ) (b : Bool) (v w : RemapLine) → Few h v → Few h w → Few h (cond b v w)
one_of h true v w hv hw = hv
one_of h false v w hv hw = hw

a_target : (h : ℕ) (w : RemapLine) (entry : List ℕ) → Few h w → Few h (with_target w entry)
a_target h w entry f = cases (nat_lt (w.held + length w.targets) 64) refl
  where
    cases : (b : Bool) → nat_lt (w.held + length w.targets) 64 ≡ b
        → Few h (cond b (record { held = w.held; merging = w.merging; targets = w.targets ++ entry ∷ []; causes = w.causes }) (record { held = w.held; merging = w.merging; targets = w.targets; causes = w.causes ++ ExtraTarget ∷ [] }))
    cases true e =
        let less : w.held + length w.targets < 64 = grind (arith, common_steps) in
        let size : length (w.targets ++ entry ∷ []) ≡ length w.targets + 1 = length-append w.targets (entry ∷ []) in
        record { held_is = f.held_is; room = omega arith }
    cases false e = f

an_entry : (h : ℕ) (section : Section) (w : RemapLine) (entry : List ℕ) → Few h w → Few h (taken section w entry)
an_entry h Merging w entry f = f
an_entry h Targets w entry f = a_target h w entry f

a_read : (h : ℕ) (section : Section) (l : Listing) (o : Option (List ℕ)) → Few h l.brought → Few h (after_entry section l o).brought
a_read h section l (Some entry) f = an_entry h section l.brought entry f
a_read h section l None f = cases l.bad
  where
    cases : (b : Bool) → Few h (cond b l (record { brought = warned BadListLine l.brought; bad = true })).brought
    cases true = f
    cases false = f

a_line : (h : ℕ) (section : Section) (l : Listing) (line : List ℕ) → Few h l.brought → Few h (after_list_line section l line).brought
a_line h section l line f = cases (is_skipped (trim line))
  where
    cases : (b : Bool) → Few h (cond b l (after_entry section l (url_entry section (trim line)))).brought
    cases true = f
    cases false = a_read h section l (url_entry section (trim line)) f

some_lines : (h : ℕ) (section : Section) (l : Listing) (ps : List (List ℕ)) → Few h l.brought → Few h (after_list_lines section l ps).brought
some_lines h section l [] f = f
some_lines h section l (p ∷ []) f = a_line h section l p f
some_lines h section l (p ∷ q ∷ ps) f = some_lines h section (after_list_line section l (without_cr p)) (q ∷ ps) (a_line h section l (without_cr p) f)

a_file : (h : ℕ) (section : Section) (pattern : List ℕ) (w : RemapLine) (file : ListFile) → Few h w → Few h (after_fitting section pattern w file)
a_file h section pattern w file f = one_of h (fits pattern file.name) _ _ (some_lines h section (record { brought = w; bad = false }) (pieces file.bytes) f) f

some_files : (h : ℕ) (section : Section) (pattern : List ℕ) (w : RemapLine) (files : List ListFile) → Few h w → Few h (after_files section pattern w files)
some_files h section pattern w [] f = f
some_files h section pattern w (x ∷ xs) f = some_files h section pattern (after_fitting section pattern w x) xs (a_file h section pattern w x f)

a_pattern : (h : ℕ) (section : Section) (lists : List ListFile) (w : RemapLine) (pattern : List ℕ) → Few h w → Few h (after_pattern section lists w pattern)
a_pattern h section lists w pattern f = one_of h (ends_with_gz pattern) _ _ f (one_of h (is_listed pattern lists) _ _ (some_files h section pattern w lists f) f)

a_word : (h : ℕ) (section : Section) (lists : List ListFile) (w : RemapLine) (word : List ℕ) → Few h w → SureLine h (after_word section lists w word)
a_word h section lists w word f = cases (is_file_word word) (entry_of section word)
  where
    cases : (b : Bool) (o : Option (List ℕ))
        → SureLine h (cond b (Some (after_pattern section lists w (drop 5 word))) (option_map (λ entry. taken section w entry) o))
    cases true o = a_pattern h section lists w (drop 5 word) f
    cases false None = tt
    cases false (Some entry) = an_entry h section w entry f

some_words : (h : ℕ) (section : Section) (lists : List ListFile) (w : RemapLine) (ws : List (List ℕ)) → Few h w → SureLine h (after_words section lists w ws)
some_words h section lists w [] f = f
some_words h section lists w (x ∷ xs) f =
    cases (after_word section lists w x) (a_word h section lists w x f) (λ v s. some_words h section lists v xs s)
  where
    cases : (o : Option RemapLine) → SureLine h o → ((v : RemapLine) → Few h v → SureLine h (after_words section lists v xs))
        → SureLine h (option_and_then (λ v. after_words section lists v xs) o)
    cases None s rest = tt
    cases (Some v) s rest = rest v s

a_remap_line : (h : ℕ) (lists : List ListFile) (ws : List (List ℕ)) → h ≤ 64 → SureLine h (line_of lists h ws)
a_remap_line h lists ws le = cases (after_words Merging lists (empty_line h) (first_section ws)) (some_words h Merging lists (empty_line h) (first_section ws) (record { held_is = refl; room = omega arith }))
  where
    rest : List (List ℕ)
    rest = after_section ws

    flagged : (o : Option RemapLine) → SureLine h o → SureLine h (option_map (λ w. after_flags (after_section rest) w) o)
    flagged None s = tt
    flagged (Some w) s = one_of h (length (after_section rest) == 0) _ _ s s

    cases : (o : Option RemapLine) → SureLine h o
        → SureLine h (option_map (λ w. after_flags (after_section rest) w) (option_and_then (λ w. after_words Targets lists w (first_section rest)) o))
    cases None s = tt
    cases (Some w) s = flagged (after_words Targets lists w (first_section rest)) (some_words h Targets lists w (first_section rest) s)

-- ---- the line of a group, before the limits are looked at

-- the group at a place has so many targets
abbrev held_in : ℕ → List Mirrors → ℕ
held_in k groups = length (get_or groups k (new_group [] 0)).targets

few_at : (groups : List Mirrors) (k : ℕ) → All HasFewTargets groups → held_in k groups ≤ 64
few_at [] k h = omega arith
few_at (g ∷ gs) zero h = All-head HasFewTargets g gs h
few_at (g ∷ gs) (suc k) h = few_at gs k (All-tail HasFewTargets g gs h)

-- a change that leaves the targets
abbrev changed : (Mirrors → Mirrors) → ℕ → List Mirrors → List Mirrors
changed f k groups = set groups k (f (get_or groups k (new_group [] 0)))

same_held : (f : Mirrors → Mirrors) → ((g : Mirrors) → (f g).targets ≡ g.targets) → (groups : List Mirrors) (k : ℕ) → held_in k (changed f k groups) ≡ held_in k groups
same_held f keeps groups k = from groups k
  where
    from : (gs : List Mirrors) (j : ℕ) → held_in j (changed f j gs) ≡ held_in j gs
    from [] j = refl
    from (g ∷ gs) zero = ap length (keeps g)
    from (g ∷ gs) (suc j) = from gs j

still_few : (f : Mirrors → Mirrors) → ((g : Mirrors) → (f g).targets ≡ g.targets) → (groups : List Mirrors) (k : ℕ) → All HasFewTargets groups → All HasFewTargets (changed f k groups)
still_few f keeps groups k h =
    let g = get_or groups k (new_group [] 0) in
    All-set HasFewTargets groups k (f g) (subst (λ (ts : List (List ℕ)). length ts ≤ 64) (sym (keeps g)) (few_at groups k h)) h

record Opened (n k h port : ℕ) (groups : List Mirrors) (warnings : List Warning) : Type 0 where
  some : 1 ≤ port
  few : All HasFewTargets groups
  held : held_in k groups ≡ h
  rises : RisesTo 0 n warnings

abbrev Open : ℕ → ℕ → ℕ → Settings → Type 0
Open n k h s = Opened n k h s.port s.groups s.warnings

abbrev SureOpen : ℕ → ℕ → ℕ → Step → Type 0
SureOpen n k h (Ok s) = Open n k h s
SureOpen n k h (Err cause) = ⊤

one_entry : (n k h : ℕ) (s : Settings) (entry : List ℕ) → Open n k h s → SureOpen n k h (merge k s entry)
one_entry n k h s entry o = cases (owner entry s.groups)
  where
    again : (b : Bool) (cause : ConfCause) → SureOpen n k h (cond b (Ok s) (Err cause))
    again true cause = o
    again false cause = tt

    cases : (j : Option ℕ) → SureOpen n k h (merge_owned k s entry j)
    cases None = record {
      some = o.some;
      few = still_few (with_place entry) (λ g. refl) s.groups k o.few;
      held = same_held (with_place entry) (λ g. refl) s.groups k ∙ o.held;
      rises = o.rises;
    }
    cases (Some j) = again (j == k) _

all_entries : (n k h : ℕ) (s : Settings) (es : List (List ℕ)) → Open n k h s → SureOpen n k h (merge_all k s es)
all_entries n k h s [] o = o
all_entries n k h s (e ∷ es) o = cases (merge k s e) (one_entry n k h s e o) (λ t p. all_entries n k h t es p)
  where
    cases : (r : Step) → SureOpen n k h r → ((t : Settings) → Open n k h t → SureOpen n k h (merge_all k t es))
        → SureOpen n k h (and_then r (λ t. merge_all k t es))
    cases (Ok t) p rest = rest t p
    cases (Err cause) p rest = tt

limited : (n : ℕ) (s : Settings) → 1 ≤ s.port → All HasFewTargets s.groups → RisesTo 0 n s.warnings → Sure n (within_limits s)
limited n s some few rises = cases (nat_lt 256 (length s.groups)) (nat_lt 20000 s.entries) refl refl
  where
    cases : (a b : Bool) → nat_lt 256 (length s.groups) ≡ a → nat_lt 20000 s.entries ≡ b → Sure n (cond (a || b) (Err TooMany) (Ok s))
    cases true b d e = tt
    cases false true d e = tt
    cases false false d e = record { some = some; few_groups = grind (arith, common_steps); few_entries = grind (arith, common_steps); few = few; rises = rises }

more_targets : (n k h : ℕ) (w : RemapLine) (s : Settings) → Few h w → Open n k h s → Sure n (after_merging n k w s)
more_targets n k h w s f o =
    let g = get_or s.groups k (new_group [] 0) in
    let size : length (g.targets ++ w.targets) ≡ length g.targets + length w.targets = length-append g.targets w.targets in
    let held : length g.targets ≡ h = o.held in
    let room : h + length w.targets ≤ 64 = f.room in
    limited n (with_warnings n w.causes (change (with_targets w.targets) k s)) o.some
    (All-set HasFewTargets s.groups k (with_targets w.targets g) (omega arith) o.few)
    (warned_here 0 n s.warnings w.causes o.rises)

brought : (n k : ℕ) (s : Settings) (ws : List (List ℕ)) (o : Option RemapLine) → SureLine (held_at k s) o → Open n k (held_at k s) s → Sure n (add_brought n k s ws o)
brought n k s ws None f p = tt
brought n k s ws (Some w) f p =
    either n (length (first_section ws) == 0) _ _ tt (cases (merge_all k s w.merging) (all_entries n k (held_at k s) s w.merging p))
  where
    cases : (r : Step) → SureOpen n k (held_at k s) r → Sure n (and_then r (λ t. after_merging n k w t))
    cases (Ok t) q = more_targets n k (held_at k s) w t f q
    cases (Err cause) q = tt

named_few : (name : List ℕ) (n : ℕ) (s : Settings) → All HasFewTargets s.groups → All HasFewTargets (naming name n s).groups
named_few name n s few = still_few (named_at n) (λ g. refl) (with_group name n s.groups) (group_at name s.groups) (cases (nat_lt (group_at name s.groups) (length s.groups)))
  where
    none : HasFewTargets (new_group name n)
    none = omega arith

    cases : (b : Bool) → All HasFewTargets (cond b s.groups (s.groups ++ new_group name n ∷ []))
    cases true = few
    cases false = All-push HasFewTargets s.groups (new_group name n) few none

a_group : (lists : List ListFile) (n : ℕ) (s : Settings) (name value : List ℕ) → Kept n s → Sure n (add_remap lists n s name value)
a_group lists n s name value k =
    let t = naming name n s in
    let at = group_at name s.groups in
    let few = named_few name n s k.few in
    either n (is_group_name name) _ _
    (brought n at t (words value) (line_of lists (held_at at t) (words value)) (a_remap_line (held_at at t) lists (words value) (few_at t.groups at few))
    (record { some = k.some; few = few; held = refl; rises = k.rises }))
    tt

-- ---- lines

one_value : (lists : List ListFile) (n : ℕ) (s : Settings) (key value : List ℕ) (is : Key) → Kept n s → Sure n (after_value lists n s key value is)
one_value lists n s key value (OneSetting setting) k = one_setting n s value setting k
one_value lists n s key value Group k = a_group lists n s (group_name key) value k
one_value lists n s key value Unused k = warn n s UnusedKey k

after_the_colon : (lists : List ListFile) (n : ℕ) (s : Settings) (text : List ℕ) (o : Option ℕ) → Kept n s → Sure n (after_colon lists n s text o)
after_the_colon lists n s text None k = tt
after_the_colon lists n s text (Some j) k =
    either n (is_key (take j text)) _ _ (one_value lists n s (take j text) (trim (drop (j + 1) text)) (key_of (take j text)) k) tt

one_line : (lists : List ListFile) (n : ℕ) (s : Settings) (line : List ℕ) → Kept n s → Sure n (after_line lists n s line)
one_line lists n s line k =
    let text = without_comment (trim line) in
    either n (is_skipped (trim line)) _ _ k (either n (nat_lt 8192 (length line)) _ _ tt (after_the_colon lists n s text (position is_colon text) k))

next_line : (n : ℕ) (s : Settings) → Kept n s → Kept (n + 1) s
next_line n s k = record { some = k.some; few_groups = k.few_groups; few_entries = k.few_entries; few = k.few; rises = more_lines 0 n (n + 1) s.warnings (omega arith) k.rises }

-- whatever is read keeps the bounds
abbrev SureRead : Result Settings ConfFault → Type 0
SureRead (Ok s) = (n : ℕ) × Kept n s
SureRead (Err fault) = ⊤

at_its_line : (n : ℕ) (r : Step) → Sure n r → SureRead (at_line n r)
at_its_line n (Ok s) k = (n, k)
at_its_line n (Err cause) k = tt

all_lines : (over : Bool) (lists : List ListFile) (n : ℕ) (s : Settings) (ps : List (List ℕ)) → Kept n s → SureRead (after_lines over lists n s ps)
all_lines over lists n s [] k = (n, k)
all_lines over lists n s (p ∷ []) k = at_its_line n (cond over (Err TooLong) (after_line lists n s p)) (either n over _ _ tt (one_line lists n s p k))
all_lines over lists n s (p ∷ q ∷ ps) k =
    cases (after_line lists n s (without_cr p)) (one_line lists n s (without_cr p) k) (λ t h. all_lines over lists (n + 1) t (q ∷ ps) (next_line n t h))
  where
    cases : (r : Step) → Sure n r → ((t : Settings) → Kept n t → SureRead (after_lines over lists (n + 1) t (q ∷ ps)))
        → SureRead (and_then (at_line n r) (λ t. after_lines over lists (n + 1) t (q ∷ ps)))
    cases (Ok t) h rest = rest t h
    cases (Err cause) h rest = tt

-- ---- groups without a target

-- where the first later warning stands
later_at : (n : ℕ) (ws : List Warning) → first_later n ws ≡ position_or_len (λ v. nat_lt n v.line) ws
later_at n ws = cases (nat_lt (position_or_len (λ v. nat_lt n v.line) ws) (length ws)) refl
  where
    at : ℕ
    at = position_or_len (λ v. nat_lt n v.line) ws

    cases : (b : Bool) → nat_lt at (length ws) ≡ b → unwrap_or (cond b (Some at) None) (length ws) ≡ at
    cases true e = refl
    cases false e =
        let most : at ≤ length ws = prefix_len-le-length (λ v. not (nat_lt n v.line)) ws in
        let least : length ws ≤ at = grind (arith, common_steps) in
        omega arith

later_first : (w v : Warning) (vs : List Warning) (b : Bool) → nat_lt w.line v.line ≡ b
    → insert (v ∷ vs) (first_later w.line (v ∷ vs)) w ≡ cond b (w ∷ v ∷ vs) (v ∷ insert vs (first_later w.line vs) w)
later_first w v vs b e = cases b (later_at w.line (v ∷ vs) ∙ ap (λ t. cond (not t) (1 + at) 0) e)
  where
    at : ℕ
    at = position_or_len (λ u. nat_lt w.line u.line) vs

    one_more : 1 + at ≡ suc at
    one_more = omega arith

    cases : (t : Bool) → first_later w.line (v ∷ vs) ≡ cond (not t) (1 + at) 0
        → insert (v ∷ vs) (first_later w.line (v ∷ vs)) w ≡ cond t (w ∷ v ∷ vs) (v ∷ insert vs (first_later w.line vs) w)
    cases true here = ap (λ j. insert (v ∷ vs) j w) here
    cases false here = ap (λ j. insert (v ∷ vs) j w) (here ∙ one_more) ∙ ap (λ j. v ∷ insert vs j w) (sym (later_at w.line vs))

put_rising : (low : ℕ) (w : Warning) (ws : List Warning) → low ≤ w.line → AreRising low ws → AreRising low (put_warning w ws)
put_rising low w [] le h = (le, tt)
put_rising low w (v ∷ vs) le h = cases (nat_lt w.line v.line) refl (λ past. put_rising v.line w vs past h.1)
  where
    cases : (b : Bool) → nat_lt w.line v.line ≡ b → (v.line ≤ w.line → AreRising v.line (put_warning w vs)) → AreRising low (put_warning w (v ∷ vs))
    cases true e rest = subst (λ (us : List Warning). AreRising low us) (sym (later_first w v vs true e)) (le, (grind (arith, common_steps), h.1))
    cases false e rest =
        let past : v.line ≤ w.line = grind (arith, common_steps) in
        subst (λ (us : List Warning). AreRising low us) (sym (later_first w v vs false e)) (h.0, rest past)

no_targets : (groups : List Mirrors) (ws : List Warning) → AreRising 0 ws → AreRising 0 (with_no_targets ws groups)
no_targets [] ws h = h
no_targets (g ∷ gs) ws h = no_targets gs (cond (lacks_target g) (put_warning warning ws) ws) (cases (lacks_target g))
  where
    warning : Warning
    warning = record { line = g.last; cause = NoTarget }

    cases : (b : Bool) → AreRising 0 (cond b (put_warning warning ws) ws)
    cases true = put_rising 0 warning ws (omega arith) h
    cases false = h

-- ---- the text

abbrev Ends : Result Settings ConfFault → Type 0
Ends (Ok s) = IsBounded s
Ends (Err fault) = ⊤

at_first : Kept 1 defaults
at_first = record { some = omega arith; few_groups = omega arith; few_entries = omega arith; few = All-nil HasFewTargets; rises = omega arith }

ends : (r : Result Settings ConfFault) → SureRead r → Ends (and_then r (λ s. Ok (finished s)))
ends (Ok s) h =
    let k = h.1 in
    record { port = k.some; groups = k.few_groups; entries = k.few_entries; targets = k.few; warnings = no_targets s.groups s.warnings (rising 0 h.0 s.warnings k.rises) }
ends (Err fault) h = tt

pub bounded : (text : List ℕ) (lists : List ListFile) (s : Settings) → reading text lists ≡ Ok s → IsBounded s
bounded text lists s h =
    let over = nat_lt 4194304 (length text) in
    let ps = pieces (take 4194304 text) in
    subst Ends h (ends (after_lines over lists 1 defaults ps) (all_lines over lists 1 defaults ps at_first))

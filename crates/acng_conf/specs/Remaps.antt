-- The line of a group: `merging ; targets ; flags`.
use Rattle.std.specs.Prelude.{ℕ, ◌+◌, ◌-◌, Bool, true, false, ◌==◌, nat_lt, List, [], ◌∷◌, ◌++◌, cond, codes, bytes_eq, take, drop, length, Option, Some, None, option_map, option_and_then, unwrap_or, position, Result, MatchResult, ◌≡◌, ◌≢◌}
use Rattle.std.specs.List.{list_any}
use Rattle.acng_base.specs.Cuts.{trim, without_cr, pieces}
use Rattle.acng_conf.specs.Lines.{is_skipped}
use Rattle.acng_conf.specs.Globs.{fits}
use Rattle.acng_conf.specs.Places.{url_entry, entry_of}
use Rattle.acng_conf.specs.Settings.{most_targets}
use Rattle.acng_conf.specs.declared.fault.ListFile.{ListFile}
use Rattle.acng_conf.specs.declared.fault.WarnCause.{WarnCause}
use Rattle.acng_conf.specs.declared.fault.WarnCause.TheVariants.{GzList, NoList, BadListLine, ExtraTarget, Flags}
use Rattle.acng_conf.specs.declared.remap_line.WordFault.{WordFault}
use Rattle.acng_conf.specs.declared.remap_line.WordFault.TheVariants.{NoMemory}
use Rattle.acng_conf.specs.declared.place.Section.{Section}
use Rattle.acng_conf.specs.declared.place.Section.TheVariants.{Merging, Targets}

-- what a line brings to its group, which holds so many targets from earlier lines
pub record RemapLine : Type 0 where
  pub held : ℕ
  pub merging : List (List ℕ)
  pub targets : List (List ℕ)
  pub causes : List WarnCause

abbrev pub empty_line : ℕ → RemapLine
empty_line held = record { held = held; merging = []; targets = []; causes = [] }

abbrev pub warned : WarnCause → RemapLine → RemapLine
warned cause w = record { held = w.held; merging = w.merging; targets = w.targets; causes = w.causes ++ cause ∷ [] }

-- a target more, up to the most that a group has
abbrev pub with_target : RemapLine → List ℕ → RemapLine
with_target w entry =
    cond (nat_lt (w.held + length w.targets) most_targets)
    (record { held = w.held; merging = w.merging; targets = w.targets ++ entry ∷ []; causes = w.causes })
    (warned ExtraTarget w)

-- an entry more
abbrev pub taken : Section → RemapLine → List ℕ → RemapLine
taken Merging w entry = record { held = w.held; merging = w.merging ++ entry ∷ []; targets = w.targets; causes = w.causes }
taken Targets w entry = with_target w entry

-- ---- list files

-- what the line brought, and whether the file had a bad line
pub record Listing : Type 0 where
  pub brought : RemapLine
  pub bad : Bool

-- a line that doesn't read is skipped, and the first of them is warned of
abbrev pub after_entry : Section → Listing → Option (List ℕ) → Listing
after_entry section l (Some entry) = record { brought = taken section l.brought entry; bad = l.bad }
after_entry section l None = cond l.bad l (record { brought = warned BadListLine l.brought; bad = true })

abbrev pub after_list_text : Section → Listing → List ℕ → Listing
after_list_text section l line = cond (is_skipped line) l (after_entry section l (url_entry section line))

abbrev pub after_list_line : Section → Listing → List ℕ → Listing
after_list_line section l line = after_list_text section l (trim line)

-- the pieces between line feeds; a carriage return before one is dropped
abbrev pub after_list_lines : Section → Listing → List (List ℕ) → Listing
after_list_lines section l [] = l
after_list_lines section l (p ∷ []) = after_list_line section l p
after_list_lines section l (p ∷ q ∷ ps) = after_list_lines section (after_list_line section l (without_cr p)) (q ∷ ps)

abbrev pub after_file : Section → RemapLine → List ℕ → RemapLine
after_file section w bytes = (after_list_lines section (record { brought = w; bad = false }) (pieces bytes)).brought

abbrev pub after_fitting : Section → List ℕ → RemapLine → ListFile → RemapLine
after_fitting section pattern w file = cond (fits pattern file.name) (after_file section w file.bytes) w

abbrev pub after_files : Section → List ℕ → RemapLine → List ListFile → RemapLine
after_files section pattern w [] = w
after_files section pattern w (f ∷ fs) = after_files section pattern (after_fitting section pattern w f) fs

abbrev pub ends_with_gz : List ℕ → Bool
ends_with_gz pattern = bytes_eq (drop (length pattern - 3) pattern) (codes ".gz")

abbrev pub is_listed : List ℕ → List ListFile → Bool
is_listed pattern lists = list_any (λ f. fits pattern f.name) lists

abbrev pub after_pattern : Section → List ListFile → RemapLine → List ℕ → RemapLine
after_pattern section lists w pattern =
    cond (ends_with_gz pattern) (warned GzList w)
    (cond (is_listed pattern lists) (after_files section pattern w lists) (warned NoList w))

-- ---- words

abbrev pub is_file_word : List ℕ → Bool
is_file_word word = bytes_eq (take 5 word) (codes "file:")

-- None where the word doesn't read
abbrev pub after_word : Section → List ListFile → RemapLine → List ℕ → Option RemapLine
after_word section lists w word =
    cond (is_file_word word) (Some (after_pattern section lists w (drop 5 word)))
    (option_map (λ entry. taken section w entry) (entry_of section word))

abbrev pub after_words : Section → List ListFile → RemapLine → List (List ℕ) → Option RemapLine
after_words section lists w [] = Some w
after_words section lists w (x ∷ xs) = option_and_then (λ v. after_words section lists v xs) (after_word section lists w x)

-- a word that ends a section
abbrev pub is_end : List ℕ → Bool
is_end word = bytes_eq word (codes ";")

-- how many words stand before the first end
abbrev pub section_len : List (List ℕ) → ℕ
section_len ws = unwrap_or (position is_end ws) (length ws)

-- the words of a section, and those after its end
abbrev pub first_section : List (List ℕ) → List (List ℕ)
first_section ws = take (section_len ws) ws

abbrev pub after_section : List (List ℕ) → List (List ℕ)
after_section ws = drop (section_len ws + 1) ws

abbrev pub after_flags : List (List ℕ) → RemapLine → RemapLine
after_flags flags w = cond (length flags == 0) w (warned Flags w)

-- what the words of a line bring to a group that holds so many targets; None where an entry doesn't read
abbrev pub line_of : List ListFile → ℕ → List (List ℕ) → Option RemapLine
line_of lists held ws =
    let rest = after_section ws in
    option_map (λ w. after_flags (after_section rest) w)
    (option_and_then (λ w. after_words Targets lists w (first_section rest))
    (after_words Merging lists (empty_line held) (first_section ws)))

-- what a call gives against what is expected
abbrev pub IsLine : Option RemapLine → Result RemapLine WordFault → Type 0
IsLine expected result = MatchResult result (λ w. expected ≡ Some w) (λ fault. fault ≢ NoMemory → expected ≡ None)

-- the same of a call that changes a line in place
abbrev pub IsLineOf : {T : Type 0} → Option RemapLine → RemapLine → Result T WordFault → Type 0
IsLineOf expected w result = MatchResult result (λ _. expected ≡ Some w) (λ fault. fault ≢ NoMemory → expected ≡ None)

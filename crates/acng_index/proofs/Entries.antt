-- The entries of a list, line by line.
use Rattle.std.proofs.Common.{◌≡◌, ◌≢◌, ℕ, ◌+◌, ◌-◌, ◌≤◌, List, [], ◌∷◌, ◌++◌, Result, Ok, Err, Some, None, length, take, drop, get_or, refl, sym, ap, ◌∙◌, arith, append_assoc}
use Rattle.std.specs.List.{position}
use Rattle.std.proofs.lemmas.List.{append-nil}
use Rattle.acng_base.specs.Cuts.{is_lf, pieces}
use Rattle.acng_base.proofs.Cutting.{cut_rest, last_rest}
use Rattle.acng_base.specs.Fields.{length_of}
use Rattle.acng_index.specs.Texts.{and_then, hash_of}
use Rattle.acng_index.specs.Releases.{entry_of, entry_by, line_entries, entries_of}
use Rattle.acng_index.specs.declared.entry.IndexEntry.{IndexEntry}
use Rattle.acng_index.specs.declared.fault.IndexFault.{IndexFault}

-- those of a line were added to the ones before
by_parts : (old new : List IndexEntry) (here rest : Result (List IndexEntry) IndexFault) → and_then here (λ es. Ok (old ++ es)) ≡ Ok new
    → and_then (and_then here (λ es. and_then rest (λ more. Ok (es ++ more)))) (λ es. Ok (old ++ es))
    ≡ and_then rest (λ es. Ok (new ++ es))
by_parts old new (Err e) rest h = cc
by_parts old new (Ok es) (Err e) h = refl
by_parts old new (Ok es) (Ok more) h =
    let same : old ++ es ≡ new = cc in
    ap (λ xs. Ok xs) (sym (append_assoc old es more) ∙ ap (λ xs. xs ++ more) same)

-- the entries of what is left, behind those that were read
abbrev pub left : ℕ → List ℕ → List IndexEntry → Result (List IndexEntry) IndexFault
left n text old = and_then (entries_of n (pieces text)) (λ es. Ok (old ++ es))

pub line_added : (n k start : ℕ) (text : List ℕ) (old new : List IndexEntry) → start ≤ length text
    → position is_lf (take (length text - start) (drop start text)) ≡ Some k
    → and_then (line_entries n (take k (drop start text))) (λ es. Ok (old ++ es)) ≡ Ok new
    → (start + (k + 1) ≤ length text) × (left n (drop start text) old ≡ left (n + 1) (drop (start + (k + 1)) text) new)
line_added n k start text old new within here added =
    let cut = cut_rest is_lf text start k within here in (
      cut.0,
      ap (λ ls. and_then (entries_of n ls) (λ es. Ok (old ++ es))) cut.1
          ∙ by_parts old new (line_entries n (take k (drop start text)))
          (entries_of (n + 1) (pieces (drop (start + (k + 1)) text))) added,
    )

pub line_refused : (n k start : ℕ) (text : List ℕ) (old : List IndexEntry) (f : IndexFault) → start ≤ length text
    → position is_lf (take (length text - start) (drop start text)) ≡ Some k
    → line_entries n (take k (drop start text)) ≡ Err f → left n (drop start text) old ≡ Err f
line_refused n k start text old f within here refused =
    let cut = cut_rest is_lf text start k within here in
    ap (λ ls. and_then (entries_of n ls) (λ es. Ok (old ++ es))) cut.1
    ∙ ap (λ es. and_then
    (and_then es (λ xs. and_then (entries_of (n + 1) (pieces (drop (start + (k + 1)) text))) (λ more. Ok (xs ++ more))))
    (λ xs. Ok (old ++ xs))) refused

pub last_added : (n start : ℕ) (text : List ℕ) (old new : List IndexEntry)
    → position is_lf (take (length text - start) (drop start text)) ≡ None
    → and_then (line_entries n (drop start text)) (λ es. Ok (old ++ es)) ≡ Ok new → left n (drop start text) old ≡ Ok new
last_added n start text old new none added =
    ap (λ ls. and_then (entries_of n ls) (λ es. Ok (old ++ es))) (last_rest is_lf text start none)
    ∙ by_parts old new (line_entries n (drop start text)) (Ok []) added
    ∙ ap (λ xs. Ok xs) (append-nil new)

pub last_refused : (n start : ℕ) (text : List ℕ) (old : List IndexEntry) (f : IndexFault)
    → position is_lf (take (length text - start) (drop start text)) ≡ None
    → line_entries n (drop start text) ≡ Err f → left n (drop start text) old ≡ Err f
last_refused n start text old f none refused =
    ap (λ ls. and_then (entries_of n ls) (λ es. Ok (old ++ es))) (last_rest is_lf text start none)
    ∙ ap (λ es. and_then (and_then es (λ xs. Ok (xs ++ []))) (λ xs. Ok (old ++ xs))) refused

pub whole : (r : Result (List IndexEntry) IndexFault) → and_then r (λ es. Ok ([] ++ es)) ≡ r
whole (Ok es) = refl
whole (Err e) = refl

-- ---- the words of a line

pub three : (ws : List (List ℕ)) → length ws ≡ 3
    → entry_of ws ≡ entry_by (get_or ws 2 []) (hash_of (get_or ws 0 [])) (length_of (get_or ws 1 []))
three [] h = absurd (omega arith)
three (a ∷ []) h = absurd (omega arith)
three (a ∷ b ∷ []) h = absurd (omega arith)
three (a ∷ b ∷ c ∷ []) h = refl
three (a ∷ b ∷ c ∷ d ∷ ds) h = absurd (omega arith)

pub not_three : (ws : List (List ℕ)) → length ws ≢ 3 → entry_of ws ≡ None
not_three [] h = refl
not_three (a ∷ []) h = refl
not_three (a ∷ b ∷ []) h = refl
not_three (a ∷ b ∷ c ∷ []) h = absurd (h refl)
not_three (a ∷ b ∷ c ∷ d ∷ ds) h = refl

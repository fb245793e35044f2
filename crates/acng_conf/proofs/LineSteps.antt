-- The lines of a text and of a list file, one after another.
use Rattle.std.proofs.Common.{◌≡◌, ℕ, ◌+◌, ◌-◌, ◌≤◌, Bool, List, ◌∷◌, Some, None, Err, cond, length, take, drop, sym, ap, ◌∙◌}
use Rattle.std.specs.List.{position}
use Rattle.acng_base.specs.Cuts.{is_lf, pieces, without_cr}
use Rattle.acng_conf.specs.Settings.{Settings}
use Rattle.acng_conf.specs.Readings.{and_then, at_line, after_line, after_lines}
use Rattle.acng_conf.specs.Remaps.{Listing, after_list_line, after_list_lines}
use Rattle.acng_conf.specs.declared.fault.ConfCause.TheVariants.{TooLong}
use Rattle.acng_conf.specs.declared.fault.ListFile.{ListFile}
use Rattle.acng_conf.specs.declared.place.Section.{Section}
use Rattle.acng_base.proofs.Cutting.{cut_rest, last_rest, some_piece}

-- a line that another one follows
lines_more : (over : Bool) (lists : List ListFile) (n : ℕ) (s : Settings) (p : List ℕ) (rest : List ℕ)
    → after_lines over lists n s (p ∷ pieces rest) ≡ and_then (at_line n (after_line lists n s (without_cr p))) (λ t. after_lines over lists (n + 1) t (pieces rest))
lines_more over lists n s p rest =
    let some = some_piece is_lf rest in
    ap (λ ps. after_lines over lists n s (p ∷ ps)) some.2
    ∙ ap (λ ps. and_then (at_line n (after_line lists n s (without_cr p))) (λ t. after_lines over lists (n + 1) t ps)) (sym some.2)

pub lines_step : (over : Bool) (lists : List ListFile) (n : ℕ) (s : Settings) (text : List ℕ) (start k : ℕ) → start ≤ length text
    → position is_lf (take (length text - start) (drop start text)) ≡ Some k
    → (start + (k + 1) ≤ length text) × (after_lines over lists n s (pieces (drop start text))
    ≡ and_then (at_line n (after_line lists n s (without_cr (take k (drop start text))))) (λ t. after_lines over lists (n + 1) t (pieces (drop (start + (k + 1)) text))))
lines_step over lists n s text start k within h =
    let cut = cut_rest is_lf text start k within h in
    (cut.0, ap (after_lines over lists n s) cut.1 ∙ lines_more over lists n s (take k (drop start text)) (drop (start + (k + 1)) text))

pub lines_last : (over : Bool) (lists : List ListFile) (n : ℕ) (s : Settings) (text : List ℕ) (start : ℕ)
    → position is_lf (take (length text - start) (drop start text)) ≡ None
    → after_lines over lists n s (pieces (drop start text)) ≡ at_line n (cond over (Err TooLong) (after_line lists n s (drop start text)))
lines_last over lists n s text start h = ap (after_lines over lists n s) (last_rest is_lf text start h)

list_more : (section : Section) (l : Listing) (p : List ℕ) (rest : List ℕ)
    → after_list_lines section l (p ∷ pieces rest) ≡ after_list_lines section (after_list_line section l (without_cr p)) (pieces rest)
list_more section l p rest =
    let some = some_piece is_lf rest in
    ap (λ ps. after_list_lines section l (p ∷ ps)) some.2
    ∙ ap (λ ps. after_list_lines section (after_list_line section l (without_cr p)) ps) (sym some.2)

pub list_step : (section : Section) (l : Listing) (text : List ℕ) (start k : ℕ) → start ≤ length text
    → position is_lf (take (length text - start) (drop start text)) ≡ Some k
    → (start + (k + 1) ≤ length text) × (after_list_lines section l (pieces (drop start text))
    ≡ after_list_lines section (after_list_line section l (without_cr (take k (drop start text)))) (pieces (drop (start + (k + 1)) text)))
list_step section l text start k within h =
    let cut = cut_rest is_lf text start k within h in
    (cut.0, ap (after_list_lines section l) cut.1 ∙ list_more section l (take k (drop start text)) (drop (start + (k + 1)) text))

pub list_last : (section : Section) (l : Listing) (text : List ℕ) (start : ℕ)
    → position is_lf (take (length text - start) (drop start text)) ≡ None
    → after_list_lines section l (pieces (drop start text)) ≡ after_list_line section l (drop start text)
list_last section l text start h = ap (after_list_lines section l) (last_rest is_lf text start h)

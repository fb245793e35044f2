-- The lines of a text, one after another.
use Rattle.std.proofs.Common.{◌≡◌, ℕ, ◌+◌, ◌<◌, false, List, [], ◌∷◌, ◌++◌, Result, Ok, Err, Some, None, length, take, drop, cond, refl, sym, ap, ◌∙◌, arith, append_assoc}
use Rattle.std.specs.List.{position}
use Rattle.std.proofs.lemmas.List.{take_all, drop_all}
use Rattle.std.proofs.lemmas.Grind.{common_steps}
use Rattle.acng_base.specs.Cuts.{is_lf, is_empty, pieces}
use Rattle.acng_base.proofs.Cutting.{cut_first, cut_none, some_piece}
use Rattle.acng_index.specs.Texts.{and_then}
use Rattle.acng_index.specs.Frames.{without_end, lines_of}
use Rattle.acng_index.specs.Cuts.{HasLine}
use Rattle.acng_index.specs.declared.fault.IndexFault.{IndexFault}

-- a piece before others is a line
line_first : (l : List ℕ) (text : List ℕ) → without_end (l ∷ pieces text) ≡ l ∷ without_end (pieces text)
line_first l text = let some = some_piece is_lf text in rw some.2 refl

not_empty : (text : List ℕ) → 0 < length text → is_empty text ≡ false
not_empty text h = grind (arith, common_steps)

pub line_found : (text : List ℕ) (k : ℕ) → position is_lf text ≡ Some k → HasLine text k
line_found text k h =
    let cut = cut_first is_lf text k h in
    record {
      within = omega (arith, cut.0);
      parts = ap without_end cut.1 ∙ line_first (take k text) (drop (k + 1) text);
    }

pub line_last : (text : List ℕ) → 0 < length text → position is_lf text ≡ None → HasLine text (length text)
line_last text some h =
    let whole : take (length text) text ≡ text = take_all (length text) text (omega arith) in
    let rest : drop (length text + 1) text ≡ [] = drop_all (length text + 1) text (omega arith) in
    record {
      within = omega arith;
      parts = ap without_end (cut_none is_lf text h) ∙ ap (λ b. cond b [] (text ∷ [])) (not_empty text some)
          ∙ ap (λ t. t ∷ []) (sym whole) ∙ ap (λ t. take (length text) text ∷ lines_of t) (sym rest);
    }

-- ---- the text lines

-- one more line was written
pub line_written : (old line : List ℕ) (rest : Result (List ℕ) IndexFault)
    → and_then (and_then rest (λ more. Ok (line ++ 10 ∷ more))) (λ t. Ok (old ++ t))
    ≡ and_then rest (λ t. Ok ((old ++ (line ++ 10 ∷ [])) ++ t))
line_written old line (Err e) = refl
line_written old line (Ok more) =
    ap (λ xs. Ok xs) (ap (λ t. old ++ t) (sym (append_assoc line (10 ∷ []) more)) ∙ sym (append_assoc old (line ++ 10 ∷ []) more))

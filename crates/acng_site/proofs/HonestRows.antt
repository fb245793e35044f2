-- What an honest answer is, held against literal readings.
use Rattle.std.proofs.Common.{◌≡◌, List, ℕ, [], ◌∷◌, Some, codes, length, refl, subst, ap, ◌∙◌, arith}
use Rattle.acng_base.specs.Heads.{Head}
use Rattle.acng_base.specs.Fields.{content_range}
use Rattle.acng_base.specs.Framings.{total_of}
use Rattle.acng_base.specs.Answers.{Reading, Outcome}
use Rattle.acng_base.specs.Answers.Outcome.{Whole, Early}
use Rattle.acng_site.specs.Honest.{IsHonestAnswer, CarriesPart}

abbrev head : Head
head = record { status = 200; fields = (codes "Content-Length", codes "3") ∷ [] }

abbrev answer : List ℕ → Outcome → Reading
answer body outcome = record { interim = []; head = Some head; body = body; outcome = outcome }

counts_three : (h : Head) → Some head ≡ Some h → total_of h ≡ Some 3
counts_three h is = let same : head ≡ h = cc in subst (λ x. total_of x ≡ Some 3) same refl

no_part : (h : Head) → Some head ≡ Some h → h.status ≡ 206 → ⊥
no_part h is s = let same : head ≡ h = cc in let e : 200 ≡ 206 = ap (λ x. x.status) same ∙ s in omega (arith, e)

abbrev three : List ℕ
three = 1 ∷ 2 ∷ 3 ∷ []

-- a mirror that holds these three bytes gives them, or breaks off after two
whole : IsHonestAnswer three (answer three Whole)
whole = record {
  whole = λ _ _ _. record { front = refl; all = λ _. refl };
  stated = λ h n is _ by. let stated = counts_three h is in cc;
  part = λ h range is s _. absurd (no_part h is s);
}

early : IsHonestAnswer three (answer (1 ∷ 2 ∷ []) Early)
early = record {
  whole = λ _ _ _. record { front = refl; all = λ ends. cc };
  stated = λ h n is _ by. let stated = counts_three h is in cc;
  part = λ h range is s _. absurd (no_part h is s);
}

-- a mirror that holds three other bytes, or four, doesn't
others : IsHonestAnswer (1 ∷ 2 ∷ 4 ∷ []) (answer three Whole) → ⊥
others p = let same : three ≡ 1 ∷ 2 ∷ 4 ∷ [] = (p.whole head refl refl).all refl in cc

longer : IsHonestAnswer (1 ∷ 2 ∷ 3 ∷ 4 ∷ []) (answer three Early) → ⊥
longer p = let same : length three ≡ 4 = p.stated head 3 refl refl refl in omega arith

-- ---- the second of three bytes

abbrev part_head : Head
part_head = record { status = 206; fields = (codes "Content-Range", codes "bytes 1-1/3") ∷ [] }

abbrev part_answer : List ℕ → Outcome → Reading
part_answer body outcome = record { interim = []; head = Some part_head; body = body; outcome = outcome }

second : (h : Head) → Some part_head ≡ Some h → content_range h ≡ Some (1, 1, 3)
second h is = let same : part_head ≡ h = cc in subst (λ x. content_range x ≡ Some (1, 1, 3)) same refl

no_whole : (h : Head) → Some part_head ≡ Some h → h.status ≡ 200 → ⊥
no_whole h is s = let same : part_head ≡ h = cc in let e : 206 ≡ 200 = ap (λ x. x.status) same ∙ s in omega (arith, e)

part : IsHonestAnswer three (part_answer (2 ∷ []) Whole)
part = record {
  whole = λ h is s. absurd (no_whole h is s);
  stated = λ h n is s _. absurd (no_whole h is s);
  part = λ h range is _ by.
      let stands = second h is in
      let same : (1, 1, 3) ≡ range = cc in
      subst (λ range. CarriesPart three range (part_answer (2 ∷ []) Whole)) same
      (record { part = record { front = refl; all = λ _. refl }; total = refl });
}

-- the third byte isn't that part, and a file of four bytes isn't its whole
abbrev third : List ℕ
third = 3 ∷ []

other_part : IsHonestAnswer three (part_answer third Whole) → ⊥
other_part p = let same : third ≡ 2 ∷ [] = (p.part part_head (1, 1, 3) refl refl refl).part.all refl in cc

longer_file : IsHonestAnswer (1 ∷ 2 ∷ 3 ∷ 4 ∷ []) (part_answer (2 ∷ []) Whole) → ⊥
longer_file p = let same : length three ≡ 4 = (p.part part_head (1, 1, 3) refl refl refl).total in omega arith

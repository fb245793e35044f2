-- Texts that grow by one piece after another.
use Rattle.std.proofs.Common.{◌≡◌, List, ℕ, ◌++◌, ◌∙◌}
use Rattle.std.proofs.lemmas.List.{append_assoc}

-- three pieces
pub three : (old a b c t1 t2 t3 : List ℕ) → t1 ≡ old ++ a → t2 ≡ t1 ++ b → t3 ≡ t2 ++ c → t3 ≡ old ++ (a ++ b ++ c)
three old a b c t1 t2 t3 e1 e2 e3 =
    let whole : t3 ≡ ((old ++ a) ++ b) ++ c = cc in
    whole ∙ simp append_assoc

-- eight pieces, from the empty text on
pub eight : (a b c d e f g h t2 t3 t4 t5 t6 t7 t8 : List ℕ) → t2 ≡ a ++ b → t3 ≡ t2 ++ c → t4 ≡ t3 ++ d → t5 ≡ t4 ++ e
    → t6 ≡ t5 ++ f → t7 ≡ t6 ++ g → t8 ≡ t7 ++ h
    → t8 ≡ a ++ (b ++ (c ++ (d ++ (e ++ (f ++ (g ++ h))))))
eight a b c d e f g h t2 t3 t4 t5 t6 t7 t8 e2 e3 e4 e5 e6 e7 e8 =
    let whole : t8 ≡ ((((((a ++ b) ++ c) ++ d) ++ e) ++ f) ++ g) ++ h = cc in
    whole ∙ simp append_assoc

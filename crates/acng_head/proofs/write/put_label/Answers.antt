use Rattle.std.proofs.Common.{◌≡◌, List, ℕ, [], ◌∷◌, ◌++◌, codes, append_assoc, ap, ◌∙◌, sym}
use Rattle.acng_head.specs.Records.{line, origin_text}
use Rattle.acng_head.proofs.Placed.{Puts-trans, Puts-is}
use Rattle.acng_head.proofs.write.put_label.Goals as goal

fetched_line : (f l : List ℕ)
    → (codes "origin fetched " ++ (f ++ 32 ∷ [])) ++ (l ++ 10 ∷ []) ≡ line (codes "origin ") (codes "fetched " ++ (f ++ 32 ∷ l)) []
fetched_line f l = simp append_assoc

pub returns-in-Fetched-clause-puts : goal.returns-in-Fetched-clause-puts
returns-in-Fetched-clause-puts c =
    Puts-is (Puts-trans c.put_number-at.ensures.puts c.put_number.ensures.puts)
    (fetched_line _ _ ∙ ap (λ l. line (codes "origin ") (origin_text l) []) (sym c.in-Fetched.is))

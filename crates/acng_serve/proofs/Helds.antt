-- What is held, and what a write of it and of more behind it leaves.
use Rattle.std.proofs.Common.{◌≡◌, ℕ, ◌+◌, ◌-◌, ◌≤◌, List, ◌++◌, None, Some, sym, ap, ◌∙◌, append_assoc, append-nil, length-append, length, take, drop, arith}
use Rattle.std.proofs.Math.Seq.{take-append-add, take-append_seam}
use Rattle.std.proofs.Math.ListN.{drop_of_length-le}
use Rattle.std.proofs.lemmas.List.{take-append-le, take-append-drop, take-take, length-take}
use Rattle.std.specs.declared.option.Option.{Option}
use Rattle.std.specs.Io.KnownBytes.{append_known, Appends}
use Rattle.std.proofs.lemmas.Grind.{common_steps}

-- a front that goes past the first list
pub take_past : {A : Type 0} (n : ℕ) (xs ys : List A) → length xs ≤ n → take n (xs ++ ys) ≡ xs ++ take (n - length xs) ys
take_past n xs ys past =
    let whole : n ≡ length xs + (n - length xs) = omega arith in
    ap (λ k. take k (xs ++ ys)) whole ∙ take-append-add xs ys (n - length xs)

-- so many of the held bytes and of a piece behind them went out
pub front_out : {A : Type 0} (count : ℕ) (held piece : List A) → take count (held ++ piece) ++ drop count held ≡ held ++ take (count - length held) piece
front_out count held piece = Prim.grind (arith, common_steps, take_past, take-append-le, take-append-drop, drop_of_length-le, append-nil)

-- a front of a front that isn't longer
pub shorter : {A : Type 0} (n k : ℕ) (xs : List A) → n ≤ length (take k xs) → take n (take k xs) ≡ take n xs
shorter n k xs within = Prim.grind (arith, common_steps, take-take, length-take)

-- the same where the piece's front had room, by what was joined, cut again and let go
pub went_out : {A : Type 0} (count k n : ℕ) (held piece all kept rest : List A) → all ≡ held ++ take k piece → kept ≡ take (length held) all → rest ≡ drop count kept
    → n ≡ count - length kept → count ≤ length all → take count all ++ rest ≡ held ++ take n piece
went_out count k n held piece all kept rest joined cut left others within =
    let same : kept ≡ held = cut ∙ ap (take (length held)) joined ∙ take-append_seam held (take k piece) in
    let others' : n ≡ count - length held = others ∙ ap (λ l. count - length l) same in
    let len : length all ≡ length held + length (take k piece) = ap length joined ∙ length-append held (take k piece) in
    let first : take count all ++ rest ≡ take count (held ++ take k piece) ++ drop count held =
    ap (λ l. take count l ++ rest) joined ∙ ap (λ l. take count (held ++ take k piece) ++ l) (left ∙ ap (drop count) same) in
    first ∙ front_out count held (take k piece)
    ∙ ap (λ l. held ++ l) (shorter (count - length held) k piece (omega arith) ∙ ap (λ m. take m piece) (sym others'))

-- the link below took a front, and what is held now is what is left of it
pub moved : (a b : Option (List ℕ)) (held front rest taken : List ℕ) → Appends a b front → front ++ rest ≡ held ++ taken → Appends (append_known a held) (append_known b rest) taken
moved None b held front rest taken p e = tt
moved (Some x) None held front rest taken p e = absurd p
moved (Some x) (Some y) held front rest taken p e = ap (λ l. l ++ rest) p ∙ append_assoc x front rest ∙ ap (λ l. x ++ l) e ∙ sym (append_assoc x held taken)

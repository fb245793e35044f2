-- A text cut at the first byte of a kind: there is one such cut.
use Rattle.std.proofs.Common.{◌≡◌, ◌≢◌, ℕ, zero, suc, ◌+◌, ◌<◌, ◌==◌, eqb, Bool, true, false, List, [], ◌∷◌, ◌++◌, Some}
use Rattle.std.proofs.Common.{None, Option, cond, length, get_or, take, drop, refl, sym, ap, ◌∙◌, drop-cons, arith}
use Rattle.std.specs.List.{position, position_from}
use Rattle.std.proofs.lemmas.Bool.{eqb-true}
use Rattle.std.proofs.lemmas.List.{take-append-drop}
use Rattle.std.proofs.lemmas.List.Quantifiers.{position-Some}
use Rattle.std.proofs.lemmas.Iterator.Adapters.{position_from-zero}
use Rattle.std.specs.Option.{MatchOption}
use Rattle.acng_head.specs.Records.{Lacks, line}

pub cut_same : (byte : ℕ) (v w r s : List ℕ) → Lacks byte v → Lacks byte w → v ++ byte ∷ r ≡ w ++ byte ∷ s → (v ≡ w) × (r ≡ s)
cut_same byte [] [] r s hv hw e = (refl, cc)
cut_same byte [] (b ∷ w) r s hv hw e = let same : b ≡ byte = cc in absurd (hw.0 same)
cut_same byte (a ∷ v) [] r s hv hw e = let same : a ≡ byte = cc in absurd (hv.0 same)
cut_same byte (a ∷ v) (b ∷ w) r s hv hw e =
    let inner : v ++ byte ∷ r ≡ w ++ byte ∷ s = cc in
    let h = cut_same byte v w r s hv.1 hw.1 inner in
    let first : a ≡ b = cc in
    let rest : v ≡ w = h.0 in (cc, h.1)

pub front_same : (key r s : List ℕ) → key ++ r ≡ key ++ s → r ≡ s
front_same [] r s e = e
front_same (b ∷ key) r s e = let inner : key ++ r ≡ key ++ s = cc in front_same key r s inner

pub line_same : (key v w r s : List ℕ) → Lacks 10 v → Lacks 10 w → line key v r ≡ line key w s → (v ≡ w) × (r ≡ s)
line_same key v w r s hv hw e = cut_same 10 v w r s hv hw (front_same key (v ++ 10 ∷ r) (w ++ 10 ∷ s) e)

-- the front of a text up to a place before which the byte doesn't stand
lacks_front : (byte i : ℕ) (xs : List ℕ) → ((k : ℕ) → k < i → eqb (get_or xs k 0) byte ≡ false) → Lacks byte (take i xs)
lacks_front byte zero xs h = tt
lacks_front byte (suc i) [] h = tt
lacks_front byte (suc i) (x ∷ xs) h = (λ e. differs e (h 0 (omega arith)), lacks_front byte i xs (λ k l. h (suc k) (omega arith)))
  where
    differs : x ≡ byte → eqb x byte ≡ false → ⊥
    differs e t = grind (arith)

pub cut_at : (byte i : ℕ) (text : List ℕ) → position (λ b. b == byte) text ≡ Some i → (i < length text) × Lacks byte (take i text)
    × (text ≡ take i text ++ byte ∷ drop (i + 1) text)
cut_at byte i text h =
    let at = position-Some (λ b. b == byte) text i 0 h in
    let here : get_or text i 0 ≡ byte = eqb-true _ _ at.1 in
    let next : suc i ≡ i + 1 = omega arith in
    let rest : drop i text ≡ byte ∷ drop (i + 1) text = drop-cons text i 0 at.0 ∙ ap (λ b. b ∷ drop (suc i) text) here
    ∙ ap (λ n. byte ∷ drop n text) next in
    (at.0, lacks_front byte i text at.2, sym (take-append-drop i text) ∙ ap (λ t. take i text ++ t) rest)

no_place : (byte i : ℕ) (v rest : List ℕ) → position_from (λ b. b == byte) i (v ++ byte ∷ rest) ≡ None → ⊥
no_place byte i [] rest h = grind (arith)
no_place byte i (b ∷ v) rest h = cases (b == byte) h (λ g. no_place byte (i + 1) v rest g)
  where
    cases : (t : Bool) → cond t (Some i) (position_from (λ b. b == byte) (i + 1) (v ++ byte ∷ rest)) ≡ None
        → (position_from (λ b. b == byte) (i + 1) (v ++ byte ∷ rest) ≡ None → ⊥) → ⊥
    cases true h again = cc
    cases false h again = again h

pub no_cut : (byte : ℕ) (text : List ℕ) → position (λ b. b == byte) text ≡ None → (v rest : List ℕ) → text ≢ v ++ byte ∷ rest
no_cut byte text h v rest e =
    no_place byte 0 v rest (ap (position_from (λ b. b == byte) 0) (sym e) ∙ sym (position_from-zero (λ b. b == byte) text) ∙ h)

-- a line in what follows its key is a line in the whole
pub line_found : {X : Type 0} (o : Option X) (v r : X → List ℕ) (text key rest : List ℕ) → text ≡ key ++ rest
    → MatchOption o ((w s : List ℕ) → rest ≢ w ++ 10 ∷ s) (λ x. Lacks 10 (v x) × (rest ≡ v x ++ 10 ∷ r x))
    → MatchOption o ((w s : List ℕ) → text ≢ line key w s) (λ x. Lacks 10 (v x) × (text ≡ line key (v x) (r x)))
line_found None v r text key rest t h = λ w s e. h w s (front_same key rest (w ++ 10 ∷ s) (sym t ∙ e))
line_found (Some x) v r text key rest t h = (h.0, t ∙ ap (λ y. key ++ y) h.1)

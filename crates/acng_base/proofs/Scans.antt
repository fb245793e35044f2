-- A scan that goes on where it left.
use Rattle.std.proofs.lemmas.List.{take_more, take-append-drop, length-take-le}
use Rattle.std.proofs.Common.{take, drop, get_or, ◌<◌, ◌≤◌, drop-cons, append-nil, ◌≡◌, ℕ, suc, ◌+◌, List, [], ◌∷◌, ◌++◌, length, Option, Some, None, refl, ap, sym, ◌∙◌, arith, option_map, option_and_then, zero-add}
use Rattle.acng_base.specs.declared.block.LineState.{LineState}
use Rattle.acng_base.specs.Lines.{after_byte, block_len, state_after, one_more}

-- the first mark, where the marks after some bytes are known
pub first_state : (m n : LineState) (b : ℕ) (bs : List ℕ) → state_after m (b ∷ bs) ≡ Some n → (k : LineState) × (after_byte m b ≡ Some k) × (state_after k bs ≡ Some n)
first_state m n b bs h = cases (after_byte m b) h
  where
    cases : (o : Option LineState) → option_and_then (λ k. state_after k bs) o ≡ Some n → (k : LineState) × (o ≡ Some k) × (state_after k bs ≡ Some n)
    cases None h = cc
    cases (Some k) h = (k, refl, h)

pub state_append : (m n : LineState) (xs ys : List ℕ) → state_after m xs ≡ Some n → state_after m (xs ++ ys) ≡ state_after n ys
state_append m n [] ys h = let e : m ≡ n = cc in ap (λ k. state_after k ys) e
state_append m n (b ∷ xs) ys h =
    let f = first_state m n b xs h in
    rw f.1 (state_append f.0 n xs ys f.2)

pub block_append : (m n : LineState) (xs ys : List ℕ) → state_after m xs ≡ Some n → block_len m (xs ++ ys) ≡ option_map (λ k. length xs + k) (block_len n ys)
block_append m n [] ys h = let e : m ≡ n = cc in ap (λ k. block_len k ys) e ∙ same (block_len n ys)
  where
    same : (o : Option ℕ) → o ≡ option_map (λ k. 0 + k) o
    same None = refl
    same (Some k) = ap Some (sym (zero-add k))
block_append m n (b ∷ xs) ys h =
    let f = first_state m n b xs h in
    rw f.1 (ap (option_map (λ k. 1 + k)) (block_append f.0 n xs ys f.2) ∙ twice (block_len n ys))
  where
    twice : (o : Option ℕ) → option_map (λ k. 1 + k) (option_map (λ k. length xs + k) o) ≡ option_map (λ k. suc (length xs) + k) o
    twice None = refl
    twice (Some k) = ap Some (omega arith)

pub scan_more : (m n k : LineState) (text : List ℕ) (i : ℕ) → i < length text → state_after m (take i text) ≡ Some n → after_byte n (get_or text i 0) ≡ Some k → state_after m (take (i + 1) text) ≡ Some k
scan_more m n k text i lt h e =
    ap (state_after m) (take_more text i 0 lt) ∙ state_append m n (take i text) (get_or text i 0 ∷ []) h ∙ rw e refl

pub scan_ends : (m n : LineState) (text : List ℕ) (i : ℕ) → i < length text → state_after m (take i text) ≡ Some n → after_byte n (get_or text i 0) ≡ None → block_len m text ≡ Some (i + 1)
scan_ends m n text i lt h e =
    let whole : text ≡ take i text ++ get_or text i 0 ∷ drop (suc i) text = sym (take-append-drop i text) ∙ ap (λ t. take i text ++ t) (drop-cons text i 0 lt) in
    ap (block_len m) whole ∙ block_append m n (take i text) (get_or text i 0 ∷ drop (suc i) text) h ∙ rw e (rw (length-take-le i text (omega arith)) refl)

-- what doesn't end has no length
pub goes_on : (m n : LineState) (xs : List ℕ) → state_after m xs ≡ Some n → block_len m xs ≡ None
goes_on m n xs h = ap (block_len m) (sym (append-nil xs)) ∙ block_append m n xs [] h

-- where a block ends in a text it ends there whatever follows, and it has no more bytes than the text
module _ (bs ys : List ℕ) (again : (k : LineState) (i : ℕ) → block_len k bs ≡ Some i → (block_len k (bs ++ ys) ≡ Some i) × (0 < i) × (i ≤ length bs)) where
  stays_mapped : (k : LineState) (n : ℕ) (o : Option ℕ) → block_len k bs ≡ o → option_map (λ k. 1 + k) o ≡ Some n → (option_map (λ k. 1 + k) (block_len k (bs ++ ys)) ≡ Some n) × (0 < n) × (n ≤ suc (length bs))
  stays_mapped k n None e g = cc
  stays_mapped k n (Some i) e g = let r = again k i e in let at : 1 + i ≡ n = cc in (ap (option_map (λ k. 1 + k)) r.0 ∙ g, omega arith, omega arith)

  stays_step : (n : ℕ) (o : Option LineState) → one_more (λ n. block_len n bs) o ≡ Some n → (one_more (λ n. block_len n (bs ++ ys)) o ≡ Some n) × (0 < n) × (n ≤ suc (length bs))
  stays_step n None g = let at : 1 ≡ n = cc in (g, omega arith, omega arith)
  stays_step n (Some k) g = stays_mapped k n (block_len k bs) refl g

pub block_stays : (m : LineState) (xs ys : List ℕ) (n : ℕ) → block_len m xs ≡ Some n → (block_len m (xs ++ ys) ≡ Some n) × (0 < n) × (n ≤ length xs)
block_stays m [] ys n h = cc
block_stays m (b ∷ bs) ys n h = stays_step bs ys (λ k i e. block_stays k bs ys i e) n (after_byte m b) h

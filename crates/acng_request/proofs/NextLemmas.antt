-- What the front of the bytes asks, it asks whatever follows.
use Rattle.std.proofs.Common.{◌≡◌, ℕ, ◌-◌, ◌<◌, ◌≤◌, Bool, true, false, List, [], ◌∷◌, ◌++◌, zero, suc, length, take, drop, Option, Some, None, cond, refl, ap, sym, ◌∙◌, subst, arith, nat_le}
use Rattle.std.specs.Prelude.{Result, Ok, Err}
use Rattle.std.proofs.lemmas.List.{take-append-le, drop-append-le, length-take, take_all, length-append}
use Rattle.std.proofs.lemmas.Bool.{le-leb, leb-true, lt-leb}
use Rattle.acng_base.specs.declared.block.LineState.{LineState}
use Rattle.acng_base.specs.declared.block.LineState.TheVariants.{Before}
use Rattle.acng_base.specs.Lines.{head_block_len, state_after}
use Rattle.acng_base.proofs.BlockLines.{before}
use Rattle.acng_base.proofs.Scans.{block_stays, goes_on}
use Rattle.acng_request.specs.Nexts.{Next, Asks, Refuses, Ends, next, by_block, before_rest, read_block}
use Rattle.acng_request.specs.declared.got.Request.{Request}
use Rattle.acng_request.specs.declared.got.HeadFault.{HeadFault}
use Rattle.acng_request.specs.declared.got.HeadFault.TheVariants.{TooLarge}

-- the first k bytes of two texts in a row
take_over : (k : ℕ) (xs ys : List ℕ) → take k (xs ++ ys) ≡ take k xs ++ take (k - length xs) ys
take_over k [] ys = let e : k ≡ k - 0 = omega arith in ap (λ j. take j ys) e ∙ ap (λ t. t ++ take (k - 0) ys) (sym (take_all k [] (omega arith)))
take_over zero (x ∷ xs) ys = let e : 0 ≡ 0 - suc (length xs) = omega arith in ap (λ j. take j ys) e
take_over (suc k) (x ∷ xs) ys = let e : k - length xs ≡ suc k - suc (length xs) = omega arith in ap (λ t. x ∷ t) (take_over k xs ys) ∙ ap (λ j. x ∷ take k xs ++ take j ys) e

-- the next of bytes that go on
abbrev pub Goes : List ℕ → List ℕ → Next → Next → Type 0
Goes xs ys (Asks r rest) n = n ≡ Asks r (rest ++ ys)
Goes xs ys (Refuses f) n = n ≡ Refuses f
Goes xs ys Ends n = Unit {0}

goes_before : (xs ys rest : List ℕ) (o : Result Request HeadFault) → Goes xs ys (before_rest rest o) (before_rest (rest ++ ys) o)
goes_before xs ys rest (Ok r) = refl
goes_before xs ys rest (Err f) = refl

-- a whole block stays the block
goes_whole : (xs ys : List ℕ) (n : ℕ) → head_block_len (take 16384 xs) ≡ Some n → Goes xs ys (by_block xs (Some n)) (next (xs ++ ys))
goes_whole xs ys n h =
    let stays = block_stays Before (take 16384 xs) (take (16384 - length xs) ys) n (before (take 16384 xs) ∙ h) in
    let small : n ≤ length xs = omega (arith, stays.2, length-take 16384 xs) in
    let front : take 16384 (xs ++ ys) ≡ take 16384 xs ++ take (16384 - length xs) ys = take_over 16384 xs ys in
    let is : next (xs ++ ys) ≡ before_rest (drop n xs ++ ys) (read_block (take n xs)) =
    ap (λ t. by_block (xs ++ ys) (head_block_len t)) front ∙ ap (by_block (xs ++ ys)) (sym (before (take 16384 xs ++ take (16384 - length xs) ys)) ∙ stays.0)
    ∙ ap (λ t. before_rest t (read_block (take n (xs ++ ys)))) (drop-append-le n xs ys small)
    ∙ ap (λ t. before_rest (drop n xs ++ ys) (read_block t)) (take-append-le n xs ys small) in
    subst (Goes xs ys (before_rest (drop n xs) (read_block (take n xs)))) (sym is) (goes_before xs ys (drop n xs) (read_block (take n xs)))

-- so many bytes without a whole block stay without one
goes_long : (xs ys : List ℕ) (b : Bool) → nat_le 16384 (length xs) ≡ b → head_block_len (take 16384 xs) ≡ None → Goes xs ys (cond b (Refuses TooLarge) Ends) (next (xs ++ ys))
goes_long xs ys false t h = tt
goes_long xs ys true t h =
    let long = leb-true 16384 (length xs) t in
    let front : take 16384 (xs ++ ys) ≡ take 16384 xs = take-append-le 16384 xs ys long in
    let much : nat_le 16384 (length (xs ++ ys)) ≡ true = le-leb 16384 (length (xs ++ ys)) (omega (arith, length-append xs ys)) in
    ap (λ t. by_block (xs ++ ys) (head_block_len t)) front ∙ ap (by_block (xs ++ ys)) h ∙ ap (λ b. cond b (Refuses TooLarge) Ends) much

goes : (xs ys : List ℕ) (o : Option ℕ) → head_block_len (take 16384 xs) ≡ o → Goes xs ys (by_block xs o) (next (xs ++ ys))
goes xs ys (Some n) h = goes_whole xs ys n h
goes xs ys None h = goes_long xs ys (nat_le 16384 (length xs)) refl h

pub next_goes_on : (xs ys : List ℕ) → Goes xs ys (next xs) (next (xs ++ ys))
next_goes_on xs ys = goes xs ys (head_block_len (take 16384 xs)) refl

pub asks_more : (xs ys rest : List ℕ) (r : Request) → next xs ≡ Asks r rest → next (xs ++ ys) ≡ Asks r (rest ++ ys)
asks_more xs ys rest r h = subst (λ n. Goes xs ys n (next (xs ++ ys))) h (next_goes_on xs ys)

pub refuses_more : (xs ys : List ℕ) (f : HeadFault) → next xs ≡ Refuses f → next (xs ++ ys) ≡ Refuses f
refuses_more xs ys f h = subst (λ n. Goes xs ys n (next (xs ++ ys))) h (next_goes_on xs ys)

-- ---- what a scan of the bytes held says of them

-- a block at the front of few enough bytes
pub next_whole : (bytes : List ℕ) (n : ℕ) → length bytes ≤ 16384 → head_block_len bytes ≡ Some n → next bytes ≡ before_rest (drop n bytes) (read_block (take n bytes))
next_whole bytes n few h = ap (λ t. by_block bytes (head_block_len t)) (take_all 16384 bytes few) ∙ ap (by_block bytes) h

next_none : (bytes : List ℕ) (m : LineState) → length bytes ≤ 16384 → state_after Before bytes ≡ Some m → next bytes ≡ cond (nat_le 16384 (length bytes)) (Refuses TooLarge) Ends
next_none bytes m few h = ap (λ t. by_block bytes (head_block_len t)) (take_all 16384 bytes few) ∙ ap (by_block bytes) (sym (before bytes) ∙ goes_on Before m bytes h)

pub next_long : (bytes : List ℕ) (m : LineState) → length bytes ≡ 16384 → state_after Before bytes ≡ Some m → next bytes ≡ Refuses TooLarge
next_long bytes m size h =
    let much : nat_le 16384 (length bytes) ≡ true = le-leb 16384 (length bytes) (omega (arith, size)) in
    next_none bytes m (omega (arith, size)) h ∙ ap (λ b. cond b (Refuses TooLarge) Ends) much

pub next_short : (bytes : List ℕ) (m : LineState) → length bytes < 16384 → state_after Before bytes ≡ Some m → next bytes ≡ Ends
next_short bytes m few h =
    let less : nat_le 16384 (length bytes) ≡ false = lt-leb 16384 (length bytes) few in
    next_none bytes m (omega (arith, few)) h ∙ ap (λ b. cond b (Refuses TooLarge) Ends) less

-- What a buffer holds after bytes were read behind what it held.
use Rattle.std.proofs.Common.{◌≡◌, ℕ, ◌+◌, ◌<◌, ◌≤◌, List, ◌++◌, length, take, drop, Result, Ok, Err, ap, ◌∙◌, arith}
use Rattle.std.proofs.Math.Seq.{take-add}
use Rattle.std.proofs.lemmas.List.{length-drop, length-take-le, drop-append-le}
use Rattle.acng_base.specs.Buffers.{IsFilled}

-- what is held grows by what was read behind it
pub grown : (xs : List ℕ) (start stop n : ℕ) → start ≤ stop → stop ≤ length xs → drop start (take (stop + n) xs) ≡ drop start (take stop xs) ++ take n (drop stop xs)
grown xs start stop n ordered within =
    let size : length (take stop xs) ≡ stop = length-take-le stop xs within in
    ap (drop start) (take-add stop n xs) ∙ drop-append-le start (take stop xs) (take n (drop stop xs)) (omega (arith, size))

-- what stands in the buffer after a read behind what it held
pub filled : {E : Type 0} (did : Result ℕ E → List ℕ → Type 0) (xs ys old : List ℕ) (start stop n : ℕ) → start ≤ stop → stop < length ys → take stop ys ≡ take stop xs
    → drop start (take stop xs) ≡ old → did (Ok n) (drop stop ys) → n ≤ length (drop stop ys) → IsFilled did old (drop start (take (stop + n) ys)) (Ok n)
filled did xs ys old start stop n ordered within kept is read bound = record {
  room = drop stop ys;
  some = omega (arith, length-drop stop ys);
  read = read;
  held = (bound, grown ys start stop n ordered (omega arith) ∙ ap (λ t. drop start t ++ take n (drop stop ys)) kept ∙ ap (λ t. t ++ take n (drop stop ys)) is);
}

pub not_filled : {E : Type 0} (did : Result ℕ E → List ℕ → Type 0) (xs ys old : List ℕ) (start stop : ℕ) (e : E) → stop < length ys → take stop ys ≡ take stop xs
    → drop start (take stop xs) ≡ old → did (Err e) (drop stop ys) → IsFilled did old (drop start (take stop ys)) (Err e)
not_filled did xs ys old start stop e within kept is read = record {
  room = drop stop ys;
  some = omega (arith, length-drop stop ys);
  read = read;
  held = ap (drop start) kept ∙ is;
}

-- What a read of the next bytes leaves.
use Rattle.std.proofs.Common.{◌≡◌, ℕ, ◌+◌, ◌-◌, List, ◌++◌, sym, ap, ◌∙◌, take, drop, length}
use Rattle.std.proofs.lemmas.List.{take-append-drop, drop-drop}
use Rattle.acng_base.proofs.Ranges.{rest_is_drop}

-- the bytes at a place are the next n of them, which a buffer now begins with, and those after these
pub next_and_rest : (bytes buf : List ℕ) (at n : ℕ) → take n buf ≡ take n (take (length bytes - at) (drop at bytes))
    → drop at bytes ≡ take n buf ++ drop (at + n) bytes
next_and_rest bytes buf at n front =
    let next : take n buf ≡ take n (drop at bytes) = front ∙ ap (take n) (rest_is_drop at bytes) in
    sym (take-append-drop n (drop at bytes))
    ∙ ap (λ ys. ys ++ drop n (drop at bytes)) (sym next)
    ∙ ap (λ ys. take n buf ++ ys) (drop-drop n at bytes)

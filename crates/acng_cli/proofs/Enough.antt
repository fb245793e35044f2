-- A configuration past its limit reads as its front does.
use Rattle.std.proofs.Common.{◌≡◌, ◌∙◌, inl, inr, ◌++◌, ◌<◌, ◌≤◌, ℕ, List, Option, Some, None, Result, Ok, Bool, true, nat_lt, length, IfSome, sym, ap, ap₂, arith, append-nil, length-append}
use Rattle.std.proofs.lemmas.Bool.{lt-ltb}
use Rattle.std.proofs.lemmas.List.{take-append-le}
use Rattle.std.specs.Io.KnownBytes.{Consumes}
use Rattle.acng_conf.specs.Readings.{reading, after_lines, and_then, finished}
use Rattle.acng_conf.specs.Settings.{Settings, defaults}
use Rattle.acng_base.specs.Cuts.{pieces}
use Rattle.acng_conf.specs.declared.fault.ListFile.{ListFile}
use Rattle.acng_conf.specs.declared.fault.ConfFault.{ConfFault}
use Rattle.acng_cli.specs.Maint.{IsEnough}

-- both are over the limit, and the bytes that count are the same
same_front : (bs ys : List ℕ) (lists : List ListFile) → 4194304 < length bs → reading bs lists ≡ reading (bs ++ ys) lists
same_front bs ys lists long =
    let over : nat_lt 4194304 (length (bs ++ ys)) ≡ true = lt-ltb 4194304 (length (bs ++ ys)) (omega (arith, length-append bs ys, long)) in
    let within : 4194304 ≤ length bs = omega (arith, long) in
    ap₂ (λ (t : Bool) (front : List ℕ). and_then (after_lines t lists 1 defaults (pieces front)) (λ s. Ok (finished s)))
    (lt-ltb 4194304 (length bs) long ∙ sym over) (sym (take-append-le 4194304 bs ys within))

-- what the bytes that were read say is what the whole text says
pub enough : (a b : Option (List ℕ)) (bs : List ℕ) (lists : List ListFile) (read : Result Settings ConfFault) → Consumes a b bs → IsEnough bs b
    → read ≡ reading bs lists → IfSome a (λ text. read ≡ reading text lists)
enough None b bs lists read consumed is h = tt
enough (Some xs) None bs lists read consumed is h = absurd consumed
enough (Some xs) (Some ys) bs lists read consumed (inl ended) h =
    h ∙ ap (λ t. reading t lists) (sym (consumed ∙ ap (λ t. bs ++ t) ended ∙ append-nil bs))
enough (Some xs) (Some ys) bs lists read consumed (inr long) h =
    h ∙ same_front bs ys lists long ∙ ap (λ t. reading t lists) (sym consumed)

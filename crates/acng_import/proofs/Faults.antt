-- When a read of a found file may have failed.
use Rattle.std.proofs.Common.{◌≡◌, ℕ, ◌≤◌, Bool, true, false, ◌||◌, List, [], ◌∷◌, ◌++◌, Result, Ok, Err, IfOk, sym, ap, ◌∙◌, arith}
use mathlib.Core.Bool.{true≢false}
use Rattle.std.specs.List.{list_any}
use Rattle.std.proofs.lemmas.List.Folds.{list_any-append}
use Rattle.acng_base.specs.Causes.{Rose}
use Rattle.acng_import.specs.Ends.{is_fault, has_fault}
use Rattle.acng_import.specs.declared.ending.FileEnd.{FileEnd}

-- the end isn't that of such a file
pub none_read : {E : Type 0} (r : Result FileEnd E) (A : Type 0) → IfOk r (λ e. is_fault e ≡ false) → IfOk r (λ e. is_fault e ≡ true → A)
none_read (Ok e) A h = λ is. absurd (true≢false (sym is ∙ h))
none_read (Err x) A h = tt

pub not_fault : {E : Type 0} (r : Result FileEnd E) (end : FileEnd) → is_fault end ≡ false → IfOk r (λ e. e ≡ end) → IfOk r (λ e. is_fault e ≡ false)
not_fault (Ok e) end h is = ap is_fault is ∙ h
not_fault (Err x) end h is = tt

-- whatever the end
pub any_read : {E : Type 0} (r : Result FileEnd E) (A : Type 0) → A → IfOk r (λ e. is_fault e ≡ true → A)
any_read (Ok e) A a = λ is. a
any_read (Err x) A a = tt

later_rose : (a b d : ℕ) → Rose a b → b ≤ d → Rose a d
later_rose a b d rose later = omega (arith, rose, later)

rose_later : (a b d : ℕ) → a ≤ b → Rose b d → Rose a d
rose_later a b d later rose = omega (arith, rose, later)

by_test : (t u : Bool) (a b d : ℕ) → (t ≡ true → Rose a b) → a ≤ b → b ≤ d → (u ≡ true → Rose b d) → (t || (u || false)) ≡ true → Rose a d
by_test true u a b d first later then next is = later_rose a b d (first is) then
by_test false true a b d first later then next is = rose_later a b d later (next is)
by_test false false a b d first later then next is = absurd (true≢false (sym is))

-- one more end
pub one_more : (es new : List FileEnd) (e : FileEnd) (a b d : ℕ) → new ≡ es ++ e ∷ [] → (has_fault es ≡ true → Rose a b) → a ≤ b → b ≤ d
    → (is_fault e ≡ true → Rose b d) → has_fault new ≡ true → Rose a d
one_more es new e a b d is first later then next has =
    by_test (has_fault es) (is_fault e) a b d first later then next
    (sym (ap has_fault is ∙ list_any-append is_fault es (e ∷ [])) ∙ has)

-- the import ended before the next file did
pub kept_rose : (es : List FileEnd) (a b d : ℕ) → (has_fault es ≡ true → Rose a b) → b ≤ d → has_fault es ≡ true → Rose a d
kept_rose es a b d first then has = later_rose a b d (first has) then

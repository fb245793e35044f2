use Rattle.std.proofs.Common.{◌≡◌, ◌∙◌, sym, ap, subst, Some, Bool, false, ℤ, pos, ◌≤ℤ◌, to_z, of_z, w64, FitsSigned, not}
use Rattle.std.proofs.Math.Facts.{to_z-of_z}
use Rattle.std.specs.Int.Signed.{lt_z, lt_z_no}
use Rattle.std.specs.Str.Parse.{signed_digits_value}
use Rattle.acng_cli.proofs.WordsForm.{no_number, number_within}
use lib.Dec.{T}
use lib.IntN.{nat_abs}
use Rattle.acng_cli.proofs.words.number_of.Goals as goal

-- what isn't below is at least as much
at_least : (a b : ℤ) → lt_z a b ≡ false → b ≤ℤ a
at_least a b e = lt_z_no (subst (λ (t : Bool). T (not t)) (sym e) tt)

pub returns-in_default : goal.returns-in_default
returns-in_default c = sym (no_number c.args.text.now c.in_default.ensures.value.0)

pub returns : goal.returns
returns c =
    let text = c.args.text.now in
    let read = c.in-Ok.ensures.value.0 in
    let number = c.in-Ok.number in
    let back : to_z w64 (of_z w64 number) ≡ signed_digits_value 10 text = to_z-of_z (subst (λ (z : ℤ). FitsSigned w64 z) (sym read.1) read.0.1) ∙ read.1 in
    let low : pos 1 ≤ℤ signed_digits_value 10 text = subst (λ (z : ℤ). pos 1 ≤ℤ z) back (at_least (to_z w64 (of_z w64 number)) (pos 1) c.if-number-lt1.false) in
    let high : signed_digits_value 10 text ≤ℤ pos 20000 = subst (λ (z : ℤ). z ≤ℤ pos 20000) back (at_least (pos 20000) (to_z w64 (of_z w64 number)) c.if-number-gt-MOST_NUMBER.false) in
    ap (λ (z : ℤ). Some (nat_abs z)) back ∙ sym (number_within text read.0 low high)

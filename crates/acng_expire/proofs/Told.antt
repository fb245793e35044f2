-- What a desk tells of a path, as its whole body.
use Rattle.std.proofs.Common.{◌≡◌, ℕ, Option, Some, None, is_some, option_map, Result, Ok, Err, OnOk, refl, sym, ap, ◌∙◌}
use mathlib.Core.Bool.{true≢false}
use Rattle.acng_rows.specs.declared.row.Whole.{Whole}
use Rattle.acng_desk.specs.declared.looks.RowFacts.{RowFacts}
use Rattle.acng_desk.specs.Looks.{row_facts}
use Rattle.acng_expire.specs.Runs.{is_over}
use Rattle.acng_expire.specs.Places.{seconds, is_due}

pub record IsTold (o : Option Whole) (f : RowFacts) : Type 0 where
  pub whole : Whole
  pub at : o ≡ Some whole
  pub mark : whole.mark ≡ f.mark

some_is : (x y : RowFacts) → Some x ≡ Some y → x ≡ y
some_is x y e = cc

pub told : (o : Option Whole) (f : RowFacts) → Some f ≡ option_map row_facts o → IsTold o f
told None f e = absurd (true≢false (ap is_some e))
told (Some w) f e = record { whole = w; at = refl; mark = ap (λ (x : RowFacts). x.mark) (sym (some_is f (row_facts w) e)) }

pub told_none : (o : Option Whole) → None ≡ option_map row_facts o → o ≡ None
told_none None e = refl
told_none (Some w) e = absurd (true≢false (sym (ap is_some e)))

pub told_due : (limit now : ℕ) (o : Option Whole) (f : RowFacts) → Some f ≡ option_map row_facts o
    → is_due limit now o ≡ is_over limit now (seconds f.mark)
told_due limit now o f e =
    let t = told o f e in
    ap (is_due limit now) t.at ∙ ap (λ m. is_over limit now (seconds m)) t.mark

pub on_ok : {A E P Q : Type 0} (r : Result A E) → OnOk r P → (P → Q) → OnOk r Q
on_ok (Ok x) p f = f p
on_ok (Err e) p f = tt

-- How much of a source is read.
use Rattle.std.proofs.Common.{◌≡◌, ℕ, ◌+◌, ◌≤◌, List, [], ◌++◌, length, take, Option, ap, sym, subst, arith, length-append}
use Rattle.std.proofs.lemmas.List.{length-take}
use Rattle.std.proofs.KnownBytes.{Consumes-nil, Consumes-trans, Consumes-kept}
use Rattle.std.specs.Io.KnownBytes.{Consumes, Keeps}
use Rattle.acng_cli.specs.Maint.{ReadsFew, most}

-- nothing of it
pub reads_none : (a b : Option (List ℕ)) → b ≡ a → ReadsFew a b
reads_none a b same = record { bytes = []; few = omega arith; consumed = subst (λ o. Consumes a o []) (sym same) (Consumes-nil a) }

-- a text within the limit
pub reads_text : (a b : Option (List ℕ)) (text : List ℕ) → Consumes a b text → length text ≤ most + 32768 → ReadsFew a b
reads_text a b text consumed few = record { bytes = text; few = few; consumed = consumed }

-- a text, and one piece more
pub reads_more : (a b c : Option (List ℕ)) (text buf : List ℕ) (n : ℕ) → Consumes a b text → Consumes b c (take n buf) → length text ≤ most → length buf ≡ 32768
    → ReadsFew a c
reads_more a b c text buf n first second few size = record {
  bytes = text ++ take n buf;
  few = let sum = length-append text (take n buf) in let piece = length-take n buf in omega (arith, sum, piece, few, size);
  consumed = Consumes-trans a b c text (take n buf) first second;
}

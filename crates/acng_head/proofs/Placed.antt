-- Texts put one after another.
use Rattle.std.proofs.Common.{◌≡◌, ℕ, List, ◌++◌, length, take, drop, sym, ap, ◌∙◌, subst, append_assoc, length-append, arith}
use Rattle.std.proofs.lemmas.List.{drop-drop}
use Rattle.acng_head.specs.Writes.{Puts}

pub Puts-trans : {a b c : List ℕ} {i j k : ℕ} {s t : List ℕ} → Puts a b i j s → Puts b c j k t → Puts a c i k (s ++ t)
Puts-trans {a} {b} {c} {i} {j} {k} {s} {t} p q =
    let size = length-append s t in
    record {
      end_is = omega (arith, size, p.end_is, q.end_is);
      front = q.front ∙ ap (λ x. x ++ t) p.front ∙ append_assoc (take i a) s t;
      after =
          q.after ∙ ap (λ n. drop n b) q.end_is ∙ sym (drop-drop (length t) j b) ∙ ap (drop (length t)) p.after ∙ drop-drop (length t) j a
          ∙ ap (λ n. drop n a) (sym q.end_is);
      len = q.len ∙ p.len;
    }

pub Puts-is : {a b : List ℕ} {i j : ℕ} {s t : List ℕ} → Puts a b i j s → s ≡ t → Puts a b i j t
Puts-is {a} {b} {i} {j} p e = subst (λ x. Puts a b i j x) e p

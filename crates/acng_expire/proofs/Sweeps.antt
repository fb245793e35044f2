-- A round over a list of paths, one after another.
use Rattle.std.proofs.Common.{◌≡◌, ℕ, suc, ◌+◌, ◌<◌, ◌≤◌, Bool, true, false, ◌||◌, List, [], ◌∷◌, ◌++◌, length, take, cond, get_or, refl, sym, ap, ◌∙◌, subst, arith}
use Rattle.std.proofs.Math.Seq.{take-suc}
use Rattle.std.proofs.lemmas.Grind.{common_steps}
use Rattle.acng_reach.specs.Sets.{same, among}
use Rattle.acng_expire.specs.Rounds.{swept, how_many, one, AreApart}

among_push : (q p : List ℕ) (ps : List (List ℕ)) → among q (ps ++ p ∷ []) ≡ (among q ps || same q p)
among_push q p ps = grind (arith, common_steps)

-- the front with one more path
pub front_push : (ps : List (List ℕ)) (i : ℕ) (p : List ℕ) → i < length ps → p ≡ get_or ps i p → take (i + 1) ps ≡ take i ps ++ p ∷ []
front_push ps i p lt is =
    let e : suc i ≡ i + 1 = omega arith in
    ap (λ j. take j ps) (sym e) ∙ take-suc ps i p lt ∙ ap (λ x. take i ps ++ x ∷ []) (sym is)

-- ---- what a round makes of each path

-- done twice it is as done once
abbrev pub IsSettled : {A : Type 0} → (List ℕ → A → A) → Type 0
IsSettled {A} f = (q : List ℕ) (a : A) → f q (f q a) ≡ f q a

module _ {A : Type 0} (f : List ℕ → A → A) (settled : IsSettled f) (old h new : List ℕ → A) (ps : List (List ℕ)) (i : ℕ) (p : List ℕ) where
  step_case : (q : List ℕ) (a b : Bool)
      → cond b (f q (cond a (f q (old q)) (old q))) (cond a (f q (old q)) (old q)) ≡ cond (a || b) (f q (old q)) (old q)
  step_case q true true = settled q (old q)
  step_case q true false = refl
  step_case q false true = refl
  step_case q false false = refl

  pub swept_step : i < length ps → p ≡ get_or ps i p → ((q : List ℕ) → h q ≡ swept f old (take i ps) q)
      → ((q : List ℕ) → new q ≡ cond (same q p) (f q (h q)) (h q)) → (q : List ℕ) → new q ≡ swept f old (take (i + 1) ps) q
  swept_step lt is before now q =
      now q ∙ ap (λ x. cond (same q p) (f q x) x) (before q) ∙ step_case q (among q (take i ps)) (same q p)
      ∙ ap (λ b. cond b (f q (old q)) (old q)) (sym (among_push q p (take i ps)) ∙ ap (among q) (sym (front_push ps i p lt is)))

-- ---- numbers

module _ (test : List ℕ → Bool) where
  many_push : (ps : List (List ℕ)) (p : List ℕ) → how_many test (ps ++ p ∷ []) ≡ how_many test ps + one (test p)
  many_push [] p = omega arith
  many_push (x ∷ ps) p = let e = many_push ps p in omega arith

  pub many_step : (ps : List (List ℕ)) (i : ℕ) (p : List ℕ) → i < length ps → p ≡ get_or ps i p
      → how_many test (take (i + 1) ps) ≡ how_many test (take i ps) + one (test p)
  many_step ps i p lt is = ap (how_many test) (front_push ps i p lt is) ∙ many_push (take i ps) p

pub many_same : (test other : List ℕ → Bool) → ((q : List ℕ) → test q ≡ other q) → (ps : List (List ℕ))
    → how_many test ps ≡ how_many other ps
many_same test other alike [] = refl
many_same test other alike (p ∷ ps) =
    ap (λ b. one b + how_many test ps) (alike p) ∙ ap (λ n. one (other p) + n) (many_same test other alike ps)

pub one_most : (n : ℕ) (b : Bool) → n ≡ one b → n ≤ 1
one_most n true e = omega arith
one_most n false e = omega arith

-- a path that comes next isn't among those before it
pub next_apart : (ps : List (List ℕ)) (i : ℕ) (p : List ℕ) → AreApart ps → i < length ps → p ≡ get_or ps i p → among p (take i ps) ≡ false
next_apart ps i p a lt is =
    let other : get_or ps i [] ≡ get_or ps i p = grind (arith, common_steps) in
    subst (λ x. among x (take i ps) ≡ false) (other ∙ sym is) (a.each i lt)

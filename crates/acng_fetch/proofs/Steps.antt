-- One attempt more.
use Rattle.std.proofs.Common.{◌≡◌, ◌≤◌, ℕ, zero, suc, ◌+◌, ◌-◌, List, [], ◌∷◌, ◌++◌, Option, Some, None, IfSome}
use Rattle.std.proofs.Common.{refl, ap, sym, subst, ◌∙◌, arith}
use Rattle.acng_base.specs.Answers.{Reading}
use Rattle.acng_site.specs.declared.ask.Ask.{Ask}
use Rattle.acng_site.specs.declared.site.Site.{Ghosts as SiteGhosts}
use Rattle.acng_site.specs.Honest.{heard}
use Rattle.acng_grow.specs.declared.facts.Seen.{Seen}
use Rattle.acng_grow.specs.Effects.{Errand, Part, Effect, after, runs}
use Rattle.acng_grow.specs.Download.{Stand, After, On, ask_of, turn, goes_on, left_of, worn}
use Rattle.acng_grow.specs.Allowed.{AllAllowed}
use Rattle.acng_fetch.specs.declared.standing.Standing.{Standing}
use Rattle.acng_fetch.specs.declared.standing.Turned.TheVariants as turned
use Rattle.acng_fetch.specs.Fits.{Fits}
use Rattle.acng_fetch.specs.Loads.{Turns, stand_of}
use Rattle.acng_fetch.specs.Orders.{ErrandKeeps, PartKeeps}
use Rattle.acng_fetch.proofs.Attempts.{part_sooner}
use Rattle.acng_fetch.proofs.Downloads.{Given, turn_leads}

-- ---- effects

runs_append : (e : Errand) (xs ys : List Effect) (p : Seen) → runs e (xs ++ ys) p ≡ runs e ys (runs e xs p)
runs_append e [] ys p = refl
runs_append e (x ∷ xs) ys p = runs_append e xs ys (after e p x)

module _ (read : ℕ → Ask → Reading) (e : Errand) where
  goes_step : (t n : ℕ) (s : Stand) (a : After) (p q : Seen) → 1 ≤ t → runs e (turn e n s (read n (ask_of e s))).effects p ≡ q
      → (turn e n s (read n (ask_of e s))).after ≡ a
      → runs e (goes_on read e (t - 1) (n + 1) a) q ≡ runs e (goes_on read e t n (On s)) p
  goes_step zero n s a p q h k m = absurd (omega (arith, h))
  goes_step (suc t) n s a p q h k m =
      let d : suc t - 1 ≡ t = omega arith in
      let now = turn e n s (read n (ask_of e s)) in
      ap (λ (j : ℕ). runs e (goes_on read e j (n + 1) a) q) d
      ∙ ap (λ (x : After). runs e (goes_on read e t (n + 1) x) q) (sym m)
      ∙ ap (λ (x : Seen). runs e (goes_on read e t (n + 1) now.after) x) (sym k)
      ∙ sym (runs_append e now.effects (goes_on read e t (n + 1) now.after) p)

  left_step : (t n : ℕ) (s : Stand) (a : After) → 1 ≤ t → (turn e n s (read n (ask_of e s))).after ≡ a
      → left_of read e (t - 1) (n + 1) a ≡ left_of read e t n (On s)
  left_step zero n s a h m = absurd (omega (arith, h))
  left_step (suc t) n s a h m =
      let d : suc t - 1 ≡ t = omega arith in
      ap (λ (j : ℕ). left_of read e j (n + 1) a) d ∙ ap (λ (x : After). left_of read e t (n + 1) x) (sym m)

  -- the attempts that are left, and their numbers, after one
  pub goes_at : (t t' n n' : ℕ) (s : Stand) (a : After) (p q : Seen) → 1 ≤ t → runs e (turn e n s (read n (ask_of e s))).effects p ≡ q
      → (turn e n s (read n (ask_of e s))).after ≡ a → t' ≡ t - 1 → n' ≡ n + 1
      → runs e (goes_on read e t' n' a) q ≡ runs e (goes_on read e t n (On s)) p
  goes_at t t' n n' s a p q h k m x y =
      ap (λ (j : ℕ). runs e (goes_on read e j n' a) q) x ∙ ap (λ (j : ℕ). runs e (goes_on read e (t - 1) j a) q) y
      ∙ goes_step t n s a p q h k m

  pub left_at : (t t' n n' : ℕ) (s : Stand) (a : After) → 1 ≤ t → (turn e n s (read n (ask_of e s))).after ≡ a → t' ≡ t - 1
      → n' ≡ n + 1 → left_of read e t' n' a ≡ left_of read e t n (On s)
  left_at t t' n n' s a h m x y =
      ap (λ (j : ℕ). left_of read e j n' a) x ∙ ap (λ (j : ℕ). left_of read e (t - 1) j a) y ∙ left_step t n s a h m

  -- none is left
  pub worn_at : (t n : ℕ) (s : Stand) (p q : Seen) → t ≡ 0 → runs e (worn s) p ≡ q → runs e (goes_on read e t n (On s)) p ≡ q
  worn_at zero n s p q h k = k
  worn_at (suc t) n s p q h k = absurd (omega (arith, h))

  pub none_left : (t n : ℕ) (s : Stand) → t ≡ 0 → left_of read e t n (On s) ≡ t
  none_left zero n s h = refl
  none_left (suc t) n s h = absurd (omega (arith, h))

-- ---- the law at one attempt

pub errand_sooner : {S : Type 0} (s : SiteGhosts S) (path : List ℕ) (first n : ℕ) (e : Errand) → first ≤ n → ErrandKeeps s path first e
    → ErrandKeeps s path n e
errand_sooner s path first n e h k = record { origins = k.origins; part = cases e.part k.part; old = k.old }
  where
    cases : (o : Option Part) → IfSome o (PartKeeps s path first) → IfSome o (PartKeeps s path n)
    cases None i = tt
    cases (Some p) i = part_sooner s path first n p h i

module _ {S : Type 0} (s : SiteGhosts S) (path : List ℕ) (n : ℕ) (e : Errand) (stand : Stand) (p : Seen) (x : Given s path n n e)
    (k : Fits s path e n (On stand) p) where
  pub turn_allowed : AllAllowed s path e p (turn e n stand (heard s n (ask_of e stand))).effects
  turn_allowed = (turn_leads s path n n e stand p x k).allowed

  pub turn_fits : {P Q : Type 0} (number : P → ℕ) (call : Q → ℕ) (path' : List ℕ) (n' : ℕ) (q : Seen) (next : Standing P Q) → path' ≡ path
      → n' ≡ n + 1 → Turns number call e (turn e n stand (heard s n (ask_of e stand))) p q (turned.Again next)
      → Fits s path' e n' (On (stand_of number call e q next)) q
  turn_fits number call path' n' q next is m u =
      let f = (turn_leads s path n n e stand p x k).fits in
      subst (λ (y : List ℕ). Fits s y e n' (On (stand_of number call e q next)) q) (sym is)
      (subst (λ (j : ℕ). Fits s path e j (On (stand_of number call e q next)) q) (sym m)
      (subst (λ (a : After). Fits s path e (n + 1) a q) u.after
      (subst (λ (y : Seen). Fits s path e (n + 1) (turn e n stand (heard s n (ask_of e stand))).after y) u.seen f)))

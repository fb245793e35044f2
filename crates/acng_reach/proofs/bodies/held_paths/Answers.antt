use Rattle.std.proofs.Common.{◌≡◌, ◌+◌, ◌∙◌, ◌++◌, ◌∷◌, [], List, ℕ, Some, sym, ap, subst, arith, length, take, length-append}
use Rattle.std.specs.List.{slice_get}
use Rattle.acng_reach.specs.Bodies.{first_above, last_of, ArePaths}
use Rattle.acng_reach.proofs.Orders.{next_step, front_more, front_all, no_paths, one_path_more}
use Rattle.acng_reach.proofs.bodies.held_paths.Goals as goal

pub loop-path-preserved : goal.loop-path-preserved
loop-path-preserved g c =
    let keys : List (List ℕ) = (g.B.Bodies.cache c.args.bodies.now).paths in
    let ps : List (List ℕ) = c.loop-path.paths.items in
    let p : List ℕ = c.in-Some.path.now in
    let front = c.loop-path.invariant.front in
    let last = c.last.ensures ∙ ap last_of c.deref.ensures.value in
    let at : slice_get keys (length ps) ≡ Some p =
    sym (next_step keys ps c.next_path.ensures.rises front) ∙ ap (λ o. first_above o keys) (sym last) ∙ sym c.in-Some.ensures.next in
    let m = front_more keys ps p front at in
    let pushed : c.push.new.self.items ≡ ps ++ p ∷ [] = c.in_ok-push.ensures.items ∙ ap (λ (x : List ℕ). ps ++ x ∷ []) c.in_ok-again.ensures in
    let size : length (ps ++ p ∷ []) ≡ length ps + 1 = length-append ps (p ∷ []) in
    record {
      front = subst (λ (l : List (List ℕ)). l ≡ take (length l) keys) (sym pushed) (m.0 ∙ ap (λ n. take n keys) (sym size));
      are_paths = subst ArePaths (sym pushed) (one_path_more ps p c.loop-path.invariant.are_paths c.as_bytes-is_path.ensures.path);
    }

pub loop-path-smaller : goal.loop-path-smaller
loop-path-smaller g c =
    let keys : List (List ℕ) = (g.B.Bodies.cache c.args.bodies.now).paths in
    let ps : List (List ℕ) = c.loop-path.paths.items in
    let p : List ℕ = c.in-Some.path.now in
    let front = c.loop-path.invariant.front in
    let last = c.last.ensures ∙ ap last_of c.deref.ensures.value in
    let at : slice_get keys (length ps) ≡ Some p =
    sym (next_step keys ps c.next_path.ensures.rises front) ∙ ap (λ o. first_above o keys) (sym last) ∙ sym c.in-Some.ensures.next in
    let m = front_more keys ps p front at in
    let size = ap length c.in_ok-push.ensures.items ∙ length-append ps _ in
    omega (arith, m.1, size)

pub returns-clause-paths : goal.returns-clause-paths
returns-clause-paths g c =
    let keys : List (List ℕ) = (g.B.Bodies.cache c.args.bodies.now).paths in
    let ps : List (List ℕ) = c.loop-path.paths.items in
    let front = c.loop-path.invariant.front in
    let last = c.last.ensures ∙ ap last_of c.deref.ensures.value in
    let none = sym (next_step keys ps c.next_path.ensures.rises front) ∙ ap (λ o. first_above o keys) (sym last) ∙ sym c.in_default.ensures.next in
    front_all keys ps front none

pub returns-clause-are_paths : goal.returns-clause-are_paths
returns-clause-are_paths g c =
    let keys : List (List ℕ) = (g.B.Bodies.cache c.args.bodies.now).paths in
    let ps : List (List ℕ) = c.loop-path.paths.items in
    let front = c.loop-path.invariant.front in
    let last = c.last.ensures ∙ ap last_of c.deref.ensures.value in
    let none = sym (next_step keys ps c.next_path.ensures.rises front) ∙ ap (λ o. first_above o keys) (sym last) ∙ sym c.in_default.ensures.next in
    subst ArePaths (front_all keys ps front none) c.loop-path.invariant.are_paths

pub returns-clause-rises : goal.returns-clause-rises
returns-clause-rises g c = c.next_path.ensures.rises

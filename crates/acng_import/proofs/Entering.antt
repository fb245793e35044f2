-- How a file enters one path after the other.
use Rattle.std.proofs.Common.{◌≡◌, ℕ, zero, suc, ◌+◌, ◌<◌, ◌≤◌, Bool, true, false, List, [], ◌∷◌, ◌++◌, cond, length, take, drop, get_or, Some, unwrap_or, refl, sym, ap, subst, ◌∙◌, arith}
use Rattle.std.specs.List.{slice_get}
use Rattle.std.proofs.lemmas.Grind.{common_steps}
use Rattle.acng_rows.specs.Rows.{whole_at, whole_in, out_at}
use Rattle.std.proofs.lemmas.Option.{slice_get-get_or}
use Rattle.acng_rows.proofs.Points.{got_own}
use Rattle.acng_desk.specs.House.{Plain}
use Rattle.acng_desk.specs.Commands.{is_out_of_ids, made, put_in}
use Rattle.acng_import.specs.declared.ending.FileEnd.TheVariants.{Full, Kept}
use Rattle.acng_import.specs.declared.put.Arrival.{Arrival}
use Rattle.acng_import.specs.Puts.{Did, ends, worn, put_at, put_rest, put_all, whole_of, PutAs, NextAs, WasWorn, HasArrived}

-- ---- ids

made_by : (b : Bool) (p : Plain) (n : ℕ) → n ≡ p.next_id → n < (cond b p (record p { next_id = p.next_id + 1 })).next_id → b ≡ false
made_by true p n is lt = absurd (omega (arith, is, lt))
made_by false p n is lt = refl

-- an id was given out, so there was one
pub not_out : (p q : Plain) (n : ℕ) → n ≡ p.next_id → q ≡ made p → n < q.next_id → is_out_of_ids p ≡ false
not_out p q n is e lt = made_by (is_out_of_ids p) p n is (subst (λ (r : Plain). n < r.next_id) e lt)

-- ---- one path

-- the path that it entered has it
pub arrives : (a : Arrival) (path : List ℕ) (id : ℕ) (p q : Plain) → PutAs true a path id p q → HasArrived a q.rows path
arrives a path id p q put = record {
  id = id;
  whole = ap (λ (r : Plain). whole_at r.rows path) put.1
      ∙ ap whole_in (got_own p.rows path (record { whole = Some (whole_of a id); out = out_at p.rows path }));
}

pub first_true : (a : Arrival) (path : List ℕ) (paths : List (List ℕ)) (id : ℕ) (p q : Plain) → PutAs true a path id p q
    → put_all a id p (path ∷ paths) ≡ put_rest a (path ∷ []) q paths
first_true a path paths id p q put =
    ap (λ b. cond b (ends Full p) (put_rest a (path ∷ []) (put_in path (whole_of a id) p) paths)) put.0
    ∙ ap (λ r. put_rest a (path ∷ []) r paths) (sym put.1)

pub first_false : (a : Arrival) (path : List ℕ) (paths : List (List ℕ)) (id : ℕ) (p q : Plain) → PutAs false a path id p q
    → put_all a id p (path ∷ paths) ≡ ends Full q
first_false a path paths id p q put =
    ap (λ b. cond b (ends Full p) (put_rest a (path ∷ []) (put_in path (whole_of a id) p) paths)) put.0 ∙ ap (ends Full) (sym put.1)

abbrev on_room : Arrival → List (List ℕ) → List ℕ → List (List ℕ) → Plain → Bool → Did
on_room a done path paths p b = cond b (worn p) (put_at a path p.next_id (made p) (λ r. put_rest a (done ++ path ∷ []) r paths))

abbrev on_rows : Arrival → List (List ℕ) → List ℕ → List (List ℕ) → Plain → Bool → Did
on_rows a done path paths p b =
    cond b (ends Full (made p)) (put_rest a (done ++ path ∷ []) (put_in path (whole_of a p.next_id) (made p)) paths)

next_true : (a : Arrival) (done : List (List ℕ)) (path : List ℕ) (paths : List (List ℕ)) (p q : Plain) → NextAs true a path p q
    → put_rest a done p (path ∷ paths) ≡ put_rest a (done ++ path ∷ []) q paths
next_true a done path paths p q n =
    ap (on_room a done path paths p) n.ids ∙ ap (on_rows a done path paths p) n.put_as.0
    ∙ ap (λ r. put_rest a (done ++ path ∷ []) r paths) (sym n.put_as.1)

next_false : (a : Arrival) (done : List (List ℕ)) (path : List ℕ) (paths : List (List ℕ)) (p q : Plain) → NextAs false a path p q
    → put_rest a done p (path ∷ paths) ≡ ends Full q
next_false a done path paths p q n =
    ap (on_room a done path paths p) n.ids ∙ ap (on_rows a done path paths p) n.put_as.0 ∙ ap (ends Full) (sym n.put_as.1)

next_worn : (a : Arrival) (done : List (List ℕ)) (path : List ℕ) (paths : List (List ℕ)) (p q : Plain) → WasWorn p q
    → put_rest a done p (path ∷ paths) ≡ worn q
next_worn a done path paths p q w = ap (on_room a done path paths p) w.ids ∙ ap worn (sym w.same)

-- ---- the path at a place of the list

drop_next : (xs : List (List ℕ)) (i : ℕ) (x : List ℕ) → i < length xs → x ≡ get_or xs i x → drop i xs ≡ x ∷ drop (suc i) xs
drop_next [] i x lt is = absurd (omega arith)
drop_next (y ∷ ys) zero x lt is = ap (λ z. z ∷ ys) (sym is)
drop_next (y ∷ ys) (suc i) x lt is = drop_next ys i x (omega arith) is

take_next : (xs : List (List ℕ)) (i : ℕ) (x : List ℕ) → i < length xs → x ≡ get_or xs i x → take (suc i) xs ≡ take i xs ++ x ∷ []
take_next [] i x lt is = absurd (omega arith)
take_next (y ∷ ys) zero x lt is = ap (λ z. z ∷ []) (sym is)
take_next (y ∷ ys) (suc i) x lt is = ap (λ zs. y ∷ zs) (take_next ys i x (omega arith) is)

drop_at : (xs : List (List ℕ)) (i : ℕ) (x : List ℕ) → i < length xs → x ≡ get_or xs i x → drop i xs ≡ x ∷ drop (i + 1) xs
drop_at xs i x lt is = let e : suc i ≡ i + 1 = omega arith in drop_next xs i x lt is ∙ ap (λ n. x ∷ drop n xs) e

take_at : (xs : List (List ℕ)) (i : ℕ) (x : List ℕ) → i < length xs → x ≡ get_or xs i x → take (i + 1) xs ≡ take i xs ++ x ∷ []
take_at xs i x lt is = let e : i + 1 ≡ suc i = omega arith in ap (λ n. take n xs) e ∙ take_next xs i x lt is

some_is : (x y : List ℕ) → Some x ≡ Some y → x ≡ y
some_is x y is = ap (λ o. unwrap_or o x) is

pub got_at : (xs : List (List ℕ)) (i : ℕ) (x : List ℕ) → i < length xs → x ≡ get_or xs i x → slice_get xs i ≡ Some x
got_at xs i x lt is = slice_get-get_or xs i x lt ∙ ap Some (sym is)

-- it is the only one there
pub is_got : (xs : List (List ℕ)) (i : ℕ) (x y : List ℕ) → i < length xs → x ≡ get_or xs i x → slice_get xs i ≡ Some y → x ≡ y
is_got xs i x y lt is at = some_is x y (sym (got_at xs i x lt is) ∙ at)

module _ (a : Arrival) (ws : List (List ℕ)) (i : ℕ) (x : List ℕ) (lt : i < length ws) (is : x ≡ get_or ws i x) (p q : Plain) (d : Did)
    (before : put_rest a (take i ws) p (drop i ws) ≡ d) where
  here : put_rest a (take i ws) p (x ∷ drop (i + 1) ws) ≡ d
  here = ap (put_rest a (take i ws) p) (sym (drop_at ws i x lt is)) ∙ before

  pub goes_on : NextAs true a x p q → put_rest a (take (i + 1) ws) q (drop (i + 1) ws) ≡ d
  goes_on n =
      ap (λ done. put_rest a done q (drop (i + 1) ws)) (take_at ws i x lt is)
      ∙ sym (next_true a (take i ws) x (drop (i + 1) ws) p q n) ∙ here

  pub is_full_there : NextAs false a x p q → ends Full q ≡ d
  is_full_there n = sym (next_false a (take i ws) x (drop (i + 1) ws) p q n) ∙ here

  pub is_worn_there : WasWorn p q → worn q ≡ d
  is_worn_there w = sym (next_worn a (take i ws) x (drop (i + 1) ws) p q w) ∙ here

module _ (a : Arrival) (ws : List (List ℕ)) (x : List ℕ) (lt : 0 < length ws) (is : x ≡ get_or ws 0 x) (id : ℕ) (p q : Plain) where
  first_is : ws ≡ x ∷ drop 1 ws
  first_is = drop_at ws 0 x lt is

  pub begins : PutAs true a x id p q → put_rest a (take 1 ws) q (drop 1 ws) ≡ put_all a id p ws
  begins put =
      ap (λ done. put_rest a done q (drop 1 ws)) (take_at ws 0 x lt is)
      ∙ sym (first_true a x (drop 1 ws) id p q put) ∙ ap (put_all a id p) (sym first_is)

  pub is_full_first : PutAs false a x id p q → ends Full q ≡ put_all a id p ws
  is_full_first put = sym (first_false a x (drop 1 ws) id p q put) ∙ ap (put_all a id p) (sym first_is)

-- all of them were entered
pub all_entered : (a : Arrival) (ws : List (List ℕ)) (i : ℕ) (p : Plain) (d : Did) → length ws ≤ i
    → put_rest a (take i ws) p (drop i ws) ≡ d → ends (Kept ws) p ≡ d
all_entered a ws i p d le before =
    let none : drop i ws ≡ [] = grind (arith, common_steps) in
    let all : take i ws ≡ ws = grind (arith, common_steps) in
    sym (ap (put_rest a (take i ws) p) none ∙ ap (λ done. put_rest a done p []) all) ∙ before

-- Tests over lists, as sets of texts grow by them.
use Rattle.std.proofs.Common.{◌≡◌, ℕ, ◌+◌, ◌<◌, Bool, true, false, ◌||◌, ◌&&◌, not, List, [], ◌∷◌, ◌++◌, length, take, get_or, Result, Ok, Err, OnOk, refl, sym, ap, subst, ◌∙◌}
use Rattle.std.specs.List.{list_any}
use Rattle.std.proofs.lemmas.List.Folds.{list_any_more}
use Rattle.std.proofs.lemmas.Slice.Eq.{bytes_eq-Decides}
use Rattle.acng_base.specs.Names.{folder_of}
use Rattle.acng_reach.specs.Sets.{same, among}
use Rattle.acng_reach.specs.Names.{inner}
use Rattle.acng_reach.specs.Reaches.{is_live, given_by, has_folder, reached_by, is_in, is_read, is_unread, is_unread_by}
use Rattle.acng_reach.specs.declared.index.Index.{Index}
use Rattle.acng_reach.specs.declared.index.Listed.{Listed}

-- ---- what an answer ensures

pub on_ok : {T E P Q : Type 0} (r : Result T E) → (P → Q) → OnOk r P → OnOk r Q
on_ok (Ok x) f h = f h
on_ok (Err e) f h = h

pub with_test : (a f o : Bool) → f ≡ true → (a || o) ≡ ((a && f) || o)
with_test true true o e = refl
with_test false true o e = refl
with_test a false o e = cc

-- ---- one element more

abbrev pub push_by : (x l b : Bool) → (x || (l || b)) ≡ ((l || x) || b)
push_by true true b = refl
push_by true false b = refl
push_by false true b = refl
push_by false false b = refl

pub any_step : {A : Type 0} (f : A → Bool) (xs : List A) (i : ℕ) (x : A) → i < length xs → x ≡ get_or xs i x
    → (new old base : Bool) → new ≡ (f x || old) → old ≡ (list_any f (take i xs) || base) → new ≡ (list_any f (take (i + 1) xs) || base)
any_step f xs i x lt is new old base now before =
    now ∙ ap (λ b. f x || b) before ∙ push_by (f x) (list_any f (take i xs)) base
    ∙ ap (λ b. b || base) (sym (list_any_more f xs i x lt ∙ ap (λ y. list_any f (take i xs) || f y) (sym is)))

abbrev push_alone : (x l : Bool) → (x || l) ≡ (l || x)
push_alone true true = refl
push_alone true false = refl
push_alone false true = refl
push_alone false false = refl

pub any_step_alone : {A : Type 0} (f : A → Bool) (xs : List A) (i : ℕ) (x : A) → i < length xs → x ≡ get_or xs i x
    → (new old : Bool) → new ≡ (f x || old) → old ≡ list_any f (take i xs) → new ≡ list_any f (take (i + 1) xs)
any_step_alone f xs i x lt is new old now before =
    now ∙ ap (λ b. f x || b) before ∙ push_alone (f x) (list_any f (take i xs))
    ∙ sym (list_any_more f xs i x lt ∙ ap (λ y. list_any f (take i xs) || f y) (sym is))

-- ---- tests that agree

pub any_same : {A : Type 0} (f h : A → Bool) → ((x : A) → f x ≡ h x) → (xs : List A) → list_any f xs ≡ list_any h xs
any_same f h e [] = refl
any_same f h e (x ∷ xs) = ap (λ b. b || list_any f xs) (e x) ∙ ap (λ b. h x || b) (any_same f h e xs)

-- ---- held paths beside lists of differences

in_by : (fs : List (List ℕ)) (q p : List ℕ) (b l : Bool) → same q p ≡ b
    → ((b && among (folder_of p) fs) || (l && among (folder_of q) fs)) ≡ ((b || l) && among (folder_of q) fs)
in_by fs q p true l e = by_case (among (folder_of q) fs) l (ap (λ t. among (folder_of t) fs) (sym ((bytes_eq-Decides q p).0 e)))
  where
    by_case : (a l : Bool) → among (folder_of p) fs ≡ a → (among (folder_of p) fs || (l && a)) ≡ a
    by_case true l f = ap (λ b. b || (l && true)) f
    by_case false true f = ap (λ b. b || false) f
    by_case false false f = ap (λ b. b || false) f
in_by fs q p false l e = refl

pub in_all : (fs held : List (List ℕ)) (q : List ℕ) → list_any (is_in fs q) held ≡ (among q held && among (folder_of q) fs)
in_all fs [] q = refl
in_all fs (p ∷ ps) q = ap (λ b. is_in fs q p || b) (in_all fs ps q) ∙ in_by fs q p (same q p) (among q ps) refl

abbrev part : (g h i a b : Bool) → ((g || (h && i)) || (a || (h && b))) ≡ ((g || a) || (h && (i || b)))
part true h i a b = refl
part false true true true b = refl
part false true true false b = refl
part false true false a b = refl
part false false i true b = refl
part false false i false b = refl

split : (held : List (List ℕ)) (q : List ℕ) (xs : List Index)
    → list_any (reached_by held q) xs ≡ (list_any (given_by q) xs || (among q held && list_any (has_folder (folder_of q)) xs))
split held q [] = by_case (among q held)
  where
    by_case : (b : Bool) → false ≡ (false || (b && false))
    by_case true = refl
    by_case false = refl
split held q (x ∷ xs) =
    ap (λ b. reached_by held q x || b) (split held q xs)
    ∙ part (given_by q x) (among q held) (has_folder (folder_of q) x) (list_any (given_by q) xs) (list_any (has_folder (folder_of q)) xs)

pub all_reached : (held fs : List (List ℕ)) (xs : List Index) (q : List ℕ) (new old : Bool) → new ≡ (list_any (is_in fs q) held || old)
    → old ≡ list_any (given_by q) xs → among (folder_of q) fs ≡ list_any (has_folder (folder_of q)) xs → new ≡ list_any (reached_by held q) xs
all_reached held fs xs q new old now given folders =
    now ∙ ap (λ b. list_any (is_in fs q) held || b) given
    ∙ ap (λ b. b || list_any (given_by q) xs) (in_all fs held q ∙ ap (λ b. among q held && b) folders)
    ∙ push_alone (among q held && list_any (has_folder (folder_of q)) xs) (list_any (given_by q) xs)
    ∙ sym (split held q xs)

-- ---- live folders that aren't read

pub unread_same : (held : List (List ℕ)) (text folder : List ℕ) (read : List (List ℕ)) (ls : List Listed)
    → ((u : List ℕ) → among u read ≡ list_any (is_read u) ls)
    → list_any (is_unread_by held text folder read) ls ≡ list_any (is_unread held text folder ls) ls
unread_same held text folder read ls e = any_same (is_unread_by held text folder read) (is_unread held text folder ls) each ls
  where
    each : (l : Listed) → is_unread_by held text folder read l ≡ is_unread held text folder ls l
    each l = ap (λ b. same text (inner folder (folder_of l.entry.path)) && (is_live held folder l && not b)) (e (folder_of l.entry.path))

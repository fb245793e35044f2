-- How the calls of an import follow each other.
use Rattle.std.proofs.Common.{◌≡◌, ◌⊎◌, inl, inr, ℕ, zero, suc, ◌<◌, Bool, true, false, ◌||◌, List, [], ◌∷◌, ◌++◌, length, get_or, cond, refl, sym, ap, subst, ◌∙◌, arith}
use Rattle.std.specs.List.{filter}
use Rattle.acng_base.specs.declared.clock.Moment.{Moment}
use Rattle.acng_base.specs.declared.hash.Hash.{Hash}
use Rattle.std.proofs.lemmas.Slice.Eq.{bytes_eq-Decides}
use Rattle.acng_desk.specs.House.{Plain}
use Rattle.acng_desk.specs.Commands.{Command, NewBody, PutImport, step, steps, made}
use Rattle.acng_reach.specs.Bodies.{ArePaths}
use Rattle.acng_reach.specs.Paths.{IsPath}
use Rattle.acng_reach.specs.Reaches.{is_named}
use Rattle.acng_reach.specs.Sets.{same, among}
use Rattle.acng_reach.specs.declared.index.Index.{Index}
use Rattle.acng_import.specs.Steps.{May, AreEntering, OnlyEnters, MayHave, anywhere, named_in}

pub none_entered : {may : May} {p q : Plain} → q ≡ p → OnlyEnters may p q
none_entered is = record { calls = []; each = tt; made = is }

pub body_made : {may : May} {p q : Plain} → q ≡ made p → OnlyEnters may p q
body_made is = record { calls = NewBody ∷ []; each = (tt, tt); made = is }

pub file_put : {may : May} {p q : Plain} (path : List ℕ) (id : ℕ) (hash : Hash) (size : ℕ) (now : Moment) → may path hash.0 size ≡ true
    → q ≡ step (PutImport path id hash size now) p → OnlyEnters may p q
file_put path id hash size now has is = record { calls = PutImport path id hash size now ∷ []; each = (has, tt); made = is }

-- it was put, or it wasn't
pub file_fell : {may : May} {p q : Plain} (path : List ℕ) (id : ℕ) (hash : Hash) (size : ℕ) (now : Moment) → may path hash.0 size ≡ true
    → (q ≡ p) ⊎ (q ≡ step (PutImport path id hash size now) p) → OnlyEnters may p q
file_fell path id hash size now has (inl is) = none_entered is
file_fell path id hash size now has (inr is) = file_put path id hash size now has is

steps_both : (cs ds : List Command) (p : Plain) → steps (cs ++ ds) p ≡ steps ds (steps cs p)
steps_both [] ds p = refl
steps_both (c ∷ cs) ds p = steps_both cs ds (step c p)

all_both : (may : May) (cs ds : List Command) → AreEntering may cs → AreEntering may ds → AreEntering may (cs ++ ds)
all_both may [] ds a b = b
all_both may (c ∷ cs) ds a b = (a.0, all_both may cs ds a.1 b)

-- one part, and then another
pub entered_both : {may : May} {p q r : Plain} → OnlyEnters may p q → OnlyEnters may q r → OnlyEnters may p r
entered_both {may} {p} {q} {r} a b = record {
  calls = a.calls ++ b.calls;
  each = all_both may a.calls b.calls a.each b.each;
  made = b.made ∙ ap (steps b.calls) a.made ∙ sym (steps_both a.calls b.calls p);
}

-- any path may have any file
pub have_any : (hash : List ℕ) (size : ℕ) (paths : List (List ℕ)) → MayHave anywhere hash size paths
have_any hash size paths = record { each = λ path is. refl }

-- ---- the paths that want a file are among its names

or_right : (a b : Bool) → b ≡ true → (a || b) ≡ true
or_right true b h = refl
or_right false b h = h

or_more : (a b c : Bool) → (b ≡ true → c ≡ true) → (a || b) ≡ true → (a || c) ≡ true
or_more true b c more h = refl
or_more false b c more h = more h

by_test : (t : Bool) (f : List ℕ → Bool) (q x : List ℕ) (xs : List (List ℕ)) → (among q (filter f xs) ≡ true → among q xs ≡ true)
    → among q (cond t (x ∷ filter f xs) (filter f xs)) ≡ true → (same q x || among q xs) ≡ true
by_test true f q x xs more h = or_more (same q x) (among q (filter f xs)) (among q xs) more h
by_test false f q x xs more h = or_right (same q x) (among q xs) (more h)

pub among_filtered : (f : List ℕ → Bool) (q : List ℕ) (xs : List (List ℕ)) → among q (filter f xs) ≡ true → among q xs ≡ true
among_filtered f q [] h = h
among_filtered f q (x ∷ xs) h = by_test (f x) f q x xs (among_filtered f q xs) h

pub among_place : (xs : List (List ℕ)) (i : ℕ) (x : List ℕ) → i < length xs → x ≡ get_or xs i x → among x xs ≡ true
among_place [] i x lt is = absurd (omega arith)
among_place (y ∷ ys) zero x lt is = ap (λ b. b || among x ys) ((bytes_eq-Decides x y).1 is)
among_place (y ∷ ys) (suc i) x lt is = or_right (same x y) (among x ys) (among_place ys i x (omega arith) is)

-- ---- the indexes that reach found

pub entered_named : {xs ys : List Index} {p q : Plain} → ys ≡ xs → OnlyEnters (named_in ys) p q → OnlyEnters (named_in xs) p q
entered_named {xs} {ys} {p} {q} e h = subst (λ zs. OnlyEnters (named_in zs) p q) e h

-- the paths that want a file are paths that name it
pub may_have : (xs : List Index) (hash : List ℕ) (size : ℕ) (names ws us : List (List ℕ)) (f : List ℕ → Bool)
    → ((q : List ℕ) → IsPath q → among q names ≡ is_named xs hash size q) → ArePaths names → ws ≡ filter f names → us ≡ ws
    → MayHave (named_in xs) hash size us
may_have xs hash size names ws us f named paths wanted same_list = record {
  each = λ q has.
      let among_them : among q names ≡ true
      = among_filtered f q names (sym (ap (among q) (same_list ∙ wanted)) ∙ has) in
      sym (named q (record { reads = paths.each q among_them })) ∙ among_them;
}

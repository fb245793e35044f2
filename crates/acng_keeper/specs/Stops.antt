-- How what a stop may leave goes on from call to call.
use Rattle.std.specs.Prelude.{◌≡◌, ◌⊎◌, is_some, ℕ, Bool, true, false, zero, suc, List, [], ◌∷◌, ◌++◌, length, take, drop}
use mathlib.Core.Bool.{true≢false}
use mathlib.Core.Path.{refl, sym, ap, subst, ◌∙◌}
use mathlib.Core.Logic.{inl, inr}
use Rattle.std.specs.Ordering.{nat_cmp}
use Rattle.std.specs.FinMap as map
use Rattle.acng_keeper.specs.declared.effect.Effect.{Effect}
use Rattle.acng_keeper.specs.Kept.{Kept, Stored, stored, changed_by, after, without_loose, MayCome, Removes}
use Rattle.acng_keeper.specs.Images.{changed, Along, IsAlong, LeavesOnly, Goes, since, IsImage}

append_nil : {A : Type 0} (xs : List A) → xs ++ [] ≡ xs
append_nil [] = refl
append_nil (x ∷ xs) = ap (λ ys. x ∷ ys) (append_nil xs)

append_both : {A : Type 0} (xs ys zs : List A) → (xs ++ ys) ++ zs ≡ xs ++ (ys ++ zs)
append_both [] ys zs = refl
append_both (x ∷ xs) ys zs = ap (λ ws. x ∷ ws) (append_both xs ys zs)

changed_both : (es fs : List Effect) (s : Stored) → changed (es ++ fs) s ≡ changed fs (changed es s)
changed_both [] fs s = refl
changed_both (e ∷ es) fs s = changed_both es fs (changed_by e s)

along_both : (P : Stored → Type 0) (es fs : List Effect) (s : Stored) → Along P es s → Along P fs (changed es s) → Along P (es ++ fs) s
along_both P [] fs s a b = b
along_both P (e ∷ es) fs s a b = (a.0, along_both P es fs (changed_by e s) a.1 b)

along_last : (P : Stored → Type 0) (es : List Effect) (s : Stored) → Along P es s → P (changed es s)
along_last P [] s a = a
along_last P (e ∷ es) s a = along_last P es (changed_by e s) a.1

along_front : (P : Stored → Type 0) (es : List Effect) (s : Stored) (n : ℕ) → Along P es s → P (changed (take n es) s)
along_front P [] s zero a = a
along_front P [] s (suc n) a = a
along_front P (e ∷ es) s zero a = a.0
along_front P (e ∷ es) s (suc n) a = along_front P es (changed_by e s) n a.1

-- no call
pub at_rest : (P : Stored → Type 0) (k : Kept) → P (stored k) → LeavesOnly P k k
at_rest P k p = record { since = []; trail = sym (append_nil k.trail); now = refl; each = p }

-- what it is now has P
pub last : (P : Stored → Type 0) (old new : Kept) → LeavesOnly P old new → P (stored new)
last P old new l = subst P (sym l.now) (along_last P l.since (stored old) l.each)

-- one part, and then another
pub both : (P : Stored → Type 0) (old mid new : Kept) → LeavesOnly P old mid → LeavesOnly P mid new → LeavesOnly P old new
both P old mid new a b = record {
  since = a.since ++ b.since;
  trail = b.trail ∙ ap (λ t. t ++ b.since) a.trail ∙ append_both old.trail a.since b.since;
  now = b.now ∙ ap (changed b.since) a.now ∙ sym (changed_both a.since b.since (stored old));
  each = along_both P a.since b.since (stored old) a.each (subst (λ s. Along P b.since s) a.now b.each);
}

-- an effect came
pub comes : (P : Stored → Type 0) (e : Effect) (old new : Kept) → P (stored old) → P (changed_by e (stored old)) → new ≡ after e old
    → LeavesOnly P old new
comes P e old new p q is = record { since = e ∷ []; trail = ap (λ k. k.trail) is; now = ap stored is; each = (p, q) }

-- nothing came
pub stays : (P : Stored → Type 0) (old new : Kept) → P (stored old) → new ≡ old → LeavesOnly P old new
stays P old new p is = subst (λ k. LeavesOnly P old k) (sym is) (at_rest P old p)

-- it came, or nothing did
pub may_come : (P : Stored → Type 0) (e : Effect) (old new : Kept) → P (stored old) → P (changed_by e (stored old)) → MayCome e old new
    → LeavesOnly P old new
may_come P e old new p q (inl is) = comes P e old new p q is
may_come P e old new p q (inr is) = stays P old new p is

-- P now
pub first : (P : Stored → Type 0) (es : List Effect) (s : Stored) → Along P es s → P s
first P [] s a = a
first P (e ∷ es) s a = a.0

-- a plan is begun
pub begins : {P : Stored → Type 0} {plan : List Effect} {k : Kept} → Along P plan (stored k) → Goes P k plan k
begins {P} {plan} {k} a = record { leaves = at_rest P k (first P plan (stored k) a); ahead = a }

-- the first effect ahead came
pub came : {P : Stored → Type 0} {old mid new : Kept} {e : Effect} {es : List Effect} → Goes P old (e ∷ es) mid → new ≡ after e mid
    → Goes P old es new
came {P} {old} {mid} {new} {e} {es} a is = record {
  leaves = both P old mid new a.leaves (comes P e mid new a.ahead.0 (first P es (changed_by e (stored mid)) a.ahead.1) is);
  ahead = subst (λ k. Along P es (stored k)) (sym is) a.ahead.1;
}

-- it was a removal, perhaps in vain
pub removed : {P : Stored → Type 0} {old mid new : Kept} {e : Effect} {es : List Effect} {was : Bool} → Goes P old (e ∷ es) mid
    → Removes e was mid new → Goes P old es new
removed {was = true} a is = came a (is.comes refl)
removed {P} {old} {mid} {new} {e} {es} {was = false} a is =
    record {
      leaves = both P old mid new a.leaves (stays P mid new a.ahead.0 (is.same refl));
      ahead = subst (λ s. Along P es s)
          (sym is.gone) a.ahead.1;
    }

-- it was refused
pub refused : {P : Stored → Type 0} {old mid new : Kept} {e : Effect} {es : List Effect} → Goes P old (e ∷ es) mid → MayCome e mid new
    → LeavesOnly P old new
refused {P} {old} {mid} {new} {e} {es} a may =
    both P old mid new a.leaves (may_come P e mid new a.ahead.0 (first P es (changed_by e (stored mid)) a.ahead.1) may)

-- nothing came
pub rested : {P : Stored → Type 0} {old mid new : Kept} {es : List Effect} → Goes P old es mid → new ≡ mid → Goes P old es new
rested {P} {old} {mid} {new} {es} a is = subst (λ k. Goes P old es k) (sym is) a

-- each image has P
pub each_image : (P : Stored → Type 0) (es : List Effect) (n : ℕ) (s t : Stored) → Along P es s → t ≡ changed (take n es) s → P t
each_image P es n s t a is = subst P (sym is) (along_front P es s n a)

along_more : (P Q : Stored → Type 0) → ((t : Stored) → P t → Q t) → (es : List Effect) (s : Stored) → Along P es s → Along Q es s
along_more P Q more [] s a = more s a
along_more P Q more (e ∷ es) s a = (more s a.0, along_more P Q more es (changed_by e s) a.1)

-- a plan goes along itself
along_itself : (es : List Effect) (s : Stored) → Along (IsAlong es s) es s
along_itself [] s = (0, refl)
along_itself (e ∷ es) s = (
  (0, refl),
  along_more (IsAlong es (changed_by e s)) (IsAlong (e ∷ es) s) (λ t is. (suc is.0, is.1)) es (changed_by e s)
      (along_itself es (changed_by e s)),
)

pub begins_itself : {plan : List Effect} {k : Kept} → Goes (IsAlong plan (stored k)) k plan k
begins_itself {plan} {k} = begins (along_itself plan (stored k))

-- what has P along the plan is all that is left
pub leaves_more : (P Q : Stored → Type 0) (old new : Kept) → ((t : Stored) → P t → Q t) → LeavesOnly P old new → LeavesOnly Q old new
leaves_more P Q old new more l =
    record { since = l.since; trail = l.trail; now = l.now; each = along_more P Q more l.since (stored old) l.each }

pub leaves_along : (P : Stored → Type 0) (plan : List Effect) (old new : Kept) → Along P plan (stored old)
    → LeavesOnly (IsAlong plan (stored old)) old new → LeavesOnly P old new
leaves_along P plan old new a l = leaves_more (IsAlong plan (stored old)) P old new (λ t is. each_image P plan is.0 (stored old) t a is.1) l

drop_front : {A : Type 0} (xs ys : List A) → drop (length xs) (xs ++ ys) ≡ ys
drop_front [] ys = refl
drop_front (x ∷ xs) ys = drop_front xs ys

-- each image has P
pub image_has : {P : Stored → Type 0} {old new image : Kept} {old_next new_next : ℕ} → LeavesOnly P old new
    → IsImage old new old_next new_next image → P (stored image)
image_has {P} {old} {new} {image} l i =
    let same : since old new ≡ l.since = ap (drop (length old.trail)) l.trail ∙ drop_front old.trail l.since in
    each_image P l.since i.count (stored old) (stored image) l.each (i.made ∙ ap (λ es. changed (take i.count es) (stored old)) same)

nothing_there : (id : ℕ) → map.contains_key {X = Unit {0}} {R = nat_cmp} map.empty id ≡ true → ⊥
nothing_there id had = true≢false (sym (sym (ap is_some (map.get-empty {X = Unit {0}} nat_cmp id)) ∙ had))

-- without its unsealed bodies it is an image of itself
pub image_at_rest : (k image : Kept) (next : ℕ) → image ≡ without_loose k → IsImage k k next next image
image_at_rest k image next is = subst (λ i. IsImage k k next next i) (sym is) (record {
  count = 0;
  made = refl;
  loose = λ id had. absurd (nothing_there id had);
  unsealed = λ id had. absurd (nothing_there id had);
})

-- what a stop in or after one call leaves: its entry as before or after it, and all else as it was
pub one_call : (e : Effect) (old new image : Kept) (old_next new_next : ℕ) → MayCome e old new → IsImage old new old_next new_next image
    → (stored image ≡ stored old) ⊎ (stored image ≡ changed_by e (stored old))
one_call e old new image old_next new_next may i =
    image_has (may_come (λ t. (t ≡ stored old) ⊎ (t ≡ changed_by e (stored old))) e old new (inl refl) (inr refl) may) i

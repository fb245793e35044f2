-- One of two facts, by a result.
use Rattle.std.proofs.Common.{◌⊎◌, Result, Ok, Err, OnOk, OnErr, inl, inr}

pub by_result : {T E A B : Type 0} (r : Result T E) → OnOk r A → OnErr r B → A ⊎ B
by_result (Ok x) a b = inl a
by_result (Err e) a b = inr b

pub ok_map : {T E A B : Type 0} (r : Result T E) → (A → B) → OnOk r A → OnOk r B
ok_map (Ok x) f a = f a
ok_map (Err e) f a = a

pub err_map : {T E A B : Type 0} (r : Result T E) → (A → B) → OnErr r A → OnErr r B
err_map (Ok x) f a = a
err_map (Err e) f a = f a

pub flat : {A B : Type 0} → A ⊎ (B ⊎ A) → B ⊎ A
flat (inl a) = inr a
flat (inr b) = b

-- by one or the other, the other way round
pub fallen : {A B C D : Type 0} → (A → C) → (B → D) → A ⊎ B → D ⊎ C
fallen f g (inl a) = inr (f a)
fallen f g (inr b) = inl (g b)

pub stamped_or : {T E A B C : Type 0} (r : Result T E) → OnOk r A → OnOk r B → OnErr r C → (A × B) ⊎ C
stamped_or (Ok x) a b c = inl (a, b)
stamped_or (Err e) a b c = inr c

pub ok_both : {T E A B C : Type 0} (r : Result T E) → (A → B → C) → OnOk r A → OnOk r B → OnOk r C
ok_both (Ok x) f a b = f a b
ok_both (Err e) f a b = a

pub both_or : {T E A B C D : Type 0} (r : Result T E) → OnOk r A → OnOk r B → OnErr r C → OnErr r D → (A × B) ⊎ (C × D)
both_or (Ok x) a b c d = inl (a, b)
both_or (Err e) a b c d = inr (c, d)

pub ok_all : {T E A : Type 0} (r : Result T E) → A → OnOk r A
ok_all (Ok x) a = a
ok_all (Err e) a = tt

-- Fields in one buffer: what is written behind them leaves them as they were, but for the end of the last value.
use Rattle.std.proofs.Common.{◌≡◌, ℕ, zero, suc, ◌+◌, ◌-◌, ◌<◌, ◌≤◌, List, [], ◌∷◌, ◌++◌, Some, option_map, length, take, drop, get_or, refl, sym, ap, ◌∙◌, subst, arith, length-append, append_assoc}
use Rattle.std.proofs.lemmas.List.{drop-append-le, take-append-le, length-drop, take_rest, take_all, drop_at}
use Rattle.acng_stanza.specs.Stanzas.{Field, go_on, nth}
use Rattle.acng_stanza.specs.Places.{next_start, part, field_at, fields_in, AreInOrder, stop_of}
use Rattle.acng_stanza.specs.declared.stanza.Place.{Place}

pub length_fields : (bytes : List ℕ) (ps : List Place) → length (fields_in bytes ps) ≡ length ps
length_fields bytes [] = refl
length_fields bytes (p ∷ ps) = ap suc (length_fields bytes ps)

-- how many there are
pub count_of : (bytes : List ℕ) (ps : List Place) (fs : List Field) → fields_in bytes ps ≡ fs → length ps ≡ length fs
count_of bytes ps fs e = sym (length_fields bytes ps) ∙ ap length e

pub is_there : (bytes : List ℕ) (ps : List Place) (fs : List Field) (i : ℕ) → fields_in bytes ps ≡ fs → i < length fs → i < length ps
is_there bytes ps fs i e h = subst (λ n. i < n) (sym (count_of bytes ps fs e)) h

pub start_within : (len : ℕ) (ps : List Place) → AreInOrder len ps → next_start ps len ≤ len
start_within len [] h = omega arith
start_within len (p ∷ ps) h = let rest = start_within len ps h.2 in omega (arith, h.0, h.1)

later_start : (len n : ℕ) (ps : List Place) → len ≤ n → next_start ps len ≤ next_start ps n
later_start len n [] h = h
later_start len n (p ∷ ps) h = omega arith

-- a longer buffer
pub in_order_more : (len n : ℕ) (ps : List Place) → len ≤ n → AreInOrder len ps → AreInOrder n ps
in_order_more len n [] h o = tt
in_order_more len n (p ∷ ps) h o =
    let later = later_start len n ps h in
    (o.0, omega (arith, o.1), in_order_more len n ps h o.2)

-- a part within the buffer stays
pub part_more : (xs ys : List ℕ) (a b : ℕ) → a ≤ b → b ≤ length xs → part (xs ++ ys) a b ≡ part xs a b
part_more xs ys a b ab within =
    let size = length-drop a xs in
    let first : a ≤ length xs = omega arith in
    let few : b - a ≤ length (drop a xs) = omega arith in
    ap (λ t. take (b - a) t) (drop-append-le a xs ys first) ∙ take-append-le (b - a) (drop a xs) ys few

-- the part to the end grows
part_end : (xs ys : List ℕ) (a : ℕ) → a ≤ length xs → part (xs ++ ys) a (length (xs ++ ys)) ≡ part xs a (length xs) ++ ys
part_end xs ys a within =
    take_rest (xs ++ ys) a ∙ drop-append-le a xs ys within ∙ ap (λ t. t ++ ys) (sym (take_rest xs a))

-- ---- a field at the end

stop_same : (ps : List Place) (q : Place) (len n : ℕ) → q.start ≡ len → next_start (ps ++ q ∷ []) n ≡ next_start ps len
stop_same [] q len n e = e
stop_same (p ∷ ps) q len n e = refl

field_same : (xs ys : List ℕ) (p : Place) (stop : ℕ) → p.start ≤ p.value → p.value ≤ stop → stop ≤ length xs
    → field_at (xs ++ ys) p stop ≡ field_at xs p stop
field_same xs ys p stop a b c =
    let name : part (xs ++ ys) p.start p.value ≡ part xs p.start p.value = part_more xs ys p.start p.value a (omega arith) in
    let value : part (xs ++ ys) p.value stop ≡ part xs p.value stop = part_more xs ys p.value stop b c in
    λ i. record { name = name i; value = value i; line = p.line }

-- what stands behind a buffer, in a longer one
part_of : (xs ys zs : List ℕ) (a b : ℕ) → a ≡ length xs → b ≡ a + length ys → part ((xs ++ ys) ++ zs) a b ≡ ys
part_of xs ys zs a b e f =
    let size : b - a ≡ length ys = omega arith in
    let rest : drop a ((xs ++ ys) ++ zs) ≡ ys ++ zs = ap (drop a) (append_assoc xs ys zs) ∙ drop_at xs (ys ++ zs) a (sym e) in
    ap (λ t. take (b - a) t) rest ∙ take-append-le (b - a) ys zs (omega arith) ∙ take_all (b - a) ys (omega arith)

pub add_field : (bytes name value : List ℕ) (ps : List Place) (q : Place) → q.start ≡ length bytes
    → q.value ≡ length (bytes ++ name) → AreInOrder (length bytes) ps
    → fields_in ((bytes ++ name) ++ value) (ps ++ q ∷ [])
    ≡ fields_in bytes ps ++ record { name = name; value = value; line = q.line } ∷ []
add_field bytes name value [] q s v o =
    let whole = (bytes ++ name) ++ value in
    let size = length-append bytes name in
    let all = length-append (bytes ++ name) value in
    let n : part whole q.start q.value ≡ name = part_of bytes name value q.start q.value s (omega arith) in
    let w : part whole q.value (length whole) ≡ value =
    take_rest whole q.value ∙ drop_at (bytes ++ name) value q.value (sym v) in
    λ i. record { name = n i; value = w i; line = q.line } ∷ []
add_field bytes name value (p ∷ ps) q s v o =
    let whole = (bytes ++ name) ++ value in
    let stop = next_start ps (length bytes) in
    let here : field_at whole p (next_start (ps ++ q ∷ []) (length whole)) ≡ field_at bytes p stop =
    ap (field_at whole p) (stop_same ps q (length bytes) (length whole) s)
    ∙ ap (λ t. field_at t p stop) (append_assoc bytes name value)
    ∙ field_same bytes (name ++ value) p stop o.0 o.1 (start_within (length bytes) ps o.2) in
    let rest = add_field bytes name value ps q s v o.2 in
    λ i. here i ∷ rest i

pub in_order_add : (len n : ℕ) (ps : List Place) (q : Place) → q.start ≡ len → q.start ≤ q.value → q.value ≤ n → AreInOrder len ps
    → AreInOrder n (ps ++ q ∷ [])
in_order_add len n [] q s a b o = (a, b, tt)
in_order_add len n (p ∷ ps) q s a b o =
    (o.0, subst (λ k. p.value ≤ k) (sym (stop_same ps q len n s)) o.1, in_order_add len n ps q s a b o.2)

-- ---- the last value goes on

pub go_on_last : (bytes text : List ℕ) (p : Place) (ps : List Place) → AreInOrder (length bytes) (p ∷ ps)
    → go_on text (fields_in bytes (p ∷ ps)) ≡ Some (fields_in (bytes ++ 10 ∷ text) (p ∷ ps))
go_on_last bytes text p [] o =
    let more = 10 ∷ text in
    let n : part bytes p.start p.value ≡ part (bytes ++ more) p.start p.value = sym (part_more bytes more p.start p.value o.0 o.1) in
    let w : part bytes p.value (length bytes) ++ more ≡ part (bytes ++ more) p.value (length (bytes ++ more)) =
    sym (part_end bytes more p.value o.1) in
    λ i. Some (record { name = n i; value = w i; line = p.line } ∷ [])
go_on_last bytes text p (q ∷ qs) o =
    let more = 10 ∷ text in
    let within = start_within (length bytes) (q ∷ qs) o.2 in
    let here : field_at bytes p q.start ≡ field_at (bytes ++ more) p q.start = sym (field_same bytes more p q.start o.0 o.1 within) in
    ap (option_map (λ gs. field_at bytes p q.start ∷ gs)) (go_on_last bytes text q qs o.2)
    ∙ ap (λ f. Some (f ∷ fields_in (bytes ++ more) (q ∷ qs))) here

pub go_on_some : (bytes text : List ℕ) (ps : List Place) → 0 < length (fields_in bytes ps) → AreInOrder (length bytes) ps
    → go_on text (fields_in bytes ps) ≡ Some (fields_in (bytes ++ 10 ∷ text) ps)
go_on_some bytes text [] some o = absurd (omega arith)
go_on_some bytes text (p ∷ ps) some o = go_on_last bytes text p ps o

-- ---- a field by its place

pub record StandsAt (bytes : List ℕ) (ps : List Place) (i : ℕ) (p : Place) : Type 0 where
  pub ordered : p.start ≤ p.value
  pub name_within : p.value ≤ length bytes
  pub after : p.value ≤ stop_of ps i (length bytes)
  pub within : stop_of ps i (length bytes) ≤ length bytes
  pub is : nth (fields_in bytes ps) i ≡ field_at bytes p (stop_of ps i (length bytes))

pub stands_at : (bytes : List ℕ) (ps : List Place) (i : ℕ) (p : Place) → i < length ps → p ≡ get_or ps i p
    → AreInOrder (length bytes) ps → StandsAt bytes ps i p
stands_at bytes [] i p lt e o = absurd (omega arith)
stands_at bytes (q ∷ qs) zero p lt e o =
    let stop = next_start qs (length bytes) in
    let inside = start_within (length bytes) qs o.2 in
    let here : StandsAt bytes (q ∷ qs) zero q = record {
      ordered = o.0;
      name_within = omega (arith, o.1);
      after = o.1;
      within = inside;
      is = refl;
    } in
    subst (λ (r : Place). StandsAt bytes (q ∷ qs) zero r) (sym e) here
stands_at bytes (q ∷ qs) (suc i) p lt e o =
    let rest = stands_at bytes qs i p (omega arith) e o.2 in
    let n : suc i + 1 ≡ suc (i + 1) = omega arith in
    let same : stop_of qs i (length bytes) ≡ stop_of (q ∷ qs) (suc i) (length bytes) =
    ap (λ k. next_start (drop k (q ∷ qs)) (length bytes)) (sym n) in
    record {
      ordered = rest.ordered;
      name_within = rest.name_within;
      after = subst (λ k. p.value ≤ k) same rest.after;
      within = subst (λ k. k ≤ length bytes) same rest.within;
      is = rest.is ∙ ap (field_at bytes p) same;
    }

pub stop_is : (qs ps : List Place) (i len n stop : ℕ) → stop ≡ stop_of qs i len → qs ≡ ps → len ≡ n → stop ≡ stop_of ps i n
stop_is qs ps i len n stop is e f = is ∙ ap (λ rs. stop_of rs i len) e ∙ ap (stop_of ps i) f

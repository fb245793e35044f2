-- The part of a pick, and a text that has it.
use Rattle.std.proofs.Common.{◌≡◌, ℕ, ◌-◌, ◌≤◌, min, Bool, true, false, List, ◌++◌, length, take, drop, replicate}
use Rattle.std.proofs.Common.{Option, Some, None, refl, ap, sym, ◌∙◌, arith}
use Rattle.std.proofs.lemmas.List.{length-append, length-take, length-drop, length-replicate, take_all, take_min}
use Rattle.std.specs.Prelude.{cond, nat_le, ◌&&◌, ⊤}
use Rattle.std.proofs.lemmas.Bool.Decides.{nat_tests}
use Rattle.std.proofs.Math.Seq.{drop-append_seam, take-append_seam}
use Rattle.acng_grow.specs.Grown.{Grown, text_of}
use Rattle.acng_grow.specs.Follows.{end_at, part_of}
use Rattle.acng_grow.proofs.Fronts.{drop_take, take_take}
use Rattle.acng_reply.specs.declared.pick.Pick.{Pick}
use Rattle.acng_reply.specs.declared.pick.Pick.TheVariants.{Unmodified, NoPart, Section, All}
use Rattle.acng_request.specs.declared.got.Request.{Request}
use Rattle.acng_request.specs.declared.got.Part.{Part}
use Rattle.acng_grow.specs.declared.facts.Facts.{Facts}
use Rattle.acng_reply.specs.Picks.{range_of, part_of as part_in, both, by_range, stop_at, lawful_range, is_get, names_held}
use Rattle.acng_reply.specs.Picks.{IsPicked}

-- the asked part, as far as a text goes
pub same_part : (p : Pick) (text : List ℕ) → part_in p text ≡ part_of text (range_of p).0 (range_of p).1
same_part Unmodified text = let none : min 0 (length text) - 0 ≡ 0 = omega arith in ap (λ n. take n text) (sym none)
same_part (NoPart from total) text = let none : min 0 (length text) - 0 ≡ 0 = omega arith in ap (λ n. take n text) (sym none)
same_part (Section from stop total) text =
    let len = length-drop from text in
    let is : min (stop - from) (length (drop from text)) ≡ min stop (length text) - from = omega arith in
    sym (take_min (stop - from) (drop from text)) ∙ ap (λ n. take n (drop from text)) is
same_part All text = sym (take_all (length text - 0) text (omega arith))

end_le : (size : ℕ) (to : Option ℕ) → end_at size to ≤ size
end_le size None = omega arith
end_le size (Some t) = omega arith

-- a part between other bytes, in a text of this length
framed_part : (size from n : ℕ) (front part back : List ℕ) → length front ≡ from → length part ≡ n → length back ≡ size → n ≤ size - from
    → (length (take size (front ++ (part ++ back))) ≡ size) × (take n (drop from (take size (front ++ (part ++ back)))) ≡ part)
framed_part size from n front part back f p b few =
    let a = length-append front (part ++ back) in
    let c = length-append part back in
    let t = length-take size (front ++ (part ++ back)) in
    let len : length (take size (front ++ (part ++ back))) ≡ size = omega arith in
    let behind : drop from (front ++ (part ++ back)) ≡ part ++ back =
    ap (λ k. drop k (front ++ (part ++ back))) (sym f) ∙ drop-append_seam front (part ++ back) in
    let is : take n (drop from (take size (front ++ (part ++ back)))) ≡ part =
    ap (take n) (drop_take size from (front ++ (part ++ back)) ∙ ap (take (size - from)) behind)
    ∙ take_take n (size - from) (part ++ back) few
    ∙ ap (λ k. take k (part ++ back)) (sym p)
    ∙ take-append_seam part back in
    (len, is)

-- some text has a part of the right length
pub with_part : (size from : ℕ) (to : Option ℕ) (part : List ℕ) → length part ≡ end_at size to - from
    → (text : List ℕ) × (length text ≡ size) × (part_of text from to ≡ part)
with_part size from to part count =
    let few : end_at size to - from ≤ size - from = let e = end_le size to in omega arith in
    let w =
    framed_part size from (end_at size to - from) (replicate from 0) part (replicate size 0) (length-replicate from 0) count
    (length-replicate size 0) few in
    let text : List ℕ = take size (replicate from 0 ++ (part ++ replicate size 0)) in
    (text, w.0, ap (λ k. take (end_at k to - from) (drop from text)) w.0 ∙ w.1)

-- the body's own text where it tells, and else one that has the part
pub told_part : (tells : Bool) (g : Grown) (from : ℕ) (to : Option ℕ) (part : List ℕ) → length part ≡ end_at g.seen.size to - from
    → (tells ≡ true → part ≡ part_of (text_of g) from to) → (tells ≡ true → g.seen.size ≡ length (text_of g))
    → (text : List ℕ) × (length text ≡ g.seen.size) × (tells ≡ true → text ≡ text_of g) × (part_of text from to ≡ part)
told_part true g from to part count is size = (text_of g, sym (size refl), λ t. refl, sym (is refl))
told_part false g from to part count is size =
    let w = with_part g.seen.size from to part count in
    (w.0, w.1, λ t. absurd (cc), w.2)

-- the same where nothing is asked of it
pub told_text : (tells : Bool) (g : Grown) → (tells ≡ true → g.seen.size ≡ length (text_of g))
    → (text : List ℕ) × (length text ≡ g.seen.size) × (tells ≡ true → text ≡ text_of g)
told_text true g size = (text_of g, sym (size refl), λ t. refl)
told_text false g size = (replicate g.seen.size 0, length-replicate g.seen.size 0, λ t. absurd (cc))

-- ---- what a pick says of the facts

abbrev IsRange : Facts → Option (Part × ℕ) → Type 0
IsRange f None = ⊤
IsRange f (Some p) = f.total ≡ Some p.1

in_range : (f : Facts) (t : Option ℕ) → f.total ≡ t → (c : Bool) (o : Option Part) → IsRange f (cond c (both o t) None)
in_range f t is false o = tt
in_range f t is true None = tt
in_range f None is true (Some p) = tt
in_range f (Some n) is true (Some p) = is

stop_le : (total : ℕ) (to : Option ℕ) → stop_at total to ≤ total
stop_le total None = omega arith
stop_le total (Some last) = omega arith

in_file : (f : Facts) (from total : ℕ) (to : Option ℕ) → f.total ≡ Some total → (b : Bool) → nat_le total from ≡ b
    → IsPicked f (cond b (NoPart from total) (Section from (stop_at total to) total))
in_file f from total to is true past = record { known = is; past = grind (arith, nat_tests, past) }
in_file f from total to is false past = record {
  known = is;
  begins = grind (arith, nat_tests, past);
  inside = stop_le total to;
}

of_range : (f : Facts) (range : Option (Part × ℕ)) → IsRange f range → IsPicked f (by_range range)
of_range f None is = tt
of_range f (Some p) is = in_file f p.0.from p.1 p.0.to is (nat_le p.1 p.0.from) refl

-- the lawful range as it is picked
pub picked : (r : Request) (f : Facts) → IsPicked f (by_range (lawful_range r f))
picked r f = of_range f (lawful_range r f) (in_range f f.total refl (is_get r && names_held f r.if_range) r.part)

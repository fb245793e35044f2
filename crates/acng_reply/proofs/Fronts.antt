-- A front of a file has a front of each asked part.
use Rattle.std.proofs.Common.{◌≡◌, ◌≤◌, ℕ, ◌-◌, min, List, length, take, drop, refl, ap, sym, ◌∙◌, arith}
use Rattle.std.proofs.lemmas.Grind.{common_steps}
use Rattle.std.proofs.lemmas.List.{length-take, length-take-le, length-drop}
use Rattle.acng_site.specs.Honest.{IsFront}
use Rattle.acng_grow.proofs.Fronts.{take_take, front_trans, front_drop}
use Rattle.acng_reply.specs.declared.pick.Pick.{Pick}
use Rattle.acng_reply.specs.declared.pick.Pick.TheVariants.{Unmodified, NoPart, Section, All}
use Rattle.acng_reply.specs.Picks.{part_of}

-- a front by its own length
front_len : (n : ℕ) (xs : List ℕ) → IsFront xs (take n xs)
front_len n xs = grind (arith, common_steps)

front_take : (k : ℕ) (text file : List ℕ) → IsFront file text → IsFront (take k file) (take k text)
front_take k text file f =
    let n : length (take k text) ≡ min k (length text) = length-take k text in
    let le : length (take k text) ≤ k = omega arith in
    take_take (length (take k text)) k file le ∙ front_trans (take k text) text file (front_len k text) f

pub front_part : (p : Pick) (text file : List ℕ) → IsFront file text → IsFront (part_of p file) (part_of p text)
front_part Unmodified text file f = refl
front_part (NoPart from total) text file f = refl
front_part (Section from stop total) text file f =
    front_take (stop - from) (drop from text) (drop from file) (front_drop from text file f)
front_part All text file f = f

-- and of what is sent of it
pub front_sent : (p : Pick) (n : ℕ) (text file : List ℕ) → IsFront file text → IsFront (part_of p file) (take n (part_of p text))
front_sent p n text file f =
    front_trans (take n (part_of p text)) (part_of p text) (part_of p file) (front_len n (part_of p text)) (front_part p text file f)

-- a part that lies in the front is the file's
pub part_same : (from stop total : ℕ) (text file : List ℕ) → IsFront file text → stop ≤ length text
    → part_of (Section from stop total) text ≡ part_of (Section from stop total) file
part_same from stop total text file f le =
    let d = length-drop from text in
    let n : length (take (stop - from) (drop from text)) ≡ stop - from = length-take-le (stop - from) (drop from text) (omega arith) in
    sym (front_part (Section from stop total) text file f)
    ∙ ap (λ m. take m (take (stop - from) (drop from file))) n
    ∙ take_take (stop - from) (stop - from) (drop from file) (omega arith)

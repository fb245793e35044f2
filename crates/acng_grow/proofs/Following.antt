-- What a follower has sent of a body.
use mathlib.Core.Logic.{inl, inr}
use Rattle.std.proofs.Common.{◌≡◌, ◌⊎◌, ℕ, ◌+◌, ◌-◌, ◌≤◌, ◌<◌, Bool, true, false, List, [], ◌++◌, Option, None, Some, refl, sym}
use Rattle.std.proofs.Common.{ap, ◌∙◌, subst, take, drop, length}
use Rattle.std.proofs.Common.{arith, length-take, length-drop, length-append}
use Rattle.std.proofs.Math.Seq.{take-add}
use Rattle.std.specs.Io.KnownBytes.{Appends}
use Rattle.acng_keeper.specs.Slips.{Faults, Later}
use Rattle.acng_grow.specs.declared.sending.Sending.{Sending}
use Rattle.acng_grow.specs.Grown.{File, Grown, text_of, text_in}
use Rattle.acng_grow.specs.Takes.{Rests, LaterFile}
use Rattle.acng_grow.specs.Follows.{end_at, part_of}
use Rattle.acng_grow.specs.Sends.{Sends, Breaks, BreaksIn, BreaksAfter, HasGone, last_text}
use Rattle.acng_grow.proofs.Pieces.{Filled, fill, all_gone, broke_in, broke_after, in_part, whole_sent}

-- ---- a body that rests

later_trans : (a b c : Faults) → Later a b → Later b c → Later a c
later_trans a b c p q = record { count = omega (arith, p.count, q.count); may_fail = q.may_fail ∙ p.may_fail }

later_file : (f h k : Option File) → LaterFile f h → LaterFile h k → LaterFile f k
later_file None h k p q = subst (λ h. LaterFile h k → k ≡ None) (sym p) (λ e. e) q
later_file (Some f) None k p q = absurd p
later_file (Some f) (Some h) None p q = absurd q
later_file (Some f) (Some h) (Some k) p q = (q.0 ∙ p.0, later_trans f.1 h.1 k.1 p.1 q.1)

pub rests_trans : (a b c : Grown) → Rests a b → Rests b c → Rests a c
rests_trans a b c p q =
    record { path = q.path ∙ p.path; seen = q.seen ∙ p.seen; file = later_file a.file b.file c.file p.file q.file }

rests_file : (f h : Option File) → LaterFile f h → text_in h ≡ text_in f
rests_file None h l = ap text_in l
rests_file (Some f) None l = absurd l
rests_file (Some f) (Some h) l = ap (λ k. k.bytes) l.0

pub rests_text : (g h : Grown) → Rests g h → text_of h ≡ text_of g
rests_text g h r = rests_file g.file h.file r.file

-- ---- the asked part

end_le : (size : ℕ) (to : Option ℕ) → end_at size to ≤ size
end_le size None = omega arith
end_le size (Some t) = omega arith

pub part_len : (text : List ℕ) (from : ℕ) (to : Option ℕ) → length (part_of text from to) ≡ end_at (length text) to - from
part_len text from to =
    let a = length-take (end_at (length text) to - from) (drop from text) in
    let b = length-drop from text in
    let c = end_le (length text) to in
    omega (arith, a, b, c)

-- how long it is, by the size that is known
pub part_most : (text : List ℕ) (from size most : ℕ) (to : Option ℕ) → most ≡ end_at size to - from → size ≡ length text
    → length (part_of text from to) ≡ most
part_most text from size most to is same = part_len text from to ∙ ap (λ n. end_at n to - from) (sym same) ∙ sym is

-- a piece that was taken stands in it
pub piece_stands : (text read_of buf : List ℕ) (from size most sent n : ℕ) (to : Option ℕ) → most ≡ end_at size to - from
    → size ≡ length text
    → read_of ≡ text → take n buf ≡ take n (drop (from + sent) read_of) → length (take n buf) ≡ n → sent + n ≤ most
    → take (length (take n buf)) (drop sent (part_of text from to)) ≡ take n buf
piece_stands text read_of buf from size most sent n to is same rests read len within =
    let e : most ≡ end_at (length text) to - from = is ∙ ap (λ k. end_at k to - from) same in
    let within' : sent + n ≤ end_at (length text) to - from = omega (arith, e, within) in
    in_part text buf from (end_at (length text) to - from) sent n (read ∙ ap (λ t. take n (drop (from + sent) t)) rests) len within'

-- ---- ends

told_or : (b : Bool) → (b ≡ true) ⊎ (b ≡ true → ⊥)
told_or true = inl refl
told_or false = inr (λ e. cc)

-- what went out, as a front of some whole part
pub filled : (b : Bool) (sending : Sending) (part : List ℕ) (sent most : ℕ) (w0 w1 : Option (List ℕ))
    → (had : HasGone sending (b ≡ true) part sent w0 w1)
    → (b ≡ true → length part ≡ most) → sent ≤ most → Filled (b ≡ true) part had.bytes most
filled b sending part sent most w0 w1 had long few =
    fill (b ≡ true) part had.bytes most (told_or b) long (λ t. had.front t ∙ ap (λ n. take n part) (sym had.count))
    (subst (λ n. n ≤ most) (sym had.count) few)

-- the link failed in a piece more
pub piece_broke : (b : Bool) (sending : Sending) (part piece : List ℕ) (sent taken most : ℕ) (w0 w1 w2 : Option (List ℕ))
    → (had : HasGone sending (b ≡ true) part sent w0 w1) → 0 < length piece → (b ≡ true → take (length piece) (drop sent part) ≡ piece)
    → (b ≡ true → length part ≡ most) → sent + length piece ≤ most → Breaks sending piece taken w1 w2
    → (f : Filled (b ≡ true) part (had.bytes ++ piece) most) × BreaksIn sending f.whole (sent + taken) w0 w2
piece_broke b sending part piece sent taken most w0 w1 w2 had some stands long few broke =
    let l = length-append had.bytes piece in
    let count = had.count in
    let low : length (had.bytes ++ piece) ≤ most = omega (arith, l, count, few) in
    let sum : length (had.bytes ++ piece) ≡ sent + length piece = omega (arith, l, count) in
    let front : b ≡ true → had.bytes ++ piece ≡ take (length (had.bytes ++ piece)) part =
    λ t. sym (ap (λ n. take n part) sum
    ∙ take-add sent (length piece) part
    ∙ ap (λ p. take sent part ++ p) (stands t)
    ∙ ap (λ x. x ++ piece) (sym (had.front t))) in
    let f = fill (b ≡ true) part (had.bytes ++ piece) most (told_or b) long front low in
    (f, broke_in sending (b ≡ true) part piece sent taken most w0 w1 w2 had f some few broke)

-- a slip of the body: what went out is a front
pub slip_sent : (b : Bool) (sending : Sending) (part : List ℕ) (sent most : ℕ) (w0 w1 : Option (List ℕ))
    → (had : HasGone sending (b ≡ true) part sent w0 w1) → (f : Filled (b ≡ true) part had.bytes most) → sent ≤ most
    → (sent ≤ length f.whole) × Sends sending (take sent f.whole) [] w0 w1
slip_sent b sending part sent most w0 w1 had f few = (
  subst (λ n. sent ≤ n) (sym f.count) few,
  subst (λ t. Sends sending t [] w0 w1) (sym f.front ∙ ap (λ n. take n f.whole) had.count) had.sends,
)

-- all of it went out, and an end, or a front of what follows it
pub all_sent : (b : Bool) (sending : Sending) (part end : List ℕ) (sent most : ℕ) (w0 w1 w2 : Option (List ℕ))
    → (had : HasGone sending (b ≡ true) part sent w0 w1) → (f : Filled (b ≡ true) part had.bytes most) → sent ≡ most → Appends w1 w2 end
    → (sent ≡ length f.whole) × Sends sending f.whole end w0 w2
all_sent b sending part end sent most w0 w1 w2 had f all came = (
  all ∙ sym f.count,
  whole_sent sending f.whole had.bytes end w0 w1 w2 (all_gone (b ≡ true) part had.bytes most f (had.count ∙ all)) had.sends came,
)

pub last_broke : (b : Bool) (sending : Sending) (part : List ℕ) (sent most k : ℕ) (w0 w1 w2 : Option (List ℕ))
    → (had : HasGone sending (b ≡ true) part sent w0 w1) → (f : Filled (b ≡ true) part had.bytes most) → sent ≡ most
    → Appends w1 w2 (take k (last_text sending)) → BreaksAfter sending f.whole sent w0 w2
last_broke b sending part sent most k w0 w1 w2 had f all came =
    broke_after sending f.whole had.bytes sent k w0 w1 w2 (all_gone (b ≡ true) part had.bytes most f (had.count ∙ all)) had.count
    had.sends came

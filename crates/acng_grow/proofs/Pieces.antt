-- What went out of a text that is sent in pieces.
use mathlib.Core.Logic.{inl, inr}
use Rattle.std.proofs.Common.{◌≡◌, ◌⊎◌, ℕ, ◌+◌, ◌-◌, ◌≤◌, ◌<◌, List, [], ◌∷◌, ◌++◌, Option, sym, ap, ◌∙◌, subst, refl, take, drop, length}
use Rattle.std.proofs.Common.{arith, min, length-append, append-nil, replicate}
use Rattle.std.specs.List.{concat}
use Rattle.std.proofs.Math.Seq.{take-add, take-length, drop-append_seam, take-append_seam}
use Rattle.std.proofs.lemmas.List.{append_assoc, length-replicate, drop-take}
use Rattle.std.proofs.lemmas.List.Folds.{concat-append}
use Rattle.std.proofs.KnownBytes.{Appends-nil, Appends-trans}
use Rattle.std.specs.Io.KnownBytes.{Appends}
use Rattle.acng_grow.proofs.Fronts.{take_take, drop_take, drop_drop}
use Rattle.acng_grow.specs.declared.sending.Sending.{Sending}
use Rattle.acng_grow.specs.declared.sending.Sending.TheVariants.{Length, Chunked, ToEnd}
use Rattle.acng_grow.specs.Sends.{AreSome, piece_text, framed, Sends, Breaks, BreaksIn, BreaksAfter, HasGone, last_text, size_line, chunk}

-- ---- pieces in order

framed_more : (sending : Sending) (ps : List (List ℕ)) (p : List ℕ)
    → framed sending (ps ++ p ∷ []) ≡ framed sending ps ++ piece_text sending p
framed_more sending [] p = append-nil (piece_text sending p)
framed_more sending (q ∷ ps) p =
    ap (λ t. piece_text sending q ++ t) (framed_more sending ps p)
    ∙ sym (append_assoc (piece_text sending q) (framed sending ps) (piece_text sending p))

some_more : (ps : List (List ℕ)) (p : List ℕ) → AreSome ps → 0 < length p → AreSome (ps ++ p ∷ [])
some_more [] p i some = (some, tt)
some_more (q ∷ ps) p i some = (i.0, some_more ps p i.1 some)

-- nothing was sent
sends_none : (sending : Sending) (w : Option (List ℕ)) → Sends sending [] [] w w
sends_none sending w = record { pieces = []; some = tt; cut = refl; bytes = Appends-nil w }

-- a piece more
sends_more : (sending : Sending) (text piece : List ℕ) (w0 w1 w2 : Option (List ℕ)) → Sends sending text [] w0 w1 → 0 < length piece
    → Appends w1 w2 (piece_text sending piece) → Sends sending (text ++ piece) [] w0 w2
sends_more sending text piece w0 w1 w2 s some came =
    let had : Appends w0 w1 (framed sending s.pieces) = subst (Appends w0 w1) (append-nil (framed sending s.pieces)) s.bytes in
    let all : Appends w0 w2 (framed sending s.pieces ++ piece_text sending piece) =
    Appends-trans w0 w1 w2 (framed sending s.pieces) (piece_text sending piece) had came in
    record {
      pieces = s.pieces ++ piece ∷ [];
      some = some_more s.pieces piece s.some some;
      cut = concat-append s.pieces (piece ∷ []) ∙ ap (λ t. t ++ concat (piece ∷ [])) s.cut ∙ ap (λ t. text ++ t) (append-nil piece);
      bytes = subst (Appends w0 w2) (sym (append-nil (framed sending (s.pieces ++ piece ∷ [])) ∙ framed_more sending s.pieces piece)) all;
    }

-- and an end
sends_end : (sending : Sending) (text end : List ℕ) (w0 w1 w2 : Option (List ℕ)) → Sends sending text [] w0 w1 → Appends w1 w2 end
    → Sends sending text end w0 w2
sends_end sending text end w0 w1 w2 s came = record {
  pieces = s.pieces;
  some = s.some;
  cut = s.cut;
  bytes = Appends-trans w0 w1 w2 (framed sending s.pieces) end (subst (Appends w0 w1) (append-nil (framed sending s.pieces)) s.bytes)
      came;
}

-- ---- the asked part

-- a piece of a text stands in the part of it that begins at a place, where it ends there
pub in_part : (text buf : List ℕ) (from e sent n : ℕ) → take n buf ≡ take n (drop (from + sent) text) → length (take n buf) ≡ n
    → sent + n ≤ e
    → take (length (take n buf)) (drop sent (take e (drop from text))) ≡ take n buf
in_part text buf from e sent n read len within =
    let few : n ≤ e - sent = omega arith in
    ap (λ k. take k (drop sent (take e (drop from text)))) len
    ∙ ap (take n) (drop_take e sent (drop from text))
    ∙ take_take n (e - sent) (drop sent (drop from text)) few
    ∙ ap (take n) (drop_drop from sent text)
    ∙ sym read

-- ---- what has gone

pub gone_none : (sending : Sending) (told : Type 0) (part : List ℕ) (w : Option (List ℕ)) → HasGone sending told part 0 w w
gone_none sending told part w = record { bytes = []; count = refl; front = λ t. refl; sends = sends_none sending w }

pub gone_more : (sending : Sending) (told : Type 0) (part piece : List ℕ) (sent : ℕ) (w0 w1 w2 : Option (List ℕ))
    → HasGone sending told part sent w0 w1
    → 0 < length piece → (told → take (length piece) (drop sent part) ≡ piece) → Appends w1 w2 (piece_text sending piece)
    → HasGone sending told part (sent + length piece) w0 w2
gone_more sending told part piece sent w0 w1 w2 had some stands came = record {
  bytes = had.bytes ++ piece;
  count = length-append had.bytes piece ∙ ap (λ n. n + length piece) had.count;
  front = λ t. sym (take-add sent (length piece) part ∙ ap (λ p. take sent part ++ p) (stands t) ∙ ap (λ b. b ++ piece) (sym
      (had.front t)));
  sends = sends_more sending had.bytes piece w0 w1 w2 had.sends some came;
}

-- ---- some part of the counted length, which is the told one where it is told

pub record Filled (told : Type 0) (part bytes : List ℕ) (most : ℕ) : Type 0 where
  pub whole : List ℕ
  pub count : length whole ≡ most
  pub is : told → whole ≡ part
  pub front : take (length bytes) whole ≡ bytes

pub fill : (told : Type 0) (part bytes : List ℕ) (most : ℕ) → told ⊎ (told → ⊥) → (told → length part ≡ most) → (told
    → bytes ≡ take (length bytes) part)
    → length bytes ≤ most → Filled told part bytes most
fill told part bytes most (inl t) long front few = record { whole = part; count = long t; is = λ _. refl; front = sym (front t) }
fill told part bytes most (inr n) long front few =
    let pad : List ℕ = replicate (most - length bytes) 0 in
    let l = length-append bytes pad in
    let p = length-replicate {A = ℕ} (most - length bytes) 0 in
    record { whole = bytes ++ pad; count = omega (arith, l, p, few); is = λ t. absurd (n t); front = take-append_seam bytes pad }

-- all of it has gone
pub all_gone : (told : Type 0) (part bytes : List ℕ) (most : ℕ) → (f : Filled told part bytes most) → length bytes ≡ most
    → bytes ≡ f.whole
all_gone told part bytes most f all = sym f.front ∙ ap (λ n. take n f.whole) (all ∙ sym f.count) ∙ take-length f.whole

-- what stands behind a front
behind : (a piece whole : List ℕ) → take (length (a ++ piece)) whole ≡ a ++ piece → take (length piece) (drop (length a) whole) ≡ piece
behind a piece whole front =
    let l = length-append a piece in
    let d = drop-take (length a) (length piece) whole in
    sym d ∙ ap (λ n. drop (length a) (take n whole)) (sym l) ∙ ap (drop (length a)) front ∙ drop-append_seam a piece

before : (a piece whole : List ℕ) → take (length (a ++ piece)) whole ≡ a ++ piece → take (length a) whole ≡ a
before a piece whole front =
    let l = length-append a piece in
    let few : length a ≤ length (a ++ piece) = omega (arith, l) in
    sym (take_take (length a) (length (a ++ piece)) whole few) ∙ ap (take (length a)) front ∙ take-append_seam a piece

-- the link failed in a piece
pub broke_in : (sending : Sending) (told : Type 0) (part piece : List ℕ) (sent taken most : ℕ) (w0 w1 w2 : Option (List ℕ))
    → (had : HasGone sending told part sent w0 w1) → (f : Filled told part (had.bytes ++ piece) most) → 0 < length piece
    → sent + length piece ≤ most
    → Breaks sending piece taken w1 w2 → BreaksIn sending f.whole (sent + taken) w0 w2
broke_in sending told part piece sent taken most w0 w1 w2 had f some few broke = record {
  mid = w1;
  piece = piece;
  before = sent;
  taken = taken;
  some = some;
  few = subst (λ n. sent + length piece ≤ n) (sym f.count) few;
  stands = subst (λ n. take (length piece) (drop n f.whole) ≡ piece) had.count (behind had.bytes piece f.whole f.front);
  sends = subst (λ t. Sends sending t [] w0 w1)
      (sym (before had.bytes piece f.whole f.front) ∙ ap (λ n. take n f.whole) had.count) had.sends;
  breaks = broke;
  count = refl;
}

-- the link failed behind the whole part
pub broke_after : (sending : Sending) (whole bytes : List ℕ) (sent k : ℕ) (w0 w1 w2 : Option (List ℕ)) → bytes ≡ whole
    → length bytes ≡ sent
    → Sends sending bytes [] w0 w1 → Appends w1 w2 (take k (last_text sending)) → BreaksAfter sending whole sent w0 w2
broke_after sending whole bytes sent k w0 w1 w2 is count s came = record {
  k = k;
  sends = subst (λ t. Sends sending t (take k (last_text sending)) w0 w2) is (sends_end sending bytes (take k (last_text sending)) w0
      w1 w2 s came);
  count = sym count ∙ ap length is;
}

-- the whole part and an end went out
pub whole_sent : (sending : Sending) (whole bytes end : List ℕ) (w0 w1 w2 : Option (List ℕ)) → bytes ≡ whole
    → Sends sending bytes [] w0 w1
    → Appends w1 w2 end → Sends sending whole end w0 w2
whole_sent sending whole bytes end w0 w1 w2 is s came =
    subst (λ t. Sends sending t end w0 w2) is (sends_end sending bytes end w0 w1 w2 s came)

-- ---- one piece

pub plain_broke : (sending : Sending) (piece : List ℕ) (k : ℕ) (w0 w1 : Option (List ℕ)) → (sending ≡ Length) ⊎ (sending ≡ ToEnd)
    → k ≤ length piece
    → Appends w0 w1 (take k piece) → Breaks sending piece k w0 w1
plain_broke Length piece k w0 w1 is few came = record { k = k; bytes = came; count = omega arith }
plain_broke Chunked piece k w0 w1 (inl e) few came = cc
plain_broke Chunked piece k w0 w1 (inr e) few came = cc
plain_broke ToEnd piece k w0 w1 is few came = record { k = k; bytes = came; count = omega arith }

pub chunk_len : (piece : List ℕ) → length (chunk piece) ≡ length (size_line (length piece)) + (length piece + 2)
chunk_len piece =
    length-append (size_line (length piece)) (piece ++ 13 ∷ 10 ∷ [])
    ∙ ap (λ n. length (size_line (length piece)) + n) (length-append piece (13 ∷ 10 ∷ []))

-- a chunk of which a front went out
pub chunk_broke : (piece text : List ℕ) (k start count taken : ℕ) (w0 w1 : Option (List ℕ)) → text ≡ chunk piece → length piece ≡ count
    → length (size_line count) ≡ 18 - start → taken ≡ min (k - (18 - start)) count → Appends w0 w1 (take k text)
    → Breaks Chunked piece taken w0 w1
chunk_broke piece text k start count taken w0 w1 is len line all came = record {
  k = k;
  bytes = subst (λ t. Appends w0 w1 (take k t)) is came;
  count = subst (λ n. taken ≡ min (k - length (size_line n)) n) (sym len) (subst (λ n. taken ≡ min (k - n) count) (sym line) all);
}

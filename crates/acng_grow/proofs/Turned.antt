-- What a follower through a lock has sent of a file's part.
use Rattle.std.proofs.Common.{◌≡◌, ℕ, ◌+◌, ◌-◌, ◌≤◌, ◌<◌, Bool, true, false, List, [], take, drop, length, Option, None, Some}
use Rattle.std.proofs.Common.{IfSome, IsSomeAnd, refl, sym, ap, ◌∙◌, subst, arith, length-take, length-drop}
use Rattle.std.specs.Io.KnownBytes.{Appends}
use Rattle.acng_head.specs.declared.head.Label.{Label}
use Rattle.acng_head.specs.declared.head.Label.TheVariants.{Fetched, Imported}
use Rattle.acng_grow.specs.declared.asked.Asked.{Asked}
use Rattle.acng_grow.specs.declared.sending.Sending.{Sending}
use Rattle.acng_grow.specs.Follows.{end_at, part_of}
use Rattle.acng_grow.specs.Sends.{Sends, Breaks, BreaksIn, BreaksAfter, HasGone, piece_text, last_text}
use Rattle.acng_grow.specs.Turns.{BytesStand, IsLabelOf, IsPast}
use Rattle.acng_grow.proofs.Pieces.{gone_more, in_part}
use Rattle.acng_grow.proofs.Following.{filled, piece_broke, slip_sent, all_sent, last_broke, part_len}

-- ---- the pieces

pub piece_len : (frame : List ℕ) (n : ℕ) → 20 + n ≤ length frame → length (take n (drop 18 frame)) ≡ n
piece_len frame n room =
    let l = length-take n (drop 18 frame) in
    let d = length-drop 18 frame in
    omega (arith, l, d, room)

-- bytes that are found lie in the file
inside : (file piece : List ℕ) (place n : ℕ) → length piece ≡ n → 0 < n → piece ≡ take n (drop place file) → place + n ≤ length file
inside file piece place n len some is =
    let l = length-take n (drop place file) in
    let d = length-drop place file in
    let e = ap length is in
    omega (arith, l, d, e, len, some)

-- and before the end of the part
ends_in : (len from place n : ℕ) (to : Option ℕ) → place + n ≤ len → IfSome to (λ t. place + n ≤ t) → from ≤ place
    → (place - from) + n ≤ end_at len to - from
ends_in len from place n None inside within low = omega arith
ends_in len from place n (Some t) inside within low = omega arith

-- a piece that was found stands in the part
pub piece_found : (told : Type 0) (file frame : List ℕ) (from place n : ℕ) (to : Option ℕ) → BytesStand told file place to frame n
    → from ≤ place
    → told → take (length (take n (drop 18 frame))) (drop (place - from) (part_of file from to)) ≡ take n (drop 18 frame)
piece_found told file frame from place n to b low t =
    let buf = drop 18 frame in
    let len = piece_len frame n b.room in
    let at : place ≡ from + (place - from) = omega arith in
    let is = b.bytes t in
    in_part file buf from (end_at (length file) to - from) (place - from) n (is ∙ ap (λ k. take n (drop k file)) at) len
    (ends_in (length file) from place n to (inside file (take n buf) place n len b.some is) b.within low)

-- ---- how long the part is taken to be: where it isn't told, it is what was sent

abbrev most_of : Bool → List ℕ → ℕ → ℕ
most_of true part sent = length part
most_of false part sent = sent

most_told : (b : Bool) (part : List ℕ) (sent : ℕ) → b ≡ true → length part ≡ most_of b part sent
most_told true part sent e = refl
most_told false part sent e = cc

most_few : (b : Bool) (part : List ℕ) (sent : ℕ) → (b ≡ true → sent ≤ length part) → sent ≤ most_of b part sent
most_few true part sent few = few refl
most_few false part sent few = omega arith

most_all : (b : Bool) (part : List ℕ) (sent : ℕ) → (b ≡ true → sent ≡ length part) → sent ≡ most_of b part sent
most_all true part sent all = all refl
most_all false part sent all = refl

-- what has gone is no longer than the part
gone_few : (b : Bool) (sending : Sending) (part : List ℕ) (sent : ℕ) (w0 w1 : Option (List ℕ)) → HasGone sending (b ≡ true) part sent w0 w1
    → b ≡ true → sent ≤ length part
gone_few b sending part sent w0 w1 had t =
    let l = length-take sent part in
    let e = ap length (had.front t) in
    let c = had.count in
    omega (arith, l, e, c)

-- ---- ends

-- a front of some part went out, which is the told one where it is told
pub record SentFront (told : Type 0) (sending : Sending) (part : List ℕ) (sent : ℕ) (old new : Option (List ℕ)) : Type 0 where
  pub whole : List ℕ
  pub is : told → whole ≡ part
  pub few : sent ≤ length whole
  pub sends : Sends sending (take sent whole) [] old new

pub front_sent : (b : Bool) (sending : Sending) (part : List ℕ) (sent : ℕ) (w0 w1 : Option (List ℕ))
    → HasGone sending (b ≡ true) part sent w0 w1
    → SentFront (b ≡ true) sending part sent w0 w1
front_sent b sending part sent w0 w1 had =
    let most = most_of b part sent in
    let few = most_few b part sent (gone_few b sending part sent w0 w1 had) in
    let f = filled b sending part sent most w0 w1 had (most_told b part sent) few in
    let s = slip_sent b sending part sent most w0 w1 had f few in
    record { whole = f.whole; is = f.is; few = s.0; sends = s.1 }

-- all of it went out, and an end
pub record SentAll (told : Type 0) (sending : Sending) (part end : List ℕ) (sent : ℕ) (old new : Option (List ℕ)) : Type 0 where
  pub whole : List ℕ
  pub is : told → whole ≡ part
  pub all : sent ≡ length whole
  pub sends : Sends sending whole end old new

-- nothing is left of the part
past_all : (file : List ℕ) (from place : ℕ) (to : Option ℕ) → end_at (length file) to ≤ place
    → place - from ≤ length (part_of file from to)
    → place - from ≡ length (part_of file from to)
past_all file from place to past few = let l = part_len file from to in omega (arith, l, past, few)

pub whole_sent : (b : Bool) (sending : Sending) (file end : List ℕ) (from place : ℕ) (to : Option ℕ) (w0 w1 w2 : Option (List ℕ))
    → HasGone sending (b ≡ true) (part_of file from to) (place - from) w0 w1
    → IsPast (b ≡ true) file place to → Appends w1 w2 end
    → SentAll (b ≡ true) sending (part_of file from to) end (place - from) w0 w2
whole_sent b sending file end from place to w0 w1 w2 had past came =
    let part = part_of file from to in
    let sent = place - from in
    let most = most_of b part sent in
    let gone = gone_few b sending part sent w0 w1 had in
    let all = most_all b part sent (λ t. past_all file from place to (past.known t) (gone t)) in
    let f = filled b sending part sent most w0 w1 had (most_told b part sent) (most_few b part sent gone) in
    let s = all_sent b sending part end sent most w0 w1 w2 had f all came in
    record { whole = f.whole; is = f.is; all = s.0; sends = s.1 }

-- the link failed, with so many bytes of some part taken
pub record SentBroken (told : Type 0) (part : List ℕ) (P : List ℕ → Type 0) : Type 0 where
  pub whole : List ℕ
  pub is : told → whole ≡ part
  pub broke : P whole

-- the link failed in a piece more
pub broke_in_piece : (b : Bool) (sending : Sending) (file frame : List ℕ) (from place n taken : ℕ) (to : Option ℕ)
    (w0 w1 w2 : Option (List ℕ)) → BytesStand (b ≡ true) file place to frame n
    → from ≤ place → HasGone sending (b ≡ true) (part_of file from to) (place - from) w0 w1
    → Breaks sending (take n (drop 18 frame)) taken w1 w2
    → SentBroken (b ≡ true) (part_of file from to) (λ q. BreaksIn sending q ((place - from) + taken) w0 w2)
broke_in_piece b sending file frame from place n taken to w0 w1 w2 found low had broke =
    let part = part_of file from to in
    let sent = place - from in
    let piece = take n (drop 18 frame) in
    let len = piece_len frame n found.room in
    let most = most_of b part (sent + length piece) in
    let stands = piece_found (b ≡ true) file frame from place n to found low in
    let fits = λ (t : b ≡ true).
    let l = length-take (length piece) (drop sent part) in
    let d = length-drop sent part in
    let e = ap length (stands t) in
    let s = found.some in
    let few : sent + length piece ≤ length part = omega (arith, l, d, e, s, len) in few in
    let r = piece_broke b sending part piece sent taken most w0 w1 w2 had (subst (λ k. 0 < k) (sym len) found.some) stands
    (most_told b part (sent + length piece)) (most_few b part (sent + length piece) fits) broke in
    record { whole = r.0.whole; is = r.0.is; broke = r.1 }

-- the link failed behind the whole part
pub broke_behind : (b : Bool) (sending : Sending) (file : List ℕ) (from place k : ℕ) (to : Option ℕ) (w0 w1 w2 : Option (List ℕ))
    → HasGone sending (b ≡ true) (part_of file from to) (place - from) w0 w1
    → IsPast (b ≡ true) file place to → Appends w1 w2 (take k (last_text sending))
    → SentBroken (b ≡ true) (part_of file from to) (λ q. BreaksAfter sending q (place - from) w0 w2)
broke_behind b sending file from place k to w0 w1 w2 had past came =
    let part = part_of file from to in
    let sent = place - from in
    let most = most_of b part sent in
    let gone = gone_few b sending part sent w0 w1 had in
    let all = most_all b part sent (λ t. past_all file from place to (past.known t) (gone t)) in
    let f = filled b sending part sent most w0 w1 had (most_told b part sent) (most_few b part sent gone) in
    record { whole = f.whole; is = f.is; broke = last_broke b sending part sent most k w0 w1 w2 had f all came }

-- a piece more went out
pub more_gone : (b : Bool) (sending : Sending) (file frame : List ℕ) (from place n taken : ℕ) (to : Option ℕ) (w0 w1 w2 : Option (List ℕ))
    → BytesStand (b ≡ true) file place to frame n → from ≤ place → taken ≡ n
    → HasGone sending (b ≡ true) (part_of file from to) (place - from) w0 w1
    → Appends w1 w2 (piece_text sending (take n (drop 18 frame)))
    → HasGone sending (b ≡ true) (part_of file from to) ((place + taken) - from) w0 w2
more_gone b sending file frame from place n taken to w0 w1 w2 found low all had came =
    let part = part_of file from to in
    let piece = take n (drop 18 frame) in
    let len = piece_len frame n found.room in
    let gone = gone_more sending (b ≡ true) part piece (place - from) w0 w1 w2 had (subst (λ k. 0 < k) (sym len) found.some)
    (piece_found (b ≡ true) file frame from place n to found low) came in
    let same : (place - from) + length piece ≡ (place + taken) - from = omega (arith, len, all, low) in
    subst (λ k. HasGone sending (b ≡ true) part k w0 w2) same gone

-- ---- the asked end

pub sent_within : (from place n : ℕ) (to : Option ℕ) → from ≤ place → IfSome to (λ t. place + n ≤ t)
    → IfSome to (λ t. (place + n) - from ≤ t - from)
sent_within from place n None low within = tt
sent_within from place n (Some t) low within = omega (arith, within, low)

pub sent_to_end : (from place : ℕ) (to : Option ℕ) → from ≤ place → IfSome to (λ t. place - from ≤ t - from)
    → IfSome to (λ t. t ≤ place)
    → IfSome to (λ t. place - from ≡ t - from)
sent_to_end from place None low few past = tt
sent_to_end from place (Some t) low few past = omega (arith, few, past, low)

pub sent_some : (from place taken n : ℕ) (to : Option ℕ) → from ≤ place → taken ≤ n → IfSome to (λ t. place + n ≤ t)
    → IfSome to (λ t. (place + taken) - from ≤ t - from)
sent_some from place taken n None low few within = tt
sent_some from place taken n (Some t) low few within = omega (arith, within, few, low)

-- the place is where the sending got to
pub short_of : (from place : ℕ) (to : Option ℕ) → from ≤ place → IfSome to (λ t. place < t) → IfSome to (λ t. from + (place - from) < t)
short_of from place None low short = tt
short_of from place (Some t) low short = omega (arith, short, low)

pub sent_none : (from : ℕ) (to : Option ℕ) → IfSome to (λ t. from - from ≤ t - from)
sent_none from None = tt
sent_none from (Some t) = omega arith

-- ---- the label

-- a label with the same first attempt, whatever the last one of the given label
pub any_last : (asked : Asked) (first last : ℕ) (found : Option Label) → IsSomeAnd found (IsLabelOf asked (Fetched first first))
    → IsSomeAnd found (IsLabelOf asked (Fetched first last))
any_last asked first last None i = i
any_last asked first last (Some (Fetched n m)) i = record { first = i.first; agrees = i.agrees }
any_last asked first last (Some (Imported hash size)) i = record { first = i.first; agrees = i.agrees }

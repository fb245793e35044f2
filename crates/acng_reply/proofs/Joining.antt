-- Replies whose body is followed through its lock.
use mathlib.Core.Logic.{inl, inr}
use Rattle.std.proofs.Common.{◌≡◌, ◌⊎◌, ℕ, zero, suc, ◌+◌, ◌-◌, ◌≤◌, min, Bool, true, false, List, [], ◌∷◌, ◌++◌, length, take, drop, replicate}
use Rattle.std.proofs.Common.{Option, Some, None, Result, Ok, Err, IfSome, OnOk, OnErr, refl, ap, sym, ◌∙◌, subst, append-nil, arith}
use Rattle.std.proofs.lemmas.List.{length-append, length-take, length-replicate, take_all}
use Rattle.std.specs.Prelude.{cond}
use Rattle.std.specs.List.{concat}
use Rattle.std.specs.Io.KnownBytes.{Appends}
use Rattle.std.proofs.KnownBytes.{Appends-trans}
use Rattle.acng_base.specs.Causes.{Rose}
use Rattle.acng_site.specs.declared.site.Site.{Ghosts as SiteGhosts}
use Rattle.acng_head.specs.declared.head.Label.{Label}
use Rattle.acng_grow.specs.declared.asked.Asked.{Asked}
use Rattle.acng_grow.specs.declared.facts.Facts.{Facts}
use Rattle.acng_grow.specs.declared.sending.Sending.{Sending}
use Rattle.acng_grow.specs.declared.sending.Sending.TheVariants.{Length}
use Rattle.acng_grow.specs.declared.owned.FollowStop.{FollowStop}
use Rattle.acng_grow.specs.declared.owned.FollowStop.TheVariants as stop
use Rattle.acng_grow.specs.declared.owned.Followed.{Followed}
use Rattle.acng_grow.specs.Follows.{FaultRose, part_of as part_in}
use Rattle.acng_grow.specs.Sends.{Sends, BreaksIn, BreaksAfter, framed, last_text}
use Rattle.acng_grow.specs.Turns.{FollowsFile, EndStands, Reaches}
use Rattle.acng_reply.specs.declared.line.Line.TheVariants as line
use Rattle.acng_reply.specs.declared.manner.Manner.{Manner}
use Rattle.acng_reply.specs.declared.pick.Pick.{Pick}
use Rattle.acng_reply.specs.declared.pick.Pick.TheVariants.{Unmodified, NoPart, Section, All}
use Rattle.acng_reply.specs.Heads.{file_head, sending_of}
use Rattle.acng_reply.specs.Joined.{EndsAs, FollowsPart, IsKnown, OnWhole, range_in}
use Rattle.acng_reply.specs.Parted.{has_part, is_alone, stop_of}
use Rattle.acng_reply.specs.Picks.{IsPicked, range_of}
use Rattle.acng_reply.specs.Replies.{Reply, Sent, WroteAll, WroteFront, HeadWent, HeadBroke, file_reply, line_reply}
use Rattle.acng_reply.proofs.Brokens.{broke_front}
use Rattle.acng_reply.proofs.Parting.{broken_head, broken_in, broken_after, through_all, wrote}
use Rattle.acng_reply.proofs.Parts.{with_part}
use Rattle.acng_reply.proofs.Sending.{alone_is, followed, line_is, part_is, reply_by}
use Rattle.acng_reply.proofs.Texts.{head_all, head_front, one, one_cut, one_framed, one_some, plain}

-- ---- texts

-- the file where it is told, and else one of the length that is known
pub text_of : (told : Bool) (f : Facts) (file : List ℕ) → IsKnown told f file
    → (text : List ℕ) × (told ≡ true → text ≡ file) × IfSome f.total (λ n. length text ≡ n)
text_of true f file known = (file, λ t. refl, known refl)
text_of false f file known = by_total f.total
  where
    by_total : (t : Option ℕ) → (text : List ℕ) × (false ≡ true → text ≡ file) × IfSome t (λ n. length text ≡ n)
    by_total None = ([], λ e. absurd (cc), tt)
    by_total (Some n) = (replicate n 0, λ e. absurd (cc), length-replicate n 0)

on_whole : {T E : Type 0} (Q : Type 0) (o : Result T E) (A : Type 0) → A → OnWhole {Q = Q} (stop_of o) A
on_whole Q (Ok x) A a = a
on_whole Q (Err e) A a = tt

-- ---- texts at hand

ended : {T E : Type 0} (Q : Type 0) (r : Reply) (io : Sent) (sent : ℕ) (o : Result T E) → OnOk o (WroteAll r io)
    → OnOk o (sent ≡ length r.body) → OnErr o (WroteFront r sent io) → EndsAs {Q = Q} r io sent (stop_of o)
ended Q r io sent (Ok x) all size front = (size, all)
ended Q r io sent (Err e) all size front = front

-- the line of a range that lies behind the file
pub lined : {T E : Type 0} (Q : Type 0) (m : Manner) (from total : ℕ) (f : Facts) (label : Label) (io : Sent) (sent : ℕ) (o : Result T E)
    → OnOk o (WroteAll (line_reply m (line.NoPart total)) io) → OnOk o (sent ≡ length (line_reply m (line.NoPart total)).body)
    → OnErr o (WroteFront (line_reply m (line.NoPart total)) sent io)
    → (told : Bool) (file : List ℕ) → IsKnown told f file
    → FollowsPart {Q = Q} told m (NoPart from total) f file io (followed sent (Some label) (stop_of o))
lined Q m from total f label io sent o all count front told file known =
    let t = text_of told f file known in
    record {
      text = t.0;
      is = t.1;
      size = on_whole Q o (IfSome f.total (λ n. length t.0 ≡ n)) t.2;
      ends = subst (λ q. EndsAs {Q = Q} q io sent (stop_of o)) (sym (line_is m f t.0 from total))
          (ended Q (line_reply m (line.NoPart total)) io sent o all count front);
    }

-- the head alone
pub alone : {T E : Type 0} (Q : Type 0) (m : Manner) (p : Pick) (f : Facts) (label : Label) (io : Sent) (o : Result T E)
    → is_alone m p ≡ true → OnOk o (HeadWent (file_head m f p) io) → OnErr o (HeadBroke (file_head m f p) io)
    → (told : Bool) (file : List ℕ) → IsKnown told f file
    → FollowsPart {Q = Q} told m p f file io (followed 0 (Some label) (stop_of o))
alone Q m p f label io o is went broke told file known =
    let t = text_of told f file known in
    record {
      text = t.0;
      is = t.1;
      size = on_whole Q o (IfSome f.total (λ n. length t.0 ≡ n)) t.2;
      ends = subst (λ q. EndsAs {Q = Q} q io 0 (stop_of o)) (sym (alone_is m f t.0 p is)) (by_end o went broke);
    }
  where
    by_end : {T E : Type 0} (o : Result T E) → OnOk o (HeadWent (file_head m f p) io) → OnErr o (HeadBroke (file_head m f p) io)
        → EndsAs {Q = Q} (plain (file_head m f p) []) io 0 (stop_of o)
    by_end (Ok x) w b = (refl, head_all (file_head m f p) io w)
    by_end (Err e) w b = head_front (file_head m f p) [] io b

-- the link failed in the head, behind which a part was due
pub broke : {Q : Type 0} (m : Manner) (p : Pick) (f : Facts) (label : Label) (io : Sent) → HeadBroke (file_head m f p) io
    → (told : Bool) (file : List ℕ) → IsKnown told f file
    → FollowsPart {Q = Q} told m p f file io (followed 0 (Some label) stop.ClientFault)
broke m p f label io b told file known =
    let t = text_of told f file known in
    record {
      text = t.0;
      is = t.1;
      size = tt;
      ends = broke_front (file_reply m f t.0 p) refl true 0 io (broken_head (file_reply m f t.0 p) true io b);
    }

-- ---- a part behind the head

-- where nothing is known of a text, it is what the link has
written : (part : List ℕ) (sent : ℕ) (mid new : Option (List ℕ))
    → BreaksIn Length part sent mid new ⊎ BreaksAfter Length part sent mid new
    → (out : List ℕ) × (length out ≡ sent) × Appends mid new out
written part sent mid new (inl b) =
    let front = take b.before part in
    let size : length (front ++ take b.breaks.k b.piece) ≡ sent =
    let a = length-append front (take b.breaks.k b.piece) in
    let c = length-take b.before part in
    let d = length-take b.breaks.k b.piece in
    let e = b.breaks.count in
    let n = b.count in
    let few = b.few in
    omega arith in
    let sends : Appends mid b.mid front =
    subst (Appends mid b.mid) (append-nil (framed Length b.sends.pieces) ∙ plainly b.sends.pieces ∙ b.sends.cut) b.sends.bytes in
    (front ++ take b.breaks.k b.piece, size, Appends-trans mid b.mid new front (take b.breaks.k b.piece) sends b.breaks.bytes)
  where
    plainly : (ps : List (List ℕ)) → framed Length ps ≡ concat ps
    plainly [] = refl
    plainly (p ∷ ps) = ap (λ t. p ++ t) (plainly ps)
written part sent mid new (inr b) =
    (part, sym b.count, subst (Appends mid new) (ends b.k ∙ plainly b.sends.pieces ∙ b.sends.cut) b.sends.bytes)
  where
    plainly : (ps : List (List ℕ)) → framed Length ps ≡ concat ps
    plainly [] = refl
    plainly (p ∷ ps) = ap (λ t. p ++ t) (plainly ps)

    ends : (k : ℕ) → framed Length b.sends.pieces ++ take k [] ≡ framed Length b.sends.pieces
    ends zero = append-nil (framed Length b.sends.pieces)
    ends (suc k) = append-nil (framed Length b.sends.pieces)

-- all of a text is out, and the link failed behind it
all_out : (out : List ℕ) (sent : ℕ) (mid new : Option (List ℕ)) → length out ≡ sent → Appends mid new out
    → BreaksAfter Length out sent mid new
all_out out sent mid new size came = record {
  k = 0;
  sends = record {
    pieces = one out;
    some = one_some out;
    cut = one_cut out;
    bytes = subst (Appends mid new) (sym (append-nil (framed Length (one out)) ∙ one_framed out)) came;
  };
  count = sym size;
}

-- some text has a short part
with_short : (from to : ℕ) (part : List ℕ) → length part ≤ to - from → (text : List ℕ) × (part_in text from (Some to) ≡ part)
with_short from to part few =
    let w = with_part (from + length part) from (Some to) part (omega arith) in
    (w.0, w.2)

rose_since : (first before after : ℕ) → first ≤ before → Rose before after → Rose first after
rose_since first before after le rose = omega arith

given : {Q : Type 0} (ended : FollowStop Q) (A : Type 0) → A → OnWhole ended A
given stop.Whole A a = a
given (stop.Cut c) A a = tt
given (stop.Slip q) A a = tt
given stop.ClientFault A a = tt

-- the part of a file up to its known length is the rest of it
up_to : (file : List ℕ) (total : Option ℕ) → IfSome total (λ n. length file ≡ n) → part_in file 0 total ≡ part_in file 0 None
up_to file None known = refl
up_to file (Some n) known =
    let is : min n (length file) - 0 ≡ length file - 0 = omega arith in
    ap (λ k. take k (drop 0 file)) is

all_of : (text : List ℕ) → part_in text 0 None ≡ text
all_of text = take_all (length text - 0) text (omega arith)

-- what is followed is what is picked
range_same : (m : Manner) (p : Pick) (f : Facts) (file : List ℕ) → has_part m p ≡ true → IfSome f.total (λ n. length file ≡ n)
    → part_in file (range_in f p).0 (range_in f p).1 ≡ part_in file (range_of p).0 (range_of p).1
range_same m Unmodified f file has known = refl
range_same m (NoPart from total) f file has known = refl
range_same m (Section from stop total) f file has known = refl
range_same m All f file has known = up_to file f.total known

plain_length : (b : Bool) → cond b Length Length ≡ Length
plain_length true = refl
plain_length false = refl

module _ {S : Type 0} (Q : Type 0) (s : SiteGhosts S) (asked : Asked) (m : Manner) (f : Facts) (file : List ℕ) (old mid new : Option (List ℕ))
    (before between after : ℕ) (later : before ≤ between) where
  abbrev io : Sent
  io = record { old = old; now = new; before = before; after = after }

  abbrev head_io : Sent
  head_io = record { old = old; now = mid; before = before; after = between }

  -- what was sent of a reply's body, by how the sending ended
  reached : (r : Reply) → r.whole ≡ true → HeadWent r.head head_io → (sent : ℕ) (ended : FollowStop Q)
      → Reaches r.sending r.body mid new sent ended → FaultRose ended between after → EndsAs r io sent ended
  reached r full w sent stop.Whole goes rose =
      let all : take (length r.body) r.body ≡ r.body = take_all (length r.body) r.body (omega arith) in (
        goes.0,
        subst (λ q. WroteAll q io) (through_all r full)
            (wrote r old mid new before after w.date w.dated w.bytes true (length r.body) true
            (subst (λ t. Sends r.sending t (last_text r.sending) mid new) (sym all) goes.1)),
      )
  reached r full w sent (stop.Cut c) goes rose = (goes.0, wrote r old mid new before after w.date w.dated w.bytes true sent false goes.1)
  reached r full w sent (stop.Slip q) goes rose = (goes.0, wrote r old mid new before after w.date w.dated w.bytes true sent false goes.1)
  reached r full w sent stop.ClientFault (inl b) rose =
      broke_front r full true sent io
      (broken_in r old mid new before after w.date w.dated w.bytes true sent (rose_since before between after later rose) b)
  reached r full w sent stop.ClientFault (inr b) rose =
      broke_front r full true sent io
      (broken_after r old mid new before after w.date w.dated w.bytes true sent (rose_since before between after later rose) refl b)

  abbrev how_of : Pick → Sending
  how_of p = sending_of m (file_head m f p).framing

  -- a text whose asked part this is, with what was sent of it
  with_text : (told : Bool) (p : Pick) (sent : ℕ) (label : Option Label) (ended : FollowStop Q) (part text : List ℕ)
      → has_part m p ≡ true → HeadWent (file_head m f p) head_io → part_in text (range_of p).0 (range_of p).1 ≡ part
      → Reaches (how_of p) part mid new sent ended → FaultRose ended between after
      → (told ≡ true → text ≡ file) → OnWhole ended (IfSome f.total (λ n. length text ≡ n))
      → FollowsPart told m p f file io (record { sent = sent; label = label; stop = ended })
  with_text told p sent label ended part text has w is goes rose is_file size = record {
    text = text;
    is = is_file;
    size = size;
    ends = subst (λ q. EndsAs q io sent ended) (sym (part_is m f text p part has is))
        (reached (reply_by (file_head m f p) (how_of p) part) refl w sent ended goes rose);
  }

  -- where the file isn't told
  of_section : (from to total sent : ℕ) (label : Option Label) (ended : FollowStop Q) (part : List ℕ)
      → has_part m (Section from to total) ≡ true → IsPicked f (Section from to total) → HeadWent (file_head m f (Section from to total)) head_io
      → Reaches (how_of (Section from to total)) part mid new sent ended → EndStands s asked from (Some to) sent ended
      → FaultRose ended between after
      → FollowsPart false m (Section from to total) f file io (record { sent = sent; label = label; stop = ended })
  of_section from to total sent label stop.Whole part has picked w goes stands rose =
      let inside = picked.inside in
      let count = goes.0 in
      let t = with_part total from (Some to) part (omega arith) in
      with_text false (Section from to total) sent label stop.Whole part t.0 has w t.2 goes rose (λ e. absurd (cc))
      (subst (λ o. IfSome o (λ n. length t.0 ≡ n)) (sym picked.known) t.1)
  of_section from to total sent label (stop.Cut c) part has picked w goes stands rose =
      let few = goes.0 in
      let short = stands.0 in
      let size : length (take sent part) ≡ sent = let n = length-take sent part in omega arith in
      let t = with_short from to (take sent part) (omega arith) in
      let again : take sent (take sent part) ≡ take sent part = take_all sent (take sent part) (omega arith) in
      with_text false (Section from to total) sent label (stop.Cut c) (take sent part) t.0 has w t.1
      (omega arith, subst (λ x. Sends (how_of (Section from to total)) x [] mid new) (sym again) goes.1) rose (λ e. absurd (cc)) tt
  of_section from to total sent label (stop.Slip q) part has picked w goes stands rose =
      let few = goes.0 in
      let size : length (take sent part) ≡ sent = let n = length-take sent part in omega arith in
      let t = with_short from to (take sent part) (omega arith) in
      let again : take sent (take sent part) ≡ take sent part = take_all sent (take sent part) (omega arith) in
      with_text false (Section from to total) sent label (stop.Slip q) (take sent part) t.0 has w t.1
      (omega arith, subst (λ x. Sends (how_of (Section from to total)) x [] mid new) (sym again) goes.1) rose (λ e. absurd (cc)) tt
  of_section from to total sent label stop.ClientFault part has picked w goes stands rose =
      let p = Section from to total in
      let plainly : how_of p ≡ Length = plain_length m.bare in
      let x =
      written part sent mid new (subst (λ h. BreaksIn h part sent mid new ⊎ BreaksAfter h part sent mid new) plainly goes) in
      let size = x.1 in
      let t = with_short from to x.0 (omega arith) in
      with_text false p sent label stop.ClientFault x.0 t.0 has w t.1
      (subst (λ h. BreaksIn h x.0 sent mid new ⊎ BreaksAfter h x.0 sent mid new) (sym plainly) (inr (all_out x.0 sent mid new x.1 x.2)))
      rose (λ e. absurd (cc)) tt

  whole_size : (total : Option ℕ) (sent : ℕ) (part : List ℕ) (ended : FollowStop Q) → Reaches (how_of All) part mid new sent ended
      → EndStands s asked 0 total sent ended → OnWhole ended (IfSome total (λ n. length part ≡ n))
  whole_size None sent part stop.Whole goes stands = tt
  whole_size (Some n) sent part stop.Whole goes stands = let count = goes.0 in omega arith
  whole_size total sent part (stop.Cut c) goes stands = tt
  whole_size total sent part (stop.Slip q) goes stands = tt
  whole_size total sent part stop.ClientFault goes stands = tt

  untold : (p : Pick) (sent : ℕ) (label : Option Label) (ended : FollowStop Q) (part : List ℕ) → has_part m p ≡ true → IsPicked f p
      → HeadWent (file_head m f p) head_io → Reaches (how_of p) part mid new sent ended
      → EndStands s asked (range_in f p).0 (range_in f p).1 sent ended → FaultRose ended between after
      → FollowsPart false m p f file io (record { sent = sent; label = label; stop = ended })
  untold Unmodified sent label ended part has picked w goes stands rose = absurd (cc)
  untold (NoPart from total) sent label ended part has picked w goes stands rose = absurd (cc)
  untold (Section from to total) sent label ended part has picked w goes stands rose =
      of_section from to total sent label ended part has picked w goes stands rose
  untold All sent label ended part has picked w goes stands rose =
      with_text false All sent label ended part part has w (all_of part) goes rose (λ e. absurd (cc))
      (whole_size f.total sent part ended goes stands)

  -- the head went out, and the part was followed
  pub behind : (told : Bool) (p : Pick) (r : Followed Q) → has_part m p ≡ true → IsPicked f p → IsKnown told f file
      → HeadWent (file_head m f p) head_io
      → FollowsFile (told ≡ true) (how_of p) file (range_in f p).0 (range_in f p).1 mid new r
      → EndStands s asked (range_in f p).0 (range_in f p).1 r.sent r.stop → FaultRose r.stop between after
      → FollowsPart told m p f file io r
  behind true p r has picked known w follows stands rose =
      with_text true p r.sent r.label r.stop follows.part file has w
      (sym (range_same m p f file has (known refl)) ∙ sym (follows.is refl)) follows.goes rose (λ e. refl)
      (given r.stop (IfSome f.total (λ n. length file ≡ n)) (known refl))
  behind false p r has picked known w follows stands rose =
      untold p r.sent r.label r.stop follows.part has picked w follows.goes stands rose

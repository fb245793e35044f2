-- Replies of growing bodies: the head alone, a line, and a head with a part behind it.
use mathlib.Core.Logic.{inl, inr}
use Rattle.std.proofs.Common.{◌≡◌, ◌⊎◌, ℕ, ◌≤◌, Bool, true, false, List, [], length, Option, Some, None}
use Rattle.std.proofs.Common.{Result, Ok, Err, IfSome, OnOk, OnErr, refl, ap, sym, ◌∙◌, subst, arith}
use Rattle.std.specs.Prelude.{cond, not, ◌||◌, nat_le}
use Rattle.std.proofs.lemmas.Bool.Decides.{nat_tests}
use Rattle.acng_site.specs.declared.site.Site.{Ghosts as SiteGhosts}
use Rattle.acng_head.specs.declared.head.Label.{Label}
use Rattle.acng_request.specs.declared.reply.ReplyHead.{ReplyHead}
use Rattle.acng_grow.specs.declared.facts.Facts.{Facts}
use Rattle.acng_grow.specs.declared.sending.Sending.{Sending}
use Rattle.acng_grow.specs.declared.sending.Sending.TheVariants.{Length}
use Rattle.acng_grow.specs.declared.owned.FollowStop.{FollowStop}
use Rattle.acng_grow.specs.declared.owned.FollowStop.TheVariants as stop
use Rattle.acng_grow.specs.declared.owned.Followed.{Followed}
use Rattle.acng_grow.specs.declared.why.Shown.{Shown}
use Rattle.acng_grow.specs.declared.facts.Seen.{Seen}
use Rattle.acng_grow.specs.declared.facts.Stage.TheVariants as stage
use Rattle.acng_grow.specs.Grown.{File, Grown, text_of}
use Rattle.acng_grow.specs.Keeps.{KeepsSeen}
use Rattle.acng_grow.specs.Takes.{LaterFile, Rests}
use Rattle.acng_grow.specs.Follows.{FollowsAs, FaultRose, OnFileSlip, is_there, part_of as part_in}
use Rattle.acng_reply.specs.declared.line.Line.TheVariants as line
use Rattle.acng_reply.specs.declared.manner.Manner.{Manner}
use Rattle.acng_reply.specs.declared.pick.Pick.{Pick}
use Rattle.acng_reply.specs.declared.pick.Pick.TheVariants.{Unmodified, NoPart, Section, All}
use Rattle.acng_reply.specs.Heads.{file_head, sending_of, sent_as}
use Rattle.acng_reply.specs.Picks.{range_of, part_of, IsPicked}
use Rattle.acng_reply.specs.Replies.{Reply, Sent, WroteAll, WroteFront, HeadWent, HeadBroke, body_of, file_reply, line_reply}
use Rattle.acng_reply.specs.Parted.{Parted, SendsPart, has_part, is_alone, is_due, stop_of}
use Rattle.acng_reply.proofs.Parting.{parted, broken_head, through_all}
use Rattle.acng_reply.proofs.Parts.{same_part, told_part, told_text}
use Rattle.acng_reply.proofs.Texts.{plain, head_all, head_front}

abbrev pub reply_by : ReplyHead → Sending → List ℕ → Reply
reply_by head how body = record { head = head; sending = how; body = body; whole = true }

abbrev pub followed : {Q : Type 0} → ℕ → Option Label → FollowStop Q → Followed Q
followed sent label ended = record { sent = sent; label = label; stop = ended }

-- ---- texts at hand

-- no slip comes of one
pub no_slip : {T E : Type 0} (Q : Type 0) (o : Result T E) (A : Type 0) → OnFileSlip {Q = Q} (stop_of o) A
no_slip Q (Ok x) A = tt
no_slip Q (Err e) A = tt

-- all of a reply, or a front of it
pub ended_by : {T E : Type 0} (Q : Type 0) (r : Reply) (there : Bool) (cause : Option Shown) (io : Sent) (sent : ℕ)
    (o : Result T E) → r.whole ≡ true
    → there ≡ true → OnOk o (WroteAll r io) → OnOk o (sent ≡ length r.body) → OnErr o (WroteFront r sent io)
    → Parted {Q = Q} r there cause io sent (stop_of o)
ended_by Q r there cause io sent (Ok x) full is all size front = (is, size, all)
ended_by Q r there cause io sent (Err e) full is all size front = record {
  n = length r.body;
  few = omega arith;
  whole = true;
  all = λ t. (is, refl);
  front = subst (λ q. WroteFront q sent io) (sym (through_all r full)) front;
}

either_same : {A : Type 0} (b : Bool) (x : A) → cond b x x ≡ x
either_same true x = refl
either_same false x = refl

-- nothing of the body is waited for
due_none : (b : Bool) (size : ℕ) (more : Bool) → (b || (nat_le 0 size || more)) ≡ true
due_none true size more = refl
due_none false size more = ap (λ b. b || more) (none_le size)
  where
    none_le : (n : ℕ) → nat_le 0 n ≡ true
    none_le n = grind (arith, nat_tests)

-- ---- a line

pub line_is : (m : Manner) (f : Facts) (text : List ℕ) (from total : ℕ)
    → file_reply m f text (NoPart from total) ≡ line_reply m (line.NoPart total)
line_is m f text from total =
    ap (λ s. reply_by (line_reply m (line.NoPart total)).head s (line_reply m (line.NoPart total)).body)
    (either_same m.bare Length)

pub lined : {T E : Type 0} (Q : Type 0) (tells : Bool) (m : Manner) (from total : ℕ) (g : Grown) (io : Sent) (sent : ℕ) (o : Result T E)
    → (tells ≡ true → g.seen.size ≡ length (text_of g))
    → OnOk o (WroteAll (line_reply m (line.NoPart total)) io) → OnOk o (sent ≡ length (line_reply m (line.NoPart total)).body)
    → OnErr o (WroteFront (line_reply m (line.NoPart total)) sent io)
    → SendsPart {Q = Q} tells m (NoPart from total) g io (followed sent g.seen.label (stop_of o))
lined Q tells m from total g io sent o size all count front =
    let t = told_text tells g size in
    record {
      text = t.0;
      size = t.1;
      is = t.2;
      ends = subst (λ q. Parted {Q = Q} q (is_due m (NoPart from total) g) g.seen.shown io sent (stop_of o))
          (sym (line_is m g.seen.facts t.0 from total))
          (ended_by Q (line_reply m (line.NoPart total)) (is_due m (NoPart from total) g) g.seen.shown io sent o refl
          (due_none m.bare g.seen.size (nat_le 0 0)) all count front);
    }

-- ---- the head alone

alone_by : (head : ReplyHead) (how : Sending) (body : List ℕ) (b : Bool) → b ≡ true
    → reply_by head (cond b Length how) (cond b [] body) ≡ plain head []
alone_by head how body b is = ap (λ c. reply_by head (cond c Length how) (cond c [] body)) is

alone_none : (head : ReplyHead) (b : Bool) → reply_by head (cond b Length Length) (cond b [] []) ≡ plain head []
alone_none head true = refl
alone_none head false = refl

pub alone_is : (m : Manner) (f : Facts) (text : List ℕ) (p : Pick) → is_alone m p ≡ true → file_reply m f text p ≡ plain (file_head m f p) []
alone_is m f text Unmodified is = alone_none (file_head m f Unmodified) m.bare
alone_is m f text (NoPart from total) is = absurd (cc)
alone_is m f text (Section from stop total) is =
    let p = Section from stop total in
    alone_by (file_head m f p) (sent_as (file_head m f p).framing) (body_of p text) m.bare is
alone_is m f text All is = alone_by (file_head m f All) (sent_as (file_head m f All).framing) (body_of All text) m.bare is

alone_due : (m : Manner) (p : Pick) (g : Grown) → is_alone m p ≡ true → is_due m p g ≡ true
alone_due m Unmodified g is = due_none m.bare g.seen.size (nat_le 0 0)
alone_due m (NoPart from total) g is = due_none m.bare g.seen.size (nat_le 0 0)
alone_due m (Section from stop total) g is = ap (λ b. b || is_there g.seen.stage g.seen.size from (Some stop)) is
alone_due m All g is = ap (λ b. b || is_there g.seen.stage g.seen.size 0 None) is

pub alone : {T E : Type 0} (Q : Type 0) (tells : Bool) (m : Manner) (p : Pick) (g : Grown) (io : Sent) (o : Result T E)
    → is_alone m p ≡ true
    → (tells ≡ true → g.seen.size ≡ length (text_of g))
    → OnOk o (HeadWent (file_head m g.seen.facts p) io) → OnErr o (HeadBroke (file_head m g.seen.facts p) io)
    → SendsPart {Q = Q} tells m p g io (followed 0 g.seen.label (stop_of o))
alone Q tells m p g io o is size went broke =
    let t = told_text tells g size in
    let head = file_head m g.seen.facts p in
    record {
      text = t.0;
      size = t.1;
      is = t.2;
      ends = subst (λ q. Parted {Q = Q} q (is_due m p g) g.seen.shown io 0 (stop_of o)) (sym (alone_is m g.seen.facts t.0 p is))
          (ended_by Q (plain head []) (is_due m p g) g.seen.shown io 0 o refl (alone_due m p g is) (all_of o head went) (none_of o)
          (front_of o head broke));
    }
  where
    all_of : {T E : Type 0} (o : Result T E) (head : ReplyHead) → OnOk o (HeadWent head io) → OnOk o (WroteAll (plain head []) io)
    all_of (Ok x) head w = head_all head io w
    all_of (Err e) head w = tt

    none_of : {T E : Type 0} (o : Result T E) → OnOk o (◌≡◌ {A = ℕ} 0 0)
    none_of (Ok x) = refl
    none_of (Err e) = tt

    front_of : {T E : Type 0} (o : Result T E) (head : ReplyHead) → OnErr o (HeadBroke head io) → OnErr o (WroteFront (plain head []) 0 io)
    front_of (Ok x) head b = tt
    front_of (Err e) head b = head_front head [] io b

-- ---- a part behind the head

not_true : (b : Bool) → not b ≡ true → b ≡ false
not_true true e = sym e
not_true false e = refl

is_full : (m : Manner) (p : Pick) → has_part m p ≡ true → m.bare ≡ false
is_full m Unmodified is = absurd (cc)
is_full m (NoPart from total) is = absurd (cc)
is_full m (Section from stop total) is = not_true m.bare is
is_full m All is = not_true m.bare is

body_is : (m : Manner) (p : Pick) (text : List ℕ) → has_part m p ≡ true → body_of p text ≡ part_of p text
body_is m Unmodified text is = refl
body_is m (NoPart from total) text is = absurd (cc)
body_is m (Section from stop total) text is = refl
body_is m All text is = refl

pub part_is : (m : Manner) (f : Facts) (text : List ℕ) (p : Pick) (part : List ℕ) → has_part m p ≡ true
    → part_in text (range_of p).0 (range_of p).1 ≡ part
    → file_reply m f text p ≡ reply_by (file_head m f p) (sending_of m (file_head m f p).framing) part
part_is m f text p part has is =
    let body : cond m.bare [] (body_of p text) ≡ part =
    ap (λ b. cond b [] (body_of p text)) (is_full m p has) ∙ body_is m p text has ∙ same_part p text ∙ is in
    ap (λ t. reply_by (file_head m f p) (sending_of m (file_head m f p).framing) t) body

-- the link failed in the head
pub behind_broke : {Q : Type 0} (tells : Bool) (m : Manner) (p : Pick) (g : Grown) (io : Sent)
    → (tells ≡ true → g.seen.size ≡ length (text_of g)) → HeadBroke (file_head m g.seen.facts p) io
    → SendsPart {Q = Q} tells m p g io (followed 0 g.seen.label stop.ClientFault)
behind_broke tells m p g io size broke =
    let t = told_text tells g size in
    record { text = t.0; size = t.1; is = t.2; ends = broken_head (file_reply m g.seen.facts t.0 p) (is_due m p g) io broke }

-- the head went out, and the part was followed
pub behind : {Q : Type 0} (tells : Bool) (m : Manner) (p : Pick) (g : Grown) (r : Followed Q)
    (old mid new : Option (List ℕ)) (before between after : ℕ) → has_part m p ≡ true → (tells ≡ true → g.seen.size ≡ length (text_of g))
    → HeadWent (file_head m g.seen.facts p) (record { old = old; now = mid; before = before; after = between }) → before ≤ between
    → FollowsAs (tells ≡ true) (sending_of m (file_head m g.seen.facts p).framing) g (range_of p).0 (range_of p).1 mid new r
    → FaultRose r.stop between after
    → SendsPart tells m p g (record { old = old; now = new; before = before; after = after }) r
behind tells m p g r old mid new before between after has size went later f rose =
    let head = file_head m g.seen.facts p in
    let how = sending_of m head.framing in
    let t = told_part tells g (range_of p).0 (range_of p).1 f.part f.count f.is size in
    let io : Sent = record { old = old; now = new; before = before; after = after } in
    let there = is_there g.seen.stage g.seen.size (range_of p).0 (range_of p).1 in
    let due : there ≡ is_due m p g = sym (ap (λ b. b || there) (is_full m p has)) in
    let whole = reply_by head how f.part in
    let ends = parted whole refl there g.seen.shown r.sent r.stop old mid new before between after went later f.goes rose in
    record {
      text = t.0;
      size = t.1;
      is = t.2;
      ends = subst (λ q. Parted q (is_due m p g) g.seen.shown io r.sent r.stop) (sym (part_is m g.seen.facts t.0 p f.part has t.3))
          (subst (λ b. Parted whole b g.seen.shown io r.sent r.stop) due ends);
    }

-- ---- the body

later_same : (f : Option File) → LaterFile f f
later_same None = refl
later_same (Some f) = (refl, record { count = omega arith; may_fail = refl })

-- a body to which nothing was done
pub rests_same : (g : Grown) → Rests g g
rests_same g = record { path = refl; seen = refl; file = later_same g.file }

total_is : (t : Option ℕ) (size total : ℕ) → IfSome t (λ n. n ≡ size) → t ≡ Some total → total ≡ size
total_is t size total held is = subst (λ o. IfSome o (λ n. n ≡ size)) is held

-- where its length is known, a part of a whole body lies in it
pub within : {S : Type 0} (s : SiteGhosts S) (path : List ℕ) (g : Seen) (p : Pick) → KeepsSeen s path g → IsPicked g.facts p
    → IfSome (range_of p).1 (λ t. (g.stage ≡ stage.Whole) ⊎ (g.stage ≡ stage.Same) → t ≤ g.size)
within s path g Unmodified k is = λ w. omega arith
within s path g (NoPart from total) k is = λ w. omega arith
within s path g (Section from stop total) k is = by_stage
  where
    by_stage : (g.stage ≡ stage.Whole) ⊎ (g.stage ≡ stage.Same) → stop ≤ g.size
    by_stage (inl e) = let size = total_is g.facts.total g.size total (k.whole e).total is.known in let inside = is.inside in omega arith
    by_stage (inr e) = let size = total_is g.facts.total g.size total (k.same e).total is.known in let inside = is.inside in omega arith
within s path g All k is = tt

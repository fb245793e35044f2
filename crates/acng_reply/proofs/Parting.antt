-- From what a follower sent to the texts of a reply.
use mathlib.Core.Logic.{inl, inr}
use Rattle.std.proofs.Common.{◌≡◌, ℕ, ◌+◌, ◌-◌, ◌≤◌, ◌<◌, min, Bool, true, false, List, [], ◌∷◌, ◌++◌, length, take, Option}
use Rattle.std.proofs.Common.{refl, ap, sym, ◌∙◌, subst, append_assoc, append-nil, arith}
use Rattle.std.specs.List.{concat}
use Rattle.std.specs.Io.KnownBytes.{Appends}
use Rattle.std.proofs.KnownBytes.{Appends-trans}
use Rattle.std.proofs.lemmas.List.{take_all, length-take}
use Rattle.std.proofs.Math.Seq.{take-append-add, take-add}
use Rattle.acng_base.specs.Causes.{Rose}
use Rattle.acng_request.specs.ReplyHeads.{head_text, IsDateOf}
use Rattle.acng_grow.specs.declared.sending.Sending.{Sending}
use Rattle.acng_grow.specs.declared.owned.FollowStop.{FollowStop}
use Rattle.acng_grow.specs.declared.owned.FollowStop.TheVariants as stop
use Rattle.acng_grow.specs.declared.why.Shown.{Shown}
use Rattle.acng_grow.specs.Sends.{Sends, BreaksIn, BreaksAfter, last_text, framed, piece_text, AreSome, counted_in}
use Rattle.acng_grow.specs.Follows.{FollowsTo, FaultRose}
use Rattle.acng_reply.specs.Replies.{Reply, Sent, WroteAll, HeadWent, HeadBroke, carried, text_by, end_of, through}
use Rattle.acng_reply.specs.Parted.{BrokeIn, Parted}
use Rattle.acng_reply.proofs.Texts.{carried_all, carried_more}

-- ---- pieces and one more

framed_append : (s : Sending) (ps : List (List ℕ)) (p : List ℕ) → framed s (ps ++ p ∷ []) ≡ framed s ps ++ piece_text s p
framed_append s [] p = append-nil (piece_text s p)
framed_append s (q ∷ ps) p =
    ap (λ t. piece_text s q ++ t) (framed_append s ps p) ∙ sym (append_assoc (piece_text s q) (framed s ps) (piece_text s p))

some_append : (ps : List (List ℕ)) (p : List ℕ) → AreSome ps → 0 < length p → AreSome (ps ++ p ∷ [])
some_append [] p h some = (some, tt)
some_append (q ∷ ps) p h some = (h.0, some_append ps p h.1 some)

concat_append : (ps : List (List ℕ)) (p : List ℕ) → concat (ps ++ p ∷ []) ≡ concat ps ++ p
concat_append [] p = append-nil p
concat_append (q ∷ ps) p = ap (λ t. q ++ t) (concat_append ps p) ∙ sym (append_assoc q (concat ps) p)

min_left : (a b n : ℕ) → a + b ≤ n → min a n ≡ a
min_left a b n le = omega arith

-- ---- a reply behind its head

-- what was written and how often the link had failed before the head, between and now
module _ (r : Reply) (old mid new : Option (List ℕ)) (before after : ℕ) (date : List ℕ) (dated : IsDateOf r.head.modified date)
    (went : Appends old mid (head_text r.head date)) (there : Bool) where
  abbrev io : Sent
  io = record { old = old; now = new; before = before; after = after }

  abbrev H : List ℕ
  H = head_text r.head date

  -- the head went out, and then pieces and an end
  pub wrote : (n : ℕ) (whole : Bool) → Sends r.sending (take n r.body) (end_of (through n whole r)) mid new
      → WroteAll (through n whole r) io
  wrote n whole s = (
    text_by (through n whole r) date s.pieces,
    (record { date = date; dated = dated; pieces = s.pieces; some = s.some; cut = s.cut }, refl),
    Appends-trans old mid new H (framed r.sending s.pieces ++ end_of (through n whole r)) went s.bytes,
  )

  -- the link failed in a piece: a front of the reply through that piece
  pub broken_in : (sent : ℕ) → Rose before after → BreaksIn r.sending r.body sent mid new → BrokeIn r there sent io
  broken_in sent rose b =
      let ps = b.sends.pieces in
      let k = b.breaks.k in
      let n = b.before + length b.piece in
      let F = framed r.sending ps in
      let T = piece_text r.sending b.piece in
      let cut : concat (ps ++ b.piece ∷ []) ≡ take n r.body =
      concat_append ps b.piece
      ∙ ap (λ t. t ++ b.piece) b.sends.cut
      ∙ ap (λ t. take b.before r.body ++ t) (sym b.stands)
      ∙ sym (take-add b.before (length b.piece) r.body) in
      let framed_is : framed r.sending (ps ++ b.piece ∷ []) ++ [] ≡ F ++ T =
      append-nil (framed r.sending (ps ++ b.piece ∷ [])) ∙ framed_append r.sending ps b.piece in
      let front : take (length H + (length F + k)) (H ++ (framed r.sending (ps ++ b.piece ∷ []) ++ [])) ≡ H ++ (F ++ take k T) =
      take-append-add H (framed r.sending (ps ++ b.piece ∷ []) ++ []) (length F + k)
      ∙ ap (λ t. H ++ take (length F + k) t) framed_is
      ∙ ap (λ t. H ++ t) (take-append-add F T k) in
      let size : length (concat ps) ≡ b.before =
      ap length b.sends.cut ∙ length-take b.before r.body ∙ min_left b.before (length b.piece) (length r.body) b.few in
      let place : length H + (length F + k) - length H ≡ length F + k = omega arith in
      let count : sent ≡ carried r.sending (ps ++ b.piece ∷ []) (length H + (length F + k) - length H) =
      b.count
      ∙ ap (λ m. b.before + m) b.breaks.count
      ∙ ap (λ m. m + counted_in r.sending b.piece k) (sym size)
      ∙ sym (carried_more r.sending ps b.piece k)
      ∙ sym (ap (carried r.sending (ps ++ b.piece ∷ [])) place) in
      record {
        n = n;
        few = b.few;
        whole = false;
        all = λ e. absurd (cc);
        front = (
          H ++ (F ++ take k T),
          record {
            cutting = record {
              date = date;
              dated = dated;
              pieces = ps ++ b.piece ∷ [];
              some = some_append ps b.piece b.sends.some b.some;
              cut = cut;
            };
            k = length H + (length F + k);
            front = sym front;
            count = count;
          },
          Appends-trans old mid new H (F ++ take k T) went
              (Appends-trans mid b.mid new F (take k T) (subst (Appends mid b.mid) (append-nil F) b.sends.bytes) b.breaks.bytes),
          rose,
        );
      }

  -- the link failed in what follows the body
  pub broken_after : (sent : ℕ) → Rose before after → there ≡ true → BreaksAfter r.sending r.body sent mid new → BrokeIn r there sent io
  broken_after sent rose is b =
      let ps = b.sends.pieces in
      let F = framed r.sending ps in
      let L = last_text r.sending in
      let all : take (length r.body) r.body ≡ r.body = take_all (length r.body) r.body (omega arith) in
      let front : take (length H + (length F + b.k)) (H ++ (F ++ L)) ≡ H ++ (F ++ take b.k L) =
      take-append-add H (F ++ L) (length F + b.k) ∙ ap (λ t. H ++ t) (take-append-add F L b.k) in
      let place : length H + (length F + b.k) - length H ≡ length F + b.k = omega arith in
      let count : sent ≡ carried r.sending ps (length H + (length F + b.k) - length H) =
      b.count
      ∙ sym (ap (carried r.sending ps) place ∙ carried_all r.sending ps (length F + b.k) (omega arith) ∙ ap length b.sends.cut) in
      record {
        n = length r.body;
        few = omega arith;
        whole = true;
        all = λ e. (is, refl);
        front = (
          H ++ (F ++ take b.k L),
          record {
            cutting = record { date = date; dated = dated; pieces = ps; some = b.sends.some; cut = b.sends.cut ∙ sym all };
            k = length H + (length F + b.k);
            front = sym front;
            count = count;
          },
          Appends-trans old mid new H (F ++ take b.k L) went b.sends.bytes,
          rose,
        );
      }

-- the link failed in the head: the body is still to come
pub broken_head : (r : Reply) (there : Bool) (io : Sent) → HeadBroke r.head io → BrokeIn r there 0 io
broken_head r there io b =
    let H = head_text r.head b.date in
    let front : take b.k (H ++ []) ≡ take b.k H = ap (take b.k) (append-nil H) in
    let none : b.k - length H ≡ 0 = let few = b.few in omega arith in
    record {
      n = 0;
      few = omega arith;
      whole = false;
      all = λ e. absurd (cc);
      front = (
        take b.k H,
        record {
          cutting = record { date = b.date; dated = b.dated; pieces = []; some = tt; cut = refl };
          k = b.k;
          front = sym front;
          count = refl;
        },
        b.bytes,
        b.rose,
      );
    }

rose_since : (first before after : ℕ) → first ≤ before → Rose before after → Rose first after
rose_since first before after le rose = omega arith

-- a whole reply reaches through all of its body
pub through_all : (r : Reply) → r.whole ≡ true → through (length r.body) true r ≡ r
through_all r full =
    let all : take (length r.body) r.body ≡ r.body = take_all (length r.body) r.body (omega arith) in
    ap (λ t. record { head = r.head; sending = r.sending; body = t; whole = true }) all
    ∙ ap (λ b. record { head = r.head; sending = r.sending; body = r.body; whole = b }) (sym full)

-- a reply whose head went out, by how the following ended
pub parted : {Q : Type 0} (r : Reply) → r.whole ≡ true → (there : Bool) (cause : Option Shown) (sent : ℕ) (ended : FollowStop Q)
    → (old mid new : Option (List ℕ)) (before between after : ℕ)
    → HeadWent r.head (record { old = old; now = mid; before = before; after = between }) → before ≤ between
    → FollowsTo r.sending r.body there cause mid new sent ended → FaultRose ended between after
    → Parted r there cause (record { old = old; now = new; before = before; after = after }) sent ended
parted r full there cause sent stop.Whole old mid new before between after w later f rose =
    let all : take (length r.body) r.body ≡ r.body = take_all (length r.body) r.body (omega arith) in
    let io : Sent = record { old = old; now = new; before = before; after = after } in (
      f.0,
      f.1,
      subst (λ q. WroteAll q io) (through_all r full)
          (wrote r old mid new before after w.date w.dated w.bytes there (length r.body) true
          (subst (λ t. Sends r.sending t (last_text r.sending) mid new) (sym all) f.2)),
    )
parted r full there cause sent (stop.Cut c) old mid new before between after w later f rose =
    let all : take sent r.body ≡ r.body = let size = f.2 in take_all sent r.body (omega arith) in (
      f.0,
      f.1,
      f.2,
      wrote r old mid new before after w.date w.dated w.bytes there sent false
          (subst (λ t. Sends r.sending t [] mid new) (sym all) f.3),
    )
parted r full there cause sent (stop.Slip q) old mid new before between after w later f rose =
    (f.0, wrote r old mid new before after w.date w.dated w.bytes there sent false f.1)
parted r full there cause sent stop.ClientFault old mid new before between after w later (inl b) rose =
    broken_in r old mid new before after w.date w.dated w.bytes there sent (rose_since before between after later rose) b
parted r full there cause sent stop.ClientFault old mid new before between after w later (inr b) rose =
    broken_after r old mid new before after w.date w.dated w.bytes there sent (rose_since before between after later rose) b.0 b.1

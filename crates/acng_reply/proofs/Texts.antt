-- Replies whose body is at hand, and how many bytes of a body a front carries.
use Rattle.std.proofs.Common.{◌≡◌, ℕ, ◌+◌, ◌-◌, ◌≤◌, min, true, List, [], ◌∷◌, ◌++◌, length, take, refl, ap, sym, ◌∙◌, subst}
use Rattle.std.proofs.Common.{append-nil, arith, Option, Result, Ok, Err, OnOk, OnErr}
use Rattle.std.specs.List.{concat}
use Rattle.std.specs.Io.KnownBytes.{Appends}
use Rattle.std.proofs.KnownBytes.{Appends-trans}
use Rattle.std.proofs.lemmas.List.{length-append, take-append-le}
use Rattle.std.proofs.Math.Seq.{take-append-add}
use Rattle.acng_base.specs.Causes.{Rose}
use Rattle.acng_request.specs.declared.reply.ReplyHead.{ReplyHead}
use Rattle.acng_request.specs.ReplyHeads.{head_text, IsDateOf}
use Rattle.acng_grow.specs.declared.sending.Sending.{Sending}
use Rattle.acng_grow.specs.declared.sending.Sending.TheVariants.{Length, Chunked, ToEnd}
use Rattle.acng_grow.specs.Sends.{piece_text, framed, AreSome, counted_in, size_line}
use Rattle.acng_reply.specs.Replies.{Reply, Cutting, Sent, WroteAll, WroteFront, HeadWent, HeadBroke, carried, text_by}

-- ---- how many bytes a front of framed pieces carries

counted_le : (s : Sending) (p : List ℕ) (k : ℕ) → counted_in s p k ≤ length p
counted_le Length p k = omega arith
counted_le ToEnd p k = omega arith
counted_le Chunked p k = omega arith

-- a piece that went out whole is counted whole
counted_whole : (s : Sending) (p : List ℕ) (k : ℕ) → length (piece_text s p) ≤ k → counted_in s p k ≡ length p
counted_whole Length p k le = omega arith
counted_whole ToEnd p k le = omega arith
counted_whole Chunked p k le =
    let a = length-append (size_line (length p)) (p ++ 13 ∷ 10 ∷ []) in
    let b = length-append p (13 ∷ 10 ∷ []) in
    omega arith

-- no more than the body
pub carried_le : (s : Sending) (ps : List (List ℕ)) (k : ℕ) → carried s ps k ≤ length (concat ps)
carried_le s [] k = omega arith
carried_le s (q ∷ ps) k =
    let a = counted_le s q k in
    let b = carried_le s ps (k - length (piece_text s q)) in
    let c = length-append q (concat ps) in
    omega arith

-- all of it, once all pieces are out
pub carried_all : (s : Sending) (ps : List (List ℕ)) (k : ℕ) → length (framed s ps) ≤ k → carried s ps k ≡ length (concat ps)
carried_all s [] k le = refl
carried_all s (q ∷ ps) k le =
    let a = length-append (piece_text s q) (framed s ps) in
    let first = counted_whole s q k (omega arith) in
    let more = carried_all s ps (k - length (piece_text s q)) (omega arith) in
    let b = length-append q (concat ps) in
    omega arith

-- whole pieces, and so many bytes of one more
pub carried_more : (s : Sending) (ps : List (List ℕ)) (p : List ℕ) (k : ℕ)
    → carried s (ps ++ p ∷ []) (length (framed s ps) + k) ≡ length (concat ps) + counted_in s p k
carried_more s [] p k = grind arith
carried_more s (q ∷ ps) p k =
    let a = length-append (piece_text s q) (framed s ps) in
    let first = counted_whole s q (length (piece_text s q ++ framed s ps) + k) (omega arith) in
    let rest : length (piece_text s q ++ framed s ps) + k - length (piece_text s q) ≡ length (framed s ps) + k = omega arith in
    let more = ap (carried s (ps ++ p ∷ [])) rest ∙ carried_more s ps p k in
    let b = length-append q (concat ps) in
    omega arith

-- ---- a body at hand

-- one piece, or none where it is empty
abbrev pub one : List ℕ → List (List ℕ)
one [] = []
one (b ∷ bs) = (b ∷ bs) ∷ []

pub one_some : (body : List ℕ) → AreSome (one body)
one_some [] = tt
one_some (b ∷ bs) = (omega arith, tt)

pub one_cut : (body : List ℕ) → concat (one body) ≡ body
one_cut [] = refl
one_cut (b ∷ bs) = append-nil (b ∷ bs)

pub one_framed : (body : List ℕ) → framed Length (one body) ≡ body
one_framed [] = refl
one_framed (b ∷ bs) = append-nil (b ∷ bs)

one_carried : (body : List ℕ) (k : ℕ) → carried Length (one body) k ≡ min k (length body)
one_carried [] k = omega arith
one_carried (b ∷ bs) k = omega arith

-- a reply whose body is sent as it is
abbrev pub plain : ReplyHead → List ℕ → Reply
plain head body = record { head = head; sending = Length; body = body; whole = true }

module _ (head : ReplyHead) (body : List ℕ) (date : List ℕ) (dated : IsDateOf head.modified date) where
  abbrev H : List ℕ
  H = head_text head date

  abbrev cutting : Cutting (plain head body)
  cutting = record { date = date; dated = dated; pieces = one body; some = one_some body; cut = one_cut body }

  text_is : text_by (plain head body) date (one body) ≡ H ++ body
  text_is = ap (λ t. H ++ t) (append-nil (framed Length (one body)) ∙ one_framed body)

  -- head and body went out
  pub sent_all : (io : Sent) → Appends io.old io.now (H ++ body) → WroteAll (plain head body) io
  sent_all io came = (H ++ body, (cutting, sym text_is), came)

  -- the link failed after k bytes of them
  pub sent_front : (io : Sent) (k sent : ℕ) → k ≤ length (H ++ body) → sent ≡ k - length H → Appends io.old io.now (take k (H ++ body))
      → Rose io.before io.after → WroteFront (plain head body) sent io
  sent_front io k sent few count came rose =
      let size = length-append H body in
      let counted = one_carried body (k - length H) in
      let is : sent ≡ carried Length (one body) (k - length H) = omega arith in
      (take k (H ++ body), record { cutting = cutting; k = k; front = ap (take k) (sym text_is); count = is }, came, rose)

-- ---- head and body in two writes

pub head_front : (head : ReplyHead) (body : List ℕ) (io : Sent) → HeadBroke head io → WroteFront (plain head body) 0 io
head_front head body io b =
    let H = head_text head b.date in
    let size = length-append H body in
    let few = b.few in
    let is = take-append-le b.k H body few in
    sent_front head body b.date b.dated io b.k 0 (omega arith) (omega arith) (subst (Appends io.old io.now) (sym is) b.bytes) b.rose

-- what was written and how often the link had failed before the head, between and now
module _ (head : ReplyHead) (body : List ℕ) (old mid new : Option (List ℕ)) (before between after : ℕ)
    (w : HeadWent head (record { old = old; now = mid; before = before; after = between })) where
  abbrev io : Sent
  io = record { old = old; now = new; before = before; after = after }

  pub both_all : Appends mid new body → WroteAll (plain head body) io
  both_all came = sent_all head body w.date w.dated io (Appends-trans old mid new (head_text head w.date) body w.bytes came)

  pub both_front : (k : ℕ) → k ≤ length body → Appends mid new (take k body) → before ≤ between → Rose between after
      → WroteFront (plain head body) k io
  both_front k few came later rose =
      let H = head_text head w.date in
      let size = length-append H body in
      let is = take-append-add H body k in
      sent_front head body w.date w.dated io (length H + k) k (omega arith) (omega arith)
      (subst (Appends old new) (sym is) (Appends-trans old mid new H (take k body) w.bytes came)) (omega arith)

-- the head alone
pub head_all : (head : ReplyHead) (io : Sent) → HeadWent head io → WroteAll (plain head []) io
head_all head io w = sent_all head [] w.date w.dated io (subst (Appends io.old io.now) (sym (append-nil (head_text head w.date))) w.bytes)

-- ---- by what a call answered

pub on_ok : {T E A B : Type 0} (r : Result T E) → (A → B) → OnOk r A → OnOk r B
on_ok (Ok x) f h = f h
on_ok (Err e) f h = tt

pub on_err : {T E A B : Type 0} (r : Result T E) → (A → B) → OnErr r A → OnErr r B
on_err (Ok x) f h = tt
on_err (Err e) f h = f h

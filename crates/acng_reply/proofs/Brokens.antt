-- A front of a reply through some of its body is a front of the whole reply.
use Rattle.std.proofs.Common.{◌≡◌, ℕ, ◌+◌, ◌-◌, min, Bool, true, false, List, [], ◌∷◌, ◌++◌, length, take, drop}
use Rattle.std.proofs.Common.{refl, ap, sym, ◌∙◌, subst}
use Rattle.std.proofs.Common.{append_assoc, append-nil, arith}
use Rattle.std.specs.List.{concat}
use Rattle.std.proofs.lemmas.List.{length-append, take_min, take-append-le, take-append-drop}
use Rattle.acng_request.specs.ReplyHeads.{head_text}
use Rattle.acng_grow.specs.declared.sending.Sending.{Sending}
use Rattle.acng_grow.specs.declared.sending.Sending.TheVariants.{Length, Chunked, ToEnd}
use Rattle.acng_grow.specs.Sends.{piece_text, framed, AreSome, counted_in, size_line}
use Rattle.acng_reply.specs.Replies.{Reply, IsBroken, Sent, WroteFront, carried, end_of, through}
use Rattle.acng_reply.specs.Parted.{BrokeIn}
use Rattle.acng_reply.proofs.Parting.{through_all}
use Rattle.acng_reply.proofs.Texts.{one, one_some, one_cut}

-- ---- what more pieces change

framed_join : (s : Sending) (ps qs : List (List ℕ)) → framed s (ps ++ qs) ≡ framed s ps ++ framed s qs
framed_join s [] qs = refl
framed_join s (p ∷ ps) qs =
    ap (λ t. piece_text s p ++ t) (framed_join s ps qs) ∙ sym (append_assoc (piece_text s p) (framed s ps) (framed s qs))

concat_join : (ps qs : List (List ℕ)) → concat (ps ++ qs) ≡ concat ps ++ concat qs
concat_join [] qs = refl
concat_join (p ∷ ps) qs = ap (λ t. p ++ t) (concat_join ps qs) ∙ sym (append_assoc p (concat ps) (concat qs))

some_join : (ps qs : List (List ℕ)) → AreSome ps → AreSome qs → AreSome (ps ++ qs)
some_join [] qs a b = b
some_join (p ∷ ps) qs a b = (a.0, some_join ps qs a.1 b)

-- no more of a piece is counted than it is long as it is framed
counted_min : (s : Sending) (p : List ℕ) (k : ℕ) → counted_in s p (min k (length (piece_text s p))) ≡ counted_in s p k
counted_min Length p k = omega arith
counted_min ToEnd p k = omega arith
counted_min Chunked p k =
    let a = length-append (size_line (length p)) (p ++ 13 ∷ 10 ∷ []) in
    let b = length-append p (13 ∷ 10 ∷ []) in
    omega arith

counted_none : (s : Sending) (p : List ℕ) → counted_in s p 0 ≡ 0
counted_none Length p = omega arith
counted_none ToEnd p = omega arith
counted_none Chunked p = omega arith

carried_none : (s : Sending) (ps : List (List ℕ)) (k : ℕ) → k ≡ 0 → carried s ps k ≡ 0
carried_none s [] k is = refl
carried_none s (p ∷ ps) k is =
    let here = ap (counted_in s p) is ∙ counted_none s p in
    let more = carried_none s ps (k - length (piece_text s p)) (omega arith) in
    omega arith

-- a front that ends within the first pieces carries what they do, as far as they go
carried_front : (s : Sending) (ps qs : List (List ℕ)) (k : ℕ)
    → carried s (ps ++ qs) (min k (length (framed s ps))) ≡ carried s ps k
carried_front s [] qs k = carried_none s qs (min k 0) (omega arith)
carried_front s (p ∷ ps) qs k =
    let T = length (piece_text s p) in
    let F = length (framed s ps) in
    let size = length-append (piece_text s p) (framed s ps) in
    let all : ℕ = min k (length (framed s (p ∷ ps))) in
    let here : counted_in s p all ≡ counted_in s p k =
    sym (counted_min s p all) ∙ ap (counted_in s p) (both_min k T F (length (framed s (p ∷ ps))) size) ∙ counted_min s p k in
    let rest : all - T ≡ min (k - T) F = omega (arith, size) in
    let more = ap (carried s (ps ++ qs)) rest ∙ carried_front s ps qs (k - T) in
    omega (arith, here, more)
  where
    both_min : (k t f n : ℕ) → n ≡ t + f → min (min k n) t ≡ min k t
    both_min k t f n is = omega arith

-- ---- a front of the whole

module _ (r : Reply) (full : r.whole ≡ true) (n : ℕ) (sent : ℕ) (text : List ℕ) where
  -- with a body that breaks off
  of_cut : IsBroken (through n false r) sent text → IsBroken r sent text
  of_cut b =
      let date = b.cutting.date in
      let ps = b.cutting.pieces in
      let qs = one (drop n r.body) in
      let s = r.sending in
      let H = head_text r.head date in
      let F = framed s ps in
      let more = framed s qs ++ end_of r in
      let k : ℕ = min b.k (length (H ++ F)) in
      let cut : concat (ps ++ qs) ≡ r.body =
      concat_join ps qs
      ∙ ap (λ t. t ++ concat qs) b.cutting.cut
      ∙ ap (λ t. take n r.body ++ t) (one_cut (drop n r.body))
      ∙ take-append-drop n r.body in
      let all : H ++ (framed s (ps ++ qs) ++ end_of r) ≡ (H ++ F) ++ more =
      ap (λ t. H ++ (t ++ end_of r)) (framed_join s ps qs)
      ∙ ap (λ t. H ++ t) (append_assoc F (framed s qs) (end_of r))
      ∙ sym (append_assoc H F more) in
      let front : text ≡ take k (H ++ (framed s (ps ++ qs) ++ end_of r)) =
      b.front
      ∙ ap (λ t. take b.k (H ++ t)) (append-nil F)
      ∙ sym (take_min b.k (H ++ F))
      ∙ sym (take-append-le k (H ++ F) more (omega arith))
      ∙ sym (ap (take k) all) in
      let size = length-append H F in
      let place : k - length H ≡ min (b.k - length H) (length F) = omega (arith, size) in
      let count : sent ≡ carried s (ps ++ qs) (k - length H) =
      b.count ∙ sym (carried_front s ps qs (b.k - length H)) ∙ sym (ap (carried s (ps ++ qs)) place) in
      record {
        cutting = record {
          date = date;
          dated = b.cutting.dated;
          pieces = ps ++ qs;
          some = some_join ps qs b.cutting.some (one_some (drop n r.body));
          cut = cut;
        };
        k = k;
        front = front;
        count = count;
      }

  -- with all of it
  of_whole : n ≡ length r.body → IsBroken (through n true r) sent text → IsBroken r sent text
  of_whole is b =
      subst (λ q. IsBroken q sent text) (ap (λ m. through m true r) is ∙ through_all r full) b

-- the link failed in a front of the reply
pub broke_front : (r : Reply) → r.whole ≡ true → (there : Bool) (sent : ℕ) (io : Sent) → BrokeIn r there sent io → WroteFront r sent io
broke_front r full there sent io b = by_end b.whole refl
  where
    by_end : (whole : Bool) → b.whole ≡ whole → WroteFront r sent io
    by_end true is =
        let f = subst (λ w. WroteFront (through b.n w r) sent io) is b.front in
        (f.0, of_whole r full b.n sent f.0 (b.all is).1 f.1, f.2, f.3)
    by_end false is =
        let f = subst (λ w. WroteFront (through b.n w r) sent io) is b.front in
        (f.0, of_cut r full b.n sent f.0 f.1, f.2, f.3)

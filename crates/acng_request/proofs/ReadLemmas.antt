-- Bytes on their way from the link through the buffer, and what a reading says of them.
use Rattle.std.proofs.Common.{◌≡◌, ◌≢◌, ℕ, ◌+◌, ◌<◌, ◌≤◌, ◌-◌, inl, inr, List, [], ◌∷◌, ◌++◌, length, take, drop, option_map, false, Some, None, refl, ap, sym, ◌∙◌, subst, arith, append_assoc, append-nil}
use Rattle.std.specs.Prelude.{IfSome, Result, Ok, Err}
use Rattle.std.proofs.KnownBytes.{Consumes-nil, Consumes-trans, Consumes-kept}
use Rattle.std.specs.Io.KnownBytes.{Consumes, Keeps, IsAtEnd}
use Rattle.std.specs.declared.option.Option.{Option}
use Rattle.acng_base.specs.declared.link.Link.{Ghosts as LinkGhosts}
use Rattle.acng_base.specs.Buffers.{Moves}
use Rattle.acng_request.specs.Gots.{ReadsWhileUndecided, IfRequest, IfRefused, OnEnded, OnNoMemory, GivesRequest, IsAsked, AskSome}
use Rattle.acng_request.specs.Nexts.{Next, Asks, Refuses, Ends, next, before_rest, read_block}
use Rattle.acng_request.specs.Spans.{Judges}
use Rattle.acng_request.specs.declared.head.Refusal.TheVariants as refusal
use Rattle.acng_request.specs.declared.got.Request.{Request}
use Rattle.acng_request.specs.declared.got.HeadFault.{HeadFault}
use Rattle.std.proofs.lemmas.List.{take-append-drop, take_at, length-take-le, length-drop}
use Rattle.acng_base.specs.declared.block.LineState.{LineState}
use Rattle.acng_base.specs.declared.block.LineState.TheVariants.{Before}
use Rattle.acng_base.specs.declared.block.Scan.TheVariants.{End, Incomplete}
use Rattle.acng_base.specs.Lines.{Scans, block_len, state_after}
use Rattle.acng_base.proofs.BlockLines.{before}
use Rattle.acng_base.proofs.Ranges.{rest_is_drop}
use Rattle.acng_base.proofs.Scans.{block_append, state_append}
use Rattle.std.specs.Prelude.{◌==◌}
use Rattle.std.proofs.lemmas.Bool.{eq-eqb, false≢true}
use Rattle.std.proofs.lemmas.List.{length-append}
use Rattle.acng_request.specs.declared.got.Got.{Got}
use Rattle.acng_request.specs.declared.got.Got.TheVariants as got
use Rattle.acng_request.specs.Blocks.{IsBlock, TakesBlock}
use Rattle.acng_request.proofs.NextLemmas.{asks_more, refuses_more, next_short, next_whole}

pub Moves-none : (a : Option (List ℕ)) (old : List ℕ) → Moves old old a a
Moves-none a old = record { bytes = []; added = sym (append-nil old); taken = Consumes-nil a }

pub Moves-trans : (a b c : Option (List ℕ)) (old mid new : List ℕ) → Moves old mid a b → Moves mid new b c → Moves old new a c
Moves-trans a b c old mid new p q = record {
  bytes = p.bytes ++ q.bytes;
  added = q.added ∙ ap (λ t. t ++ q.bytes) p.added ∙ append_assoc old p.bytes q.bytes;
  taken = Consumes-trans a b c p.bytes q.bytes p.taken q.taken;
}

-- a read that failed moves nothing
pub Moves-kept : (a b c : Option (List ℕ)) (old mid new : List ℕ) → Moves old mid a b → new ≡ mid → Keeps b c → Moves old new a c
Moves-kept a b c old mid new p same k = record { bytes = p.bytes; added = same ∙ p.added; taken = Consumes-kept a b c p.bytes p.taken k }

-- one more read, where what was held decided nothing
pub reads_on : {L : Type 0} (l : LinkGhosts L) (a b c : L) (old mid new : List ℕ) → Moves old mid (l.left a) (l.left b) → Moves mid new (l.left b) (l.left c)
    → next mid ≡ Ends → ReadsWhileUndecided l a c old
reads_on l a b c old mid new p q undecided = inr (record {
  front = p.bytes;
  last = q.bytes;
  taken = Consumes-trans (l.left a) (l.left b) (l.left c) p.bytes q.bytes p.taken q.taken;
  undecided = subst (λ t. next t ≡ Ends) p.added undecided;
})

pub reads_failed : {L : Type 0} (l : LinkGhosts L) (a b c : L) (old mid : List ℕ) → Moves old mid (l.left a) (l.left b) → Keeps (l.left b) (l.left c)
    → next mid ≡ Ends → ReadsWhileUndecided l a c old
reads_failed l a b c old mid p k undecided = inr (record {
  front = p.bytes;
  last = [];
  taken = subst (Consumes (l.left a) (l.left c)) (sym (append-nil p.bytes)) (Consumes-kept (l.left a) (l.left b) (l.left c) p.bytes p.taken k);
  undecided = subst (λ t. next t ≡ Ends) p.added undecided;
})

-- ---- what the bytes held decide, all that may come decides

-- bytes that more can follow before they are decided are undecided
ends_before : (xs ys : List ℕ) (n : Next) → next xs ≡ n → next (xs ++ ys) ≡ Ends → next xs ≡ Ends
ends_before xs ys (Asks r rest) h e = let more = asks_more xs ys rest r h in cc
ends_before xs ys (Refuses f) h e = let more = refuses_more xs ys f h in cc
ends_before xs ys Ends h e = h

-- where the bytes held decide, the link isn't read
pub untouched : {L : Type 0} (l : LinkGhosts L) (a b : L) (old : List ℕ) → ReadsWhileUndecided l a b old → next old ≢ Ends → b ≡ a
untouched l a b old (inl same) some = same
untouched l a b old (inr r) some = absurd (some (ends_before old r.front (next old) refl r.undecided))

-- what was known of the bytes before
known : (a b : Option (List ℕ)) (old bytes : List ℕ) (P : List ℕ → Type 0) → Consumes a b bytes → ((rest : List ℕ) → b ≡ Some rest → P (bytes ++ rest)) → IfSome a P
known None b old bytes P c h = tt
known (Some xs) None old bytes P c h = absurd c
known (Some xs) (Some ys) old bytes P c h = subst P (sym c) (h ys refl)

module _ (a b : Option (List ℕ)) (old held : List ℕ) (m : Moves old held a b) where
  all_of : (rest : List ℕ) → held ++ rest ≡ old ++ (m.bytes ++ rest)
  all_of rest = ap (λ t. t ++ rest) m.added ∙ append_assoc old m.bytes rest

  pub gives : (r : Request) (kept : List ℕ) → next held ≡ Asks r kept → IfSome a (λ bytes. GivesRequest (old ++ bytes) kept b r)
  gives r kept h = known a b old m.bytes (λ bytes. GivesRequest (old ++ bytes) kept b r) m.taken
      (λ rest left. (rest, left, subst (λ t. next t ≡ Asks r (kept ++ rest)) (all_of rest) (asks_more held rest kept r h)))

  pub asks_some : AskSome held → IfSome a (λ bytes. AskSome (old ++ bytes))
  asks_some h = known a b old m.bytes (λ bytes. AskSome (old ++ bytes)) m.taken
      (λ rest left. (h.0, h.1 ++ rest, subst (λ t. next t ≡ Asks h.0 (h.1 ++ rest)) (all_of rest) (asks_more held rest h.1 h.0 h.2)))

  pub refuses : (f : HeadFault) → next held ≡ Refuses f → IfSome a (λ bytes. next (old ++ bytes) ≡ Refuses f)
  refuses f h = known a b old m.bytes (λ bytes. next (old ++ bytes) ≡ Refuses f) m.taken
      (λ rest left. subst (λ t. next t ≡ Refuses f) (all_of rest) (refuses_more held rest f h))

  pub ends : next held ≡ Ends → IsAtEnd b → IfSome a (λ bytes. next (old ++ bytes) ≡ Ends)
  ends h e = known a b old m.bytes (λ bytes. next (old ++ bytes) ≡ Ends) m.taken (λ rest left. at_end rest (subst IsAtEnd left e))
    where
      at_end : (rest : List ℕ) → rest ≡ [] → next (old ++ (m.bytes ++ rest)) ≡ Ends
      at_end rest z = subst (λ t. next t ≡ Ends) (sym (append-nil held) ∙ ap (λ t. held ++ t) (sym z) ∙ all_of rest) h

-- ---- a scan that goes on

-- what the next scan finds belongs to all that is held
pub found_block : (bytes : List ℕ) (scanned n : ℕ) (state : LineState) → scanned ≤ length bytes → length bytes ≤ 16384 → state_after Before (take scanned bytes) ≡ Some state
    → Scans state (take (length bytes - scanned) (drop scanned bytes)) (End n) → IsBlock bytes (scanned + n)
found_block bytes scanned n state within few before_it s =
    let rest : take (length bytes - scanned) (drop scanned bytes) ≡ drop scanned bytes = rest_is_drop scanned bytes in
    let whole : take scanned bytes ++ drop scanned bytes ≡ bytes = take-append-drop scanned bytes in
    let at : block_len state (drop scanned bytes) ≡ Some n = ap (block_len state) (sym rest) ∙ s.0 in
    let size : length (take scanned bytes) ≡ scanned = length-take-le scanned bytes within in
    let len : block_len Before bytes ≡ Some (scanned + n) =
    ap (block_len Before) (sym whole) ∙ block_append Before state (take scanned bytes) (drop scanned bytes) before_it ∙ ap (option_map (λ k. length (take scanned bytes) + k)) at
    ∙ ap (λ k. Some (k + n)) size in
    record {
      is = sym (before bytes) ∙ len;
      within = omega (arith, s.2, ap length rest, length-drop scanned bytes);
      few = few;
    }

-- the state after all that is held
pub scanned_all : (bytes : List ℕ) (scanned : ℕ) (state now : LineState) → state_after Before (take scanned bytes) ≡ Some state
    → Scans state (take (length bytes - scanned) (drop scanned bytes)) (Incomplete now) → state_after Before bytes ≡ Some now
scanned_all bytes scanned state now before_it s =
    ap (state_after Before) (sym (take-append-drop scanned bytes)) ∙ state_append Before state (take scanned bytes) (drop scanned bytes) before_it
    ∙ ap (state_after state) (sym (rest_is_drop scanned bytes)) ∙ s

-- it is the state after a front of what is held once more was read
pub scanned_front : (old new : List ℕ) (n : ℕ) (more : List ℕ) (now : LineState) → new ≡ old ++ more → n ≡ length old → state_after Before old ≡ Some now → state_after Before (take n new) ≡ Some now
scanned_front old new n more now added size s = ap (λ t. state_after Before (take n t)) added ∙ ap (state_after Before) (take_at old more n (sym size)) ∙ s

-- a link that wasn't touched
pub reads_not : {L : Type 0} (l : LinkGhosts L) (a : L) (old : List ℕ) → ReadsWhileUndecided l a a old
reads_not l a old = inl refl

-- few enough bytes whose scan found no end are undecided
pub undecided : (bytes : List ℕ) (scanned : ℕ) (state now : LineState) → length bytes ≤ 16384 → (length bytes == 16384) ≡ false → state_after Before (take scanned bytes) ≡ Some state
    → Scans state (take (length bytes - scanned) (drop scanned bytes)) (Incomplete now) → next bytes ≡ Ends
undecided bytes scanned state now few less before_it s = next_short bytes now (below (length bytes) few less) (scanned_all bytes scanned state now before_it s)
  where
    below : (n : ℕ) → n ≤ 16384 → (n == 16384) ≡ false → n < 16384
    below n le ne = let differ : n ≡ 16384 → ⊥ = λ e. false≢true (sym ne ∙ eq-eqb n 16384 e) in omega arith

-- nothing was added
pub no_more : (old new more : List ℕ) → new ≡ old ++ more → length new ≡ length old → next old ≡ Ends → next new ≡ Ends
no_more old new [] added same e = ap next (added ∙ append-nil old) ∙ e
no_more old new (b ∷ bs) added same e = absurd (omega (arith, same, ap length added, length-append old (b ∷ bs)))

-- ---- what the block at the front gives

pub always : (a : Option (List ℕ)) → IfSome a (λ _. Unit {0})
always None = tt
always (Some xs) = tt

module _ (a b : Option (List ℕ)) (old held : List ℕ) (m : Moves old held a b) (n : ℕ) (kept : List ℕ) where
  pub taken_request : (got : Got) → TakesBlock held n kept got → IfSome a (λ bytes. IfRequest got (GivesRequest (old ++ bytes) kept b))
  taken_request (got.Request r) t = gives a b old held m r kept t
  taken_request got.Ended t = absurd t
  taken_request got.ClientFault t = absurd t
  taken_request (got.Refused f) t = always a
  taken_request got.NoMemory t = always a

  pub taken_refused : (got : Got) → TakesBlock held n kept got → IfSome a (λ bytes. IfRefused got (λ f. next (old ++ bytes) ≡ Refuses f))
  taken_refused (got.Request r) t = always a
  taken_refused got.Ended t = absurd t
  taken_refused got.ClientFault t = absurd t
  taken_refused (got.Refused f) t = refuses a b old held m f t.0
  taken_refused got.NoMemory t = always a

  pub taken_ended : (got : Got) → TakesBlock held n kept got → IfSome a (λ bytes. OnEnded got (next (old ++ bytes) ≡ Ends))
  taken_ended (got.Request r) t = always a
  taken_ended got.Ended t = absurd t
  taken_ended got.ClientFault t = absurd t
  taken_ended (got.Refused f) t = always a
  taken_ended got.NoMemory t = always a

  pub taken_no_memory : (got : Got) → TakesBlock held n kept got → IfSome a (λ bytes. OnNoMemory got (AskSome (old ++ bytes)))
  taken_no_memory (got.Request r) t = always a
  taken_no_memory got.Ended t = absurd t
  taken_no_memory got.ClientFault t = absurd t
  taken_no_memory (got.Refused f) t = always a
  taken_no_memory got.NoMemory t = asks_some a b old held m t.0

pub taken_form : (held : List ℕ) (n : ℕ) (kept : List ℕ) (got : Got) → TakesBlock held n kept got → IfRequest got IsAsked
taken_form held n kept (got.Request r) t = (held, kept, t)
taken_form held n kept got.Ended t = absurd t
taken_form held n kept got.ClientFault t = absurd t
taken_form held n kept (got.Refused f) t = tt
taken_form held n kept got.NoMemory t = tt

-- ---- the block at the front

judged_ok : (o : Result Request HeadFault) (q : Request) → Judges o (Ok q) → o ≡ Ok q
judged_ok (Ok r) q h = ap Ok (sym h)
judged_ok (Err f) q h = absurd h

judged_fault : (o : Result Request HeadFault) (f : HeadFault) → Judges o (Err (refusal.Head f)) → o ≡ Err f
judged_fault (Ok r) f h = absurd h
judged_fault (Err g) f h = ap Err (sym h)

module _ (bytes : List ℕ) (n : ℕ) (block : IsBlock bytes n) where
  is_next : next bytes ≡ before_rest (drop n bytes) (read_block (take n bytes))
  is_next = next_whole bytes n block.few block.is

  pub block_asks : (r : Request) (kept : List ℕ) → Judges (read_block (take n bytes)) (Ok r) → kept ≡ drop n bytes → next bytes ≡ Asks r kept
  block_asks r kept h k = is_next ∙ ap (before_rest (drop n bytes)) (judged_ok (read_block (take n bytes)) r h) ∙ ap (Asks r) (sym k)

  pub block_refuses : (f : HeadFault) → Judges (read_block (take n bytes)) (Err (refusal.Head f)) → next bytes ≡ Refuses f
  block_refuses f h = is_next ∙ ap (before_rest (drop n bytes)) (judged_fault (read_block (take n bytes)) f h)

  pub block_lacks : Judges (read_block (take n bytes)) (Err refusal.NoMemory) → AskSome bytes
  block_lacks h = some (read_block (take n bytes)) refl h
    where
      some : (o : Result Request HeadFault) → read_block (take n bytes) ≡ o → Judges o (Err refusal.NoMemory) → AskSome bytes
      some (Ok r) e h = (r, drop n bytes, is_next ∙ ap (before_rest (drop n bytes)) e)
      some (Err f) e h = absurd h

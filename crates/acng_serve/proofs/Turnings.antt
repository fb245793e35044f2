-- What one turn of a connection takes of its bytes.
use Rattle.std.proofs.Common.{◌≡◌, inl, inr, ◌⊎◌, ℕ, Bool, List, [], ◌∷◌, ◌++◌, Option, Some, None, IfSome, Ok, Err, refl, ap, sym, subst, ◌∙◌, append_assoc}
use Rattle.std.specs.Io.KnownBytes.{Keeps, Consumes}
use Rattle.acng_base.specs.Buffers.{Moves}
use Rattle.acng_base.specs.declared.link.Link.{Ghosts as LinkGhosts}
use Rattle.acng_request.specs.Gots.{GivesRequest, ReadsWhileUndecided}
use Rattle.acng_request.specs.Nexts.{next, Refuses, Ends}
use Rattle.acng_request.specs.declared.got.HeadFault.{HeadFault}
use Rattle.acng_request.specs.declared.got.Request.{Request}
use Rattle.acng_serve.specs.declared.note.Note.{Note}
use Rattle.acng_serve.specs.declared.notes.SessionStop.{SessionStop}
use Rattle.acng_serve.specs.declared.owned.Turn.{Turn}
use Rattle.acng_serve.specs.Sessions.{Head, ReadsAs, WasUndecided, Rule}
use Rattle.acng_serve.specs.Turns.{TakesOf, Replied, Turned, turn_of}

-- ---- how far the link was read

abbrev FewOf : List ℕ → Option (List ℕ) → Option (List ℕ) → Type 0
FewOf held old new = IfSome old (λ b. (c : List ℕ) × (new ≡ Some c) × ((c ≡ b) ⊎ WasUndecided (held ++ b) c))

few_same : (held : List ℕ) (o : Option (List ℕ)) → FewOf held o o
few_same held None = tt
few_same held (Some b) = (b, refl, inl refl)

few_by : (held front last : List ℕ) (old new : Option (List ℕ)) → Consumes old new (front ++ last) → next (held ++ front) ≡ Ends → FewOf held old new
few_by held front last None new p e = tt
few_by held front last (Some b) None p e = absurd p
few_by held front last (Some b) (Some c) p e =
    (c, refl, inr (held ++ front, last, ap (λ l. held ++ l) (p ∙ append_assoc front last c) ∙ sym (append_assoc held front (last ++ c)), e))

few_of : {L : Type 0} (l : LinkGhosts L) (from mid : L) (held : List ℕ) → ReadsWhileUndecided l from mid held → FewOf held (l.left from) (l.left mid)
few_of l from mid held (inl e) = subst (λ x. FewOf held (l.left from) (l.left x)) (sym e) (few_same held (l.left from))
few_of l from mid held (inr r) = few_by held r.front r.last (l.left from) (l.left mid) r.taken r.undecided

-- ---- what was taken of it

abbrev ReadsTo : List Head → List ℕ → List ℕ → Option (List ℕ) → Option (List ℕ) → Type 0
ReadsTo heads held kept old new = IfSome old (λ b. (c : List ℕ) × (new ≡ Some c) × ReadsAs (held ++ b) heads (kept ++ c))

takes_by : (heads : List Head) (held kept : List ℕ) (old mid new : Option (List ℕ)) → ReadsTo heads held kept old mid → FewOf held old mid → Keeps mid new
    → TakesOf heads held kept old new
takes_by heads held kept None mid new r f k = tt
takes_by heads held kept (Some b) None new r f k = absurd (cc)
takes_by heads held kept (Some b) (Some c) None r f k = absurd k
takes_by heads held kept (Some b) (Some c) (Some d) r f k = (
  d,
  refl,
  record {
    reads = subst (λ x. ReadsAs (held ++ b) heads (kept ++ x)) (same (Some c) r.0 d r.1 refl k) r.2;
    few = subst (λ x. (x ≡ b) ⊎ WasUndecided (held ++ b) x) (same (Some c) f.0 d f.1 refl k) f.2;
  },
)
  where
    same : (o : Option (List ℕ)) (x y : List ℕ) → o ≡ Some x → o ≡ Some c → y ≡ c → x ≡ y
    same o x y e f g = cc

moved_to : (held kept : List ℕ) (old mid : Option (List ℕ)) → Moves held kept old mid
    → IfSome old (λ b. (c : List ℕ) × (mid ≡ Some c) × (kept ++ c ≡ held ++ b))
moved_to held kept None mid m = tt
moved_to held kept (Some b) None m = absurd m.taken
moved_to held kept (Some b) (Some c) m =
    (c, refl, ap (λ l. l ++ c) m.added ∙ append_assoc held m.bytes c ∙ ap (λ l. held ++ l) (sym m.taken))

asks_to : (r : Request) (held kept : List ℕ) (old mid : Option (List ℕ)) → IfSome old (λ b. GivesRequest (held ++ b) kept mid r)
    → ReadsTo (Ok r ∷ []) held kept old mid
asks_to r held kept None mid g = tt
asks_to r held kept (Some b) mid g = (g.0, g.1, (kept ++ g.0, g.2, refl))

refuses_to : (f : HeadFault) (held kept : List ℕ) (old mid : Option (List ℕ)) → IfSome old (λ b. next (held ++ b) ≡ Refuses f)
    → IfSome old (λ b. (c : List ℕ) × (mid ≡ Some c) × (kept ++ c ≡ held ++ b)) → ReadsTo (Err f ∷ []) held kept old mid
refuses_to f held kept None mid n m = tt
refuses_to f held kept (Some b) mid n m = (m.0, m.1, (n, m.2))

-- ---- the turn

module _ {L : Type 0} (l : LinkGhosts L) (from mid to : L) (held kept : List ℕ) (reads : ReadsWhileUndecided l from mid held)
    (left : Keeps (l.left mid) (l.left to)) where
  pub takes_request : (r : Request) → IfSome (l.left from) (λ b. GivesRequest (held ++ b) kept (l.left mid) r)
      → TakesOf (Ok r ∷ []) held kept (l.left from) (l.left to)
  takes_request r g = takes_by (Ok r ∷ []) held kept (l.left from) (l.left mid) (l.left to) (asks_to r held kept (l.left from) (l.left mid) g)
      (few_of l from mid held reads) left

  pub takes_refused : (f : HeadFault) → IfSome (l.left from) (λ b. next (held ++ b) ≡ Refuses f) → Moves held kept (l.left from) (l.left mid)
      → TakesOf (Err f ∷ []) held kept (l.left from) (l.left to)
  takes_refused f n m = takes_by (Err f ∷ []) held kept (l.left from) (l.left mid) (l.left to)
      (refuses_to f held kept (l.left from) (l.left mid) n (moved_to held kept (l.left from) (l.left mid) m)) (few_of l from mid held reads) left

  pub takes_none : Moves held kept (l.left from) (l.left mid) → TakesOf [] held kept (l.left from) (l.left to)
  takes_none m = takes_by [] held kept (l.left from) (l.left mid) (l.left to) (moved_to held kept (l.left from) (l.left mid) m)
      (few_of l from mid held reads) left

-- a turn with a reply
turned : {L X Q : Type 0} (rule : Rule X Q) (l : LinkGhosts L) (last : Bool) (from to : L) (held kept : List ℕ) (x y : X) (note : Note Q)
    (end : Option SessionStop) → Replied rule l last from to held kept x y note end → Turned rule l last from to held kept x y (turn_of note end)
turned rule l last from to held kept x y note None r = r
turned rule l last from to held kept x y note (Some s) r = r

pub turned_reply : {L X Q : Type 0} (rule : Rule X Q) (l : LinkGhosts L) (last : Bool) (from to : L) (held kept : List ℕ) (x y : X) (note : Note Q)
    (end : Option SessionStop) (t : Turn Q) → t ≡ turn_of note end → Replied rule l last from to held kept x y note end
    → Turned rule l last from to held kept x y t
turned_reply rule l last from to held kept x y note end t e r =
    subst (Turned rule l last from to held kept x y) (sym e) (turned rule l last from to held kept x y note end r)

-- A connection up to some turn: whatever follows, it goes on as one connection.
use Rattle.std.proofs.Common.{◌≡◌, inl, inr, ◌⊎◌, ℕ, zero, suc, ◌+◌, length, ◌==◌, ◌≤◌, List, [], ◌∷◌, ◌++◌, Option, Some, None, IfSome, Ok, Err, refl, ap, sym, subst, ◌∙◌, append_assoc, append-nil, arith}
use Rattle.std.proofs.KnownBytes.{Keeps-refl}
use Rattle.std.specs.Io.KnownBytes.{IsAtEnd}
use Rattle.acng_base.specs.declared.link.Link.{Ghosts as LinkGhosts}
use Rattle.acng_request.specs.Nexts.{next, Ends}
use Rattle.acng_serve.specs.declared.note.Note.{Note}
use Rattle.acng_serve.specs.declared.notes.SessionStop.{SessionStop}
use Rattle.acng_serve.specs.declared.notes.SessionStop.TheVariants as stop
use Rattle.acng_serve.specs.Sessions.{Head, ReadsAs, WasUndecided, ReadsFew, Read, ReadOf, Rule, Side, side, OverOr, Serves, IsSession, stops, most_requests}
use Rattle.acng_serve.specs.Turns.{TakesOf, Replied, NoneCame}

-- ---- what was read so far

pub record SoFar (heads : List Head) (held bytes left : List ℕ) : Type 0 where
  pub reads : ReadsAs bytes heads (held ++ left)
  pub few : ReadsFew bytes heads left

abbrev pub SoFarOf : List Head → List ℕ → Option (List ℕ) → Option (List ℕ) → Type 0
SoFarOf heads held old new = IfSome old (λ bytes. (left : List ℕ) × (new ≡ Some left) × SoFar heads held bytes left)

so_far_none : (o : Option (List ℕ)) → SoFarOf [] [] o o
so_far_none None = tt
so_far_none (Some b) = (b, refl, record { reads = refl; few = inl refl })

reads_more : (bytes mid rest : List ℕ) (hs more : List Head) → ReadsAs bytes hs mid → ReadsAs mid more rest → ReadsAs bytes (hs ++ more) rest
reads_more bytes mid rest [] more a b = subst (λ x. ReadsAs x more rest) a b
reads_more bytes mid rest (Ok r ∷ hs) more a b = (a.0, a.1, reads_more a.0 mid rest hs more a.2 b)
reads_more bytes mid rest (Err f ∷ hs) more a b = (a.0, reads_more bytes mid rest hs more a.1 b)

few_more : (bytes held left now : List ℕ) (hs more : List Head) → ReadsAs bytes hs (held ++ left) → ReadsFew bytes hs left
    → (now ≡ left) ⊎ WasUndecided (held ++ left) now → ReadsFew bytes (hs ++ more) now
few_more bytes held left now hs more a (inl e) (inl f) = inl (f ∙ e)
few_more bytes held left now hs more a (inr r) (inl f) = inr (record {
  before = r.before;
  after = r.after ++ more;
  all = ap (λ l. l ++ more) r.all ∙ append_assoc r.before r.after more;
  rest = r.rest;
  read = r.read;
  undecided = subst (WasUndecided r.rest) (sym f) r.undecided;
})
few_more bytes held left now hs more a k (inr u) = inr (record {
  before = hs;
  after = more;
  all = refl;
  rest = held ++ left;
  read = a;
  undecided = u;
})

so_far_more : (hs more : List Head) (held kept : List ℕ) (old mid new : Option (List ℕ)) → SoFarOf hs held old mid → TakesOf more held kept mid new
    → SoFarOf (hs ++ more) kept old new
so_far_more hs more held kept None mid new a t = tt
so_far_more hs more held kept (Some b) None new a t = absurd (cc)
so_far_more hs more held kept (Some b) (Some c) new a t = go a.0 (same a.0 a.1) a.2
  where
    same : (x : List ℕ) → ◌≡◌ {A = Option (List ℕ)} (Some c) (Some x) → x ≡ c
    same x e = cc

    go : (x : List ℕ) → x ≡ c → SoFar hs held b x → SoFarOf (hs ++ more) kept (Some b) new
    go x e f =
        let g : SoFar hs held b c = subst (SoFar hs held b) e f in (
          t.0,
          t.1,
          record {
            reads = reads_more b (held ++ c) (kept ++ t.0) hs more g.reads t.2.reads;
            few = few_more b held c t.0 hs more g.reads g.few t.2.few;
          },
        )

read_of : (hs : List Head) (s : SessionStop) (held : List ℕ) (old new : Option (List ℕ)) → SoFarOf hs held old new
    → (s ≡ stop.ClientEnded → IfSome old (λ b. IfSome new (λ c. (next (held ++ c) ≡ Ends) × (c ≡ [])))) → ReadOf hs s old new
read_of hs s held None new a e = tt
read_of hs s held (Some b) None a e = absurd (cc)
read_of hs s held (Some b) (Some c) a e = (c, refl, go a.0 (same a.0 a.1) a.2)
  where
    same : (x : List ℕ) → ◌≡◌ {A = Option (List ℕ)} (Some c) (Some x) → x ≡ c
    same x e = cc

    go : (x : List ℕ) → x ≡ c → SoFar hs held b x → Read hs s b c
    go x f g =
        let h : SoFar hs held b c = subst (SoFar hs held b) f g in
        record { rest = held ++ c; reads = h.reads; few = h.few; ended = e }

-- ---- the loop

pub record Stills {L X Q : Type 0} (rule : Rule X Q) (l : LinkGhosts L) (from at : L) (held : List ℕ) (x0 x : X) (notes : List (Note Q))
    (k : ℕ) : Type 0 where
  pub heads : List Head
  pub more : (hs : List Head) (y : X) (ns : List (Note Q)) (s : SessionStop) (new : Side) → Serves rule k hs x y ns s (side l at) new
      → Serves rule most_requests (heads ++ hs) x0 y (notes ++ ns) s (side l from) new
  pub read : SoFarOf heads held (l.left from) (l.left at)

module _ {L X Q : Type 0} (rule : Rule X Q) (l : LinkGhosts L) (from : L) (x0 : X) where
  stills_first : Stills rule l from from [] x0 x0 [] most_requests
  stills_first = record { heads = []; more = λ hs y ns s new h. h; read = so_far_none (l.left from) }

  pub stills_fresh : (held : List ℕ) (notes : List (Note Q)) → held ≡ [] → notes ≡ [] → Stills rule l from from held x0 x0 notes most_requests
  stills_fresh held notes e f = subst (λ h. Stills rule l from from h x0 x0 notes most_requests) (sym e)
      (subst (λ ns. Stills rule l from from [] x0 x0 ns most_requests) (sym f) stills_first)

  module _ (at to : L) (held kept : List ℕ) (x y : X) (notes : List (Note Q)) (k : ℕ) (still : Stills rule l from at held x0 x notes (suc k)) where
    -- a reply behind which the connection goes on
    pub stills_on : (note : Note Q) → Replied rule l (k == 0) at to held kept x y note None → Stills rule l from to kept x0 y (notes ++ note ∷ []) k
    stills_on note r = record {
      heads = still.heads ++ r.head ∷ [];
      more = λ hs z ns s new on.
          subst (λ h. Serves rule most_requests h x0 z ((notes ++ note ∷ []) ++ ns) s (side l from) new) (sym (append_assoc still.heads (r.head ∷ []) hs))
          (subst (λ n. Serves rule most_requests (still.heads ++ r.head ∷ hs) x0 z n s (side l from) new) (sym (append_assoc notes (note ∷ []) ns))
          (still.more (r.head ∷ hs) z (note ∷ ns) s new (
            y,
            side l to,
            r.replies,
            subst (OverOr (λ end. (hs ≡ []) × (ns ≡ []) × (s ≡ end) × (z ≡ y) × (new ≡ side l to)) (Serves rule k hs y z ns s (side l to) new)) r.ends on,
          )));
      read = so_far_more still.heads (r.head ∷ []) held kept (l.left from) (l.left at) (l.left to) still.read r.takes;
    }

    -- one behind which it is over
    pub over_replied : (note : Note Q) (s : SessionStop) → Replied rule l (k == 0) at to held kept x y note (Some s)
        → IsSession rule l from to x0 y (notes ++ note ∷ []) s
    over_replied note s r = record {
      heads = still.heads ++ r.head ∷ [];
      serves = still.more (r.head ∷ []) y (note ∷ []) s (side l to) (
        y,
        side l to,
        r.replies,
        subst (OverOr (λ end. (◌≡◌ {A = List Head} [] []) × (◌≡◌ {A = List (Note Q)} [] []) × (s ≡ end) × (y ≡ y) × (side l to ≡ side l to))
            (Serves rule k [] y y [] s (side l to) (side l to))) r.ends (refl, refl, refl, refl, refl),
      );
      read = read_of (still.heads ++ r.head ∷ []) s kept (l.left from) (l.left to)
          (so_far_more still.heads (r.head ∷ []) held kept (l.left from) (l.left at) (l.left to) still.read r.takes)
          (λ e. absurd (not_ended r.head note s r.ends e));
    }
      where
        not_ended : (h : Head) (n : Note Q) (t : SessionStop) → Some t ≡ stops (k == 0) h n → t ≡ stop.ClientEnded → ⊥
        not_ended h n t e f = grind arith

    -- no head came
    pub over_unread : (s : SessionStop) → NoneCame l at to held kept x y s → IsSession rule l from to x0 y notes s
    over_unread s n = record {
      heads = still.heads;
      serves = subst (λ h. Serves rule most_requests h x0 y notes s (side l from) (side l to)) (append-nil still.heads)
          (subst (λ ns. Serves rule most_requests (still.heads ++ []) x0 y ns s (side l from) (side l to)) (append-nil notes)
          (still.more [] y [] s (side l to) (n.same, n.ends)));
      read = subst (λ h. ReadOf h s (l.left from) (l.left to)) (append-nil still.heads)
          (read_of (still.heads ++ []) s kept (l.left from) (l.left to)
          (so_far_more still.heads [] held kept (l.left from) (l.left at) (l.left to) still.read n.takes)
          (λ e. ended (l.left from) (l.left at) (l.left to) still.read n.takes (n.ended e)));
    }
      where
        ended : (old mid new : Option (List ℕ)) → SoFarOf still.heads held old mid → TakesOf [] held kept mid new
            → IfSome mid (λ b. next (held ++ b) ≡ Ends) × IsAtEnd new → IfSome old (λ b. IfSome new (λ c. (next (kept ++ c) ≡ Ends) × (c ≡ [])))
        ended None mid new a t e = tt
        ended (Some b) None new a t e = absurd (cc)
        ended (Some b) (Some c) None a t e = absurd (cc)
        ended (Some b) (Some c) (Some d) a t e =
            let same : t.0 ≡ d = cc in
            (subst (λ x. next x ≡ Ends) (sym t.2.reads ∙ ap (λ z. kept ++ z) same) e.0, e.1)

  -- memory was wanting before the first read
  pub unserved : IsSession rule l from from x0 x0 [] stop.NoMemory
  unserved = record {
    heads = [];
    serves = (refl, (Keeps-refl (l.written from), refl));
    read = read_of [] stop.NoMemory [] (l.left from) (l.left from) (so_far_none (l.left from)) (λ e. absurd (cc));
  }

  -- as many requests as a connection may carry were answered
  pub over_limit : (at : L) (held : List ℕ) (x : X) (notes : List (Note Q)) (k : ℕ) → k ≤ 0 → Stills rule l from at held x0 x notes k
      → IsSession rule l from at x0 x notes stop.Limit
  over_limit at held x notes (suc k) few still = absurd (none few)
    where
      none : suc k ≤ 0 → ⊥
      none h = omega arith
  over_limit at held x notes zero few still = record {
    heads = still.heads;
    serves = subst (λ h. Serves rule most_requests h x0 x notes stop.Limit (side l from) (side l at)) (append-nil still.heads)
        (subst (λ ns. Serves rule most_requests (still.heads ++ []) x0 x ns stop.Limit (side l from) (side l at)) (append-nil notes)
        (still.more [] x [] stop.Limit (side l at) (refl, refl, refl, refl, refl)));
    read = read_of still.heads stop.Limit held (l.left from) (l.left at) still.read (λ e. absurd (cc));
  }

-- the same by other names
pub session_as : {L X Q : Type 0} (rule : Rule X Q) (l : LinkGhosts L) (from to : L) (x y : X) (notes ns : List (Note Q)) (s t : SessionStop) → ns ≡ notes
    → t ≡ s → IsSession rule l from to x y notes s → IsSession rule l from to x y ns t
session_as rule l from to x y notes ns s t e f h = subst (λ n. IsSession rule l from to x y n t) (sym e)
    (subst (λ (z : SessionStop). IsSession rule l from to x y notes z) (sym f) h)

pub length-snoc : {A : Type 0} (xs : List A) (x : A) → length (xs ++ x ∷ []) ≡ length xs + 1
length-snoc [] x = refl
length-snoc (y ∷ xs) x = let h = length-snoc xs x in omega arith

-- What a ticket gives to its download, and what the download gives to the ticket's settling.
use Rattle.std.proofs.Common.{◌≡◌, ◌⊎◌, inl, inr, ◌<◌, ◌≤◌, ◌+◌, ◌-◌, ◌&&◌, ◌||◌, ◌==◌, ℕ, suc, Bool, true, false, List, [], ◌∷◌}
use Rattle.std.proofs.Common.{Option, Some, None, IfSome, IsSomeAnd, is_some, option_map, option_and_then, nat_le, nat_lt, All}
use Rattle.std.proofs.Common.{refl, ap, sym, subst, ◌∙◌, arith, not}
use Rattle.std.proofs.lemmas.Bool.{le-leb, eq-eqb}
use Rattle.std.proofs.lemmas.List.Elements.{All-head, All-tail}
use Rattle.acng_site.specs.declared.site.Site.{Ghosts as SiteGhosts}
use Rattle.acng_head.specs.declared.head.Label.{Label}
use Rattle.acng_head.specs.declared.head.Label.TheVariants.{Fetched, Imported}
use Rattle.acng_grow.specs.declared.facts.Seen.{Seen}
use Rattle.acng_grow.specs.declared.facts.Stage.{Stage}
use Rattle.acng_grow.specs.declared.facts.Stage.TheVariants as stage
use Rattle.acng_grow.specs.Grown.{Grown, File, number_in, number_of}
use Rattle.acng_grow.specs.declared.why.Shown.{Shown}
use Rattle.acng_grow.specs.declared.why.Shown.TheVariants as shown
use Rattle.acng_grow.specs.Agrees.{is_among, is_fetched, label_agrees, named_among, cause_agrees}
use Rattle.acng_grow.specs.Causes.{named}
use Rattle.acng_grow.specs.Effects.{Old, Errand}
use Rattle.acng_grow.specs.Stands.{AreFrom, FactsStand, StandsWhole}
use Rattle.acng_grow.specs.Keeps.{IsBounded, IsFetched}
use Rattle.acng_keeper.specs.Handles.{Handle}
use Rattle.acng_rows.specs.Starts.{NamesBelow}
use Rattle.acng_desk.specs.declared.ticket.OldFile.{OldFile}
use Rattle.acng_desk.specs.declared.ticket.PartFile.{PartFile}
use Rattle.acng_desk.specs.Tickets.{Ticketed, IsTicket, IsUnused, IsOld, IsOldBody, IsPart, errand_of, held_of, part_of, first_in, last_in}
use Rattle.acng_desk.specs.Settles.{Ends, IsOwn, was_label}
use Rattle.acng_desk.specs.declared.settle.Settled.{Settled}
use Rattle.acng_desk.specs.declared.settle.Settled.TheVariants as settled
use Rattle.acng_desk.specs.Settles as settles
use Rattle.acng_fetch.specs.Leads.{IsLed, is_full, same_some}
use Rattle.acng_fetch.specs.Loads as loads
use Rattle.acng_fetch.specs.Loads.{IsAmong, IsEnded, Names}
use Rattle.acng_fetch.specs.Orders.{AllServe, PartKeeps, OldKeeps, ErrandKeeps}
use Rattle.acng_fetch.proofs.Tests.{some_is}

-- ---- what a ticket gives

module _ {S : Type 0} (s : SiteGhosts S) (path : List ℕ) where
  part_keeps : (first : ℕ) (p : PartFile) (l : Label) → p.label ≡ l → IsPart s path p → NamesBelow first p.label
      → PartKeeps s path first (part_of p)
  part_keeps first p (Fetched a b) is k below =
      let bounded : IsBounded (Fetched a b) = subst IsBounded is k.bounded in
      let before : NamesBelow first (Fetched a b) = subst (NamesBelow first) is below in
      let one : first_in p.label ≡ a = ap first_in is in
      let two : last_in p.label ≡ b = ap last_in is in
      let same : p.label ≡ Fetched (first_in p.label) (last_in p.label)
      = is ∙ sym (ap (λ n. Fetched n (last_in p.label)) one ∙ ap (λ n. Fetched a n) two) in
      record {
        ordered = omega (arith, bounded.0, one, two);
        before = omega (arith, before, two);
        small = k.small;
        room = k.room;
        dated = k.dated;
        place = k.place;
        facts = subst (λ l. FactsStand s path (Some p.url) l p.facts) same k.stand;
        held = k.within;
      }
  part_keeps first p (Imported hash size) is k below = absurd (subst IsFetched is k.fetched)

  old_keeps : (o : OldFile) → IsOld s path o → OldKeeps s path (held_of o)
  old_keeps o k = record { small = k.small; total = k.total; bounded = k.bounded; dated = k.dated; facts = k.stand }

pub ticket_keeps : {S : Type 0} (s : SiteGhosts S) (tells : Bool) (t : Ticketed) (path : List ℕ) (first : ℕ) (e : Errand)
    → IsTicket s tells t
    → path ≡ t.info.path → first ≡ t.info.first → e ≡ errand_of t.info → ErrandKeeps s path first e
ticket_keeps s tells t path first e k p f is =
    subst (λ x. ErrandKeeps s path first x) (sym is)
    (subst (λ x. ErrandKeeps s x first (errand_of t.info)) (sym p)
    (subst (λ x. ErrandKeeps s t.info.path x (errand_of t.info)) (sym f) keeps))
  where
    serve : (urls : List (List ℕ)) → All (λ u. s.serves u t.info.path ≡ true) urls → AllServe s t.info.path urls
    serve [] a = tt
    serve (u ∷ us) a =
        let P = λ (u : List ℕ). s.serves u t.info.path ≡ true in (All-head P u us a, serve us (All-tail P u us a))

    parts : (o : Option PartFile) → IfSome o (IsPart s t.info.path) → IfSome o (λ p. NamesBelow t.info.first p.label)
        → IfSome (option_map part_of o) (PartKeeps s t.info.path t.info.first)
    parts None i b = tt
    parts (Some p) i b = part_keeps s t.info.path t.info.first p p.label refl i b

    olds : (o : Option OldFile) → IfSome o (IsOld s t.info.path) → IfSome (option_map held_of o) (OldKeeps s t.info.path)
    olds None i = tt
    olds (Some o) i = old_keeps s t.info.path o i

    keeps : ErrandKeeps s t.info.path t.info.first (errand_of t.info)
    keeps = record {
      origins = λ told. serve t.info.origins (k.serve told);
      part = parts t.info.part k.part_file k.part_below;
      old = olds t.info.was k.old_file;
    }

-- ---- what it gets back

all_true : (a b : Bool) → a ≡ true → b ≡ true → a && b ≡ true
all_true true b h k = k
all_true false b h k = absurd cc

first_true : (a b : Bool) → a ≡ true → a || b ≡ true
first_true true b h = refl
first_true false b h = absurd cc

or_true : (a b : Bool) → b ≡ true → a || b ≡ true
or_true true b h = refl
or_true false b h = h

-- an attempt is one of the sixteen
among : (first n : ℕ) → first ≤ n → n < first + 16 → is_among first n ≡ true
among first n low high =
    all_true (nat_le first n) (nat_lt (n - first) 16) (le-leb first n low) (le-leb (suc (n - first)) 16 (omega (arith, low, high)))

pub named_agrees : (first : ℕ) (o : Option Shown) → IfSome o (Names first (first + 16)) → cause_agrees first o ≡ true
named_agrees first None i = refl
named_agrees first (Some c) i = cases (named c) i
  where
    cases : (o : Option ℕ) → IfSome o (λ k. (first ≤ k) × (k < first + 16)) → named_among first o ≡ true
    cases None i = refl
    cases (Some n) i = among first n i.0 i.1

-- a label is of the ticket's attempts
among_agrees : (first : ℕ) (old : Option Label) (o : Option Label) → IfSome o (IsAmong first (first + 16)) → label_agrees first old o ≡ true
among_agrees first old None i = refl
among_agrees first old (Some (Fetched a b)) i = or_true (is_fetched a b old) (is_among first b) (among first b i.0 i.1)
among_agrees first old (Some (Imported hash size)) i = absurd i

-- or it is the old one, which is no import where a moment was asked with
same_agrees : {S : Type 0} (s : SiteGhosts S) (path : List ℕ) (first : ℕ) (was : Option OldFile) → IfSome was (IsOld s path)
    → is_some (option_and_then (λ (o : Old). o.facts.modified) (option_map held_of was)) ≡ true
    → label_agrees first (option_map (λ (o : OldFile). o.label) was) (option_map (λ (o : OldFile). o.label) was) ≡ true
same_agrees s path first None k m = refl
same_agrees s path first (Some o) k m = cases o.label refl
  where
    cases : (l : Label) → o.label ≡ l → label_agrees first (Some o.label) (Some o.label) ≡ true
    cases (Fetched a b) is =
        subst (λ l. label_agrees first (Some l) (Some l) ≡ true) (sym is)
        (let f = all_true (a == a) (b == b) (eq-eqb a a refl) (eq-eqb b b refl) in
        first_true (is_fetched a b (Some (Fetched a b))) (is_among first b) f)
    cases (Imported hash size) is =
        let from : AreFrom s path None (Imported hash size) o.facts = subst (λ l. AreFrom s path None l o.facts) is k.stand.from in
        let none : is_some o.facts.modified ≡ false = ap is_some from.modified in
        absurd (let e : true ≡ false = sym m ∙ none in cc)

old_label : (was : Option OldFile) → option_map (λ (o : Old). o.label) (option_map held_of was) ≡ option_map (λ (o : OldFile). o.label) was
old_label None = refl
old_label (Some o) = refl

among_is : (first : ℕ) (o : Option Label) → IfSome o (IsAmong first (first + 16)) → IfSome o (settles.IsAmong first)
among_is first None i = tt
among_is first (Some (Fetched a b)) i = i
among_is first (Some (Imported hash size)) i = absurd i

-- ---- stages

abbrev is_same : Stage → Bool
is_same stage.Opening = false
is_same stage.Running = false
is_same stage.Whole = false
is_same stage.Cut = false
is_same stage.Same = true
is_same stage.Refused = false

by_same : (st : Stage) (A : Type 0) → (st ≡ stage.Same → A) → ((st ≡ stage.Same → ⊥) → A) → A
by_same stage.Same A f g = f refl
by_same stage.Opening A f g = g (λ e. let x : false ≡ true = ap is_same e in cc)
by_same stage.Running A f g = g (λ e. let x : false ≡ true = ap is_same e in cc)
by_same stage.Whole A f g = g (λ e. let x : false ≡ true = ap is_same e in cc)
by_same stage.Cut A f g = g (λ e. let x : false ≡ true = ap is_same e in cc)
by_same stage.Refused A f g = g (λ e. let x : false ≡ true = ap is_same e in cc)

-- ---- the ticket and the body at the end

module _ (t : Ticketed) (g : Grown) (plan : Seen) (led : IsLed (record { ticket = t; grown = g })) (seen : g.seen ≡ plan)
    (ended : IsEnded (errand_of t.info) t.info.first plan (t.info.first + 16)) where
  now : IsEnded (errand_of t.info) t.info.first g.seen (t.info.first + 16)
  now = subst (λ p. IsEnded (errand_of t.info) t.info.first p (t.info.first + 16)) (sym seen) ended

  pub lead_ends : Ends t g
  lead_ends = record {
    path = led.path;
    opened = now.opened;
    ended = now.ended;
    file = led.file;
    file_same = led.file_same;
    taken_new = led.taken_new;
    taken_part = led.taken_part;
    taken_old = led.taken_old;
    label = λ k. among_is t.info.first g.seen.label (now.among k);
    label_same = λ k. now.same k ∙ old_label t.info.was;
  }

  pub lead_cause : cause_agrees t.info.first g.seen.shown ≡ true
  lead_cause = named_agrees t.info.first g.seen.shown now.names

  pub lead_label : {S : Type 0} (s : SiteGhosts S) → IfSome t.info.was (IsOld s t.info.path)
      → label_agrees t.info.first (was_label t.info) g.seen.label ≡ true
  lead_label s k =
      by_same g.seen.stage (label_agrees t.info.first (was_label t.info) g.seen.label ≡ true)
      (λ e. subst (λ l. label_agrees t.info.first (was_label t.info) l ≡ true) (sym (now.same e ∙ old_label t.info.was))
      (same_agrees s t.info.path t.info.first t.info.was k (now.asked e)))
      (λ n. among_agrees t.info.first (was_label t.info) g.seen.label (now.among n))

-- a fault of the file or want of memory
fault_is : (o : Option Shown) → loads.IsFault o → settles.IsFault o
fault_is None i = i
fault_is (Some (shown.Origin n)) i = i
fault_is (Some (shown.Early n)) i = i
fault_is (Some (shown.Bad n at)) i = i
fault_is (Some (shown.Status n s)) i = i
fault_is (Some (shown.TlsRedirect n)) i = i
fault_is (Some (shown.Redirects n)) i = i
fault_is (Some (shown.Gone n)) i = i
fault_is (Some (shown.Keeper mark)) i = tt
fault_is (Some shown.NoMemory) i = tt

pub lead_loaded : {S : Type 0} (s : SiteGhosts S) (t : Ticketed) (seen plan : Seen) (e : Errand) (left : ℕ) → e ≡ errand_of t.info
    → left ≡ t.left → seen ≡ plan → loads.IsLoaded s e 16 t.info.first left plan → settles.IsLoaded s t seen
lead_loaded s t seen plan e left is l at (inl d) =
    inl (subst (λ p. settles.IsDownload s 16 t.info t.left p) (sym at)
    (subst (λ k. settles.IsDownload s 16 t.info k plan) l (made e is d)))
  where
    made : (x : Errand) → x ≡ errand_of t.info → loads.IsDownload s x 16 t.info.first left plan → settles.IsDownload s 16 t.info left plan
    made x y z =
        let w = subst (λ q. loads.IsDownload s q 16 t.info.first left plan) y z in record { seen = w.seen; rest = w.rest }
lead_loaded s t seen plan e left is l at (inr f) = inr (subst (λ p. settles.IsFault p.shown) (sym at) (fault_is plan.shown f))

-- ---- a body that was refused before a file was taken

abbrev is_refused : Stage → Bool
is_refused stage.Opening = false
is_refused stage.Running = false
is_refused stage.Whole = false
is_refused stage.Cut = false
is_refused stage.Same = false
is_refused stage.Refused = true

other : (st x : Stage) → st ≡ stage.Refused → is_refused x ≡ false → st ≡ x → ⊥
other st x e f k = let z : true ≡ false = sym (ap is_refused e) ∙ ap is_refused k ∙ f in cc

no_id : {A : Type 0} (o : Option A) (id : A → ℕ) (P : ℕ → Type 0) → is_some o ≡ false → IfSome (option_map id o) P
no_id None id P e = tt
no_id (Some x) id P e = absurd cc

no_file : (g : Grown) (P : ℕ → Type 0) → is_some g.file ≡ false → IfSome (number_of g) P
no_file g P e = cases g.file e
  where
    cases : (o : Option File) → is_some o ≡ false → IfSome (number_in o) P
    cases None e = tt
    cases (Some f) e = absurd cc

pub refused_ends : (t : Ticketed) (g : Grown) → IsUnused t → g.path ≡ t.info.path → g.seen.stage ≡ stage.Refused → is_some g.file ≡ false
    → g.seen.label ≡ None → Ends t g
refused_ends t g u path st file label = record {
  path = path;
  opened = other g.seen.stage stage.Opening st refl;
  ended = other g.seen.stage stage.Running st refl;
  file = λ _. no_file g (IsOwn t.info) file;
  file_same = λ k. absurd (other g.seen.stage stage.Same st refl k);
  taken_new = λ k. let z : true ≡ false = sym u.fresh ∙ ap is_some k in absurd cc;
  taken_part = λ k. no_id t.info.part (λ p. p.id) (λ id. number_of g ≡ Some id) (sym u.part_body ∙ ap is_some k);
  taken_old = λ k. no_id t.info.was (λ o. o.id) (λ id. number_of g ≡ Some id) (sym u.old_body ∙ ap is_some k);
  label = λ _. subst (λ l. IfSome l (settles.IsAmong t.info.first)) (sym label) tt;
  label_same = λ k. absurd (other g.seen.stage stage.Same st refl k);
}

-- ---- a ticket that is unused

same_all : (a b : Bool) → b ≡ a → same_some a b ≡ true
same_all true b e = e
same_all false b e = ap not e

pub unused_full : (t : Ticketed) → IsUnused t → is_full t ≡ true
unused_full t u =
    let a = is_some t.fresh in
    let b = same_some (is_some t.info.was) (is_some t.old_body) in
    let c = same_some (is_some t.info.part) (is_some t.part_body) in
    all_true (a && b) c (all_true a b u.fresh (same_all (is_some t.info.was) (is_some t.old_body) u.old_body))
    (same_all (is_some t.info.part) (is_some t.part_body) u.part_body)

pub unused_led : (t : Ticketed) (g : Grown) → IsUnused t → g.path ≡ t.info.path → g.seen.stage ≡ stage.Opening → is_some g.file ≡ false
    → IsLed (record { ticket = t; grown = g })
unused_led t g u path st file = record {
  path = path;
  file = λ _. no_file g (IsOwn t.info) file;
  file_same = λ k. absurd (let x : false ≡ true = ap is_same (sym st ∙ k) in cc);
  taken_new = λ k. let z : true ≡ false = sym u.fresh ∙ ap is_some k in absurd cc;
  taken_part = λ k. no_id t.info.part (λ p. p.id) (λ id. number_of g ≡ Some id) (sym u.part_body ∙ ap is_some k);
  taken_old = λ k. no_id t.info.was (λ o. o.id) (λ id. number_of g ≡ Some id) (sym u.old_body ∙ ap is_some k);
}

-- ---- a held body that is taken

pub old_stands : {S : Type 0} (s : SiteGhosts S) (tells : Bool) (path path' : List ℕ) (was : Option OldFile) (old : Old) (h : Handle)
    → path' ≡ path → option_map held_of was ≡ Some old → IsSomeAnd was (λ o. IsOldBody s tells path o h) → tells ≡ true
    → StandsWhole s path' old.label h.bytes
old_stands s tells path path' None old h p is k t = absurd k
old_stands s tells path path' (Some o) old h p is k t =
    let same : held_of o ≡ old = some_is (held_of o) old is in
    subst (λ l. StandsWhole s path' l h.bytes) (ap (λ x. x.label) same)
    (subst (λ y. StandsWhole s y o.label h.bytes) (sym p) (k.stands t))

-- ---- the same by other names

pub ended_at : (e e' : Errand) (first first' n n' : ℕ) (p : Seen) → e ≡ e' → first ≡ first' → n ≡ n' → IsEnded e first p n
    → IsEnded e' first' p n'
ended_at e e' first first' n n' p a b c k =
    subst (λ x. IsEnded x first' p n') a (subst (λ x. IsEnded e x p n') b (subst (λ x. IsEnded e first p x) c k))

pub loaded_at : {S : Type 0} (s : SiteGhosts S) (e : Errand) (tries tries' first first' left : ℕ) (p : Seen) → tries ≡ tries'
    → first ≡ first' → loads.IsLoaded s e tries first left p → loads.IsLoaded s e tries' first' left p
loaded_at s e tries tries' first first' left p a b k =
    subst (λ x. loads.IsLoaded s e x first' left p) a (subst (λ x. loads.IsLoaded s e tries x left p) b k)

-- ---- what settling says, whatever it answers

pub either : {P : Type 0} (r : Settled P) (A B : Type 0) → settles.IfSettled r A B → A ⊎ B
either settled.Kept A B x = inl x
either settled.Same A B x = inl x
either settled.Partial A B x = inl x
either settled.Dropped A B x = inl x
either (settled.KeeperFault p) A B x = inr x
either settled.NoMemory A B x = inr x

pub either_body : (A B : Type 0) → A ⊎ (B ⊎ A) → B ⊎ A
either_body A B (inl a) = inr a
either_body A B (inr x) = x

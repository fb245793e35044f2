-- A file's note, by what was found.
use Rattle.std.proofs.Common.{◌≡◌, ◌≢◌, inl, inr, ◌⊎◌, ℕ, Bool, true, false, List, length, take, Option, Some, None, IfSome, IsSome}
use Rattle.std.proofs.Common.{is_some, refl, ap, sym, subst, ◌∙◌, arith}
use Rattle.std.specs.Prelude.{cond}
use Rattle.acng_base.specs.declared.clock.Moment.{Moment}
use Rattle.acng_site.specs.declared.site.Site.{Ghosts as SiteGhosts}
use Rattle.acng_head.specs.declared.head.Label.{Label}
use Rattle.acng_head.specs.declared.head.Label.TheVariants.{Fetched, Imported}
use Rattle.acng_grow.specs.declared.facts.Facts.{Facts}
use Rattle.acng_grow.specs.declared.facts.Stage.{Stage}
use Rattle.acng_grow.specs.declared.facts.Stage.TheVariants as stage
use Rattle.acng_grow.specs.declared.why.Shown.{Shown}
use Rattle.acng_grow.specs.Agrees.{label_agrees}
use Rattle.acng_grow.specs.Causes.{IsLawful}
use Rattle.acng_grow.specs.Grown.{Grown, text_of}
use Rattle.acng_grow.specs.Keeps.{IsSound, HasTotal}
use Rattle.acng_grow.specs.Stands.{StandsFor, StandsWhole, FactsStand}
use Rattle.acng_grow.proofs.Steps.{any_place}
use Rattle.acng_rows.specs.declared.row.Whole.{Whole}
use Rattle.std.proofs.Math.Seq.{take-length}
use Rattle.acng_desk.specs.House.{House, facts_of, facts_by}
use Rattle.acng_desk.specs.Begins.{entry_of}
use Rattle.acng_request.specs.declared.got.Request.{Request}
use Rattle.acng_reply.specs.declared.manner.Manner.{Manner}
use Rattle.acng_reply.specs.declared.pick.Pick.{Pick}
use Rattle.acng_reply.specs.declared.pick.Pick.TheVariants.{Unmodified, NoPart, Section, All}
use Rattle.acng_reply.specs.Picks.{pick, is_kept, is_unmodified, lawful_range, by_range, IsPicked}
use Rattle.acng_reply.specs.Replies.{Sent}
use Rattle.acng_reply.proofs.Parts.{picked}
use Rattle.acng_serve.specs.declared.note.Note.{Note}
use Rattle.acng_serve.specs.Notes.{Answer, Found, GivesFile, found, found_by, answer_of}
use Rattle.acng_serve.specs.Answered.{world_of, held_seen, entry_at}
use Rattle.acng_serve.specs.Files.{IsHeldText, IsLoad, AnswersHeld, AnswersLoaded}
use Rattle.acng_serve.specs.Lawful.{IsFound, IsTextOf, IsThere, PartIsThere, FileNote, EndsWhole, EndsCut, EndsBroken}
use Rattle.acng_serve.proofs.Frees.{status_given}

some_is : {A : Type 0} (a : A) → IsSome (Some a)
some_is a = refl

-- ---- what a note has of its answer

pub label_given : {Q : Type 0} (a : Answer Q) (note : Note Q) (io : Sent) → GivesFile a note io → note.label ≡ a.note.label
label_given a note io (inl (inl g)) = ap (λ n. n.label) g.0
label_given a note io (inl (inr b)) = b.label
label_given a note io (inr s) = s.label

pub entry_given : {Q : Type 0} (a : Answer Q) (note : Note Q) (io : Sent) → GivesFile a note io → note.entry ≡ a.note.entry
entry_given a note io (inl (inl g)) = ap (λ n. n.entry) g.0
entry_given a note io (inl (inr b)) = b.entry
entry_given a note io (inr s) = s.entry

part_given : {Q : Type 0} (a : Answer Q) (note : Note Q) (io : Sent) → GivesFile a note io → note.part ≡ a.note.part
part_given a note io (inl (inl g)) = ap (λ n. n.part) g.0
part_given a note io (inl (inr b)) = b.part
part_given a note io (inr s) = s.part

pub entry_by : (Q : Type 0) (m : Manner) (r : Request) (f : Found) (c : Option Shown) → (found_by {Q = Q} m r f c).note.entry ≡ Some f.entry
entry_by Q m r f None = refl
entry_by Q m r f (Some c) = refl

label_by : (Q : Type 0) (m : Manner) (r : Request) (f : Found) (c : Option Shown) → (found_by {Q = Q} m r f c).note.label ≡ f.look.label
label_by Q m r f None = refl
label_by Q m r f (Some c) = refl

whole_by : (Q : Type 0) (m : Manner) (r : Request) (f : Found) (c : Option Shown) → (found_by {Q = Q} m r f c).note.whole ≡ true
whole_by Q m r f None = refl
whole_by Q m r f (Some c) = refl

sent_by_all : (Q : Type 0) (m : Manner) (r : Request) (f : Found) (c : Option Shown)
    → (found_by {Q = Q} m r f c).note.sent ≡ length (found_by {Q = Q} m r f c).reply.body
sent_by_all Q m r f None = refl
sent_by_all Q m r f (Some c) = refl

ends_by : {S Q : Type 0} (s : SiteGhosts S) (m : Manner) (r : Request) (f : Found) (c : Option Shown) (note : Note Q) (io : Sent)
    → GivesFile (found_by m r f c) note io
    → EndsWhole (found_by m r f c) note io ⊎ EndsCut s f.entry.asked (found_by m r f c) note io ⊎ EndsBroken (found_by m r f c) note io
ends_by {S} {Q} s m r f c note io (inl (inl g)) = inl (record {
  cause = ap (λ n. n.cause) g.0;
  whole = ap (λ n. n.whole) g.0 ∙ whole_by Q m r f c;
  sent = ap (λ n. n.sent) g.0 ∙ sent_by_all Q m r f c;
  wrote = g.1;
})
ends_by s m r f c note io (inl (inr b)) = inr (inr (record { cause = b.cause; whole = b.whole; wrote = b.wrote }))
ends_by s m r f c note io (inr b) = inr (inl (record { cause = inr (b.slip, b.cause); whole = b.whole; sent = b.few; wrote = b.wrote }))

-- ---- a note over what was found

module _ {S Q : Type 0} (s : SiteGhosts S) (tells : Bool) (m : Manner) (r : Request) (path : List ℕ) (note : Note Q) (io : Sent)
    (f : Found) where
  pub file_note : IsFound s path f → IsTextOf s tells path f.look.label f.text → (f.look.shown ≡ None
      → IsThere s tells path f.look.label r f)
      → (f.look.shown ≡ None → IsSome f.look.label) → GivesFile (answer_of m r f) note io → FileNote s tells m r path note io
  file_note is text there labelled gives =
      let same : note.label ≡ f.look.label = label_given (answer_of m r f) note io gives ∙ label_by Q m r f f.look.shown in
      record {
        found = f;
        is_found = is;
        entered = entry_given (answer_of m r f) note io gives ∙ entry_by Q m r f f.look.shown;
        stands = subst (λ l. IsTextOf s tells path l f.text) (sym same) text;
        there = λ w k. subst (λ l. IsThere s tells path l r f) (sym same) (there k);
        labelled = λ k. subst IsSome (sym same) (labelled k);
        agrees = λ k. subst (λ l. label_agrees f.entry.asked.first_try f.entry.asked.old l ≡ true) (sym same) (is.label k);
        status = status_given (answer_of m r f) note io gives;
        part = part_given (answer_of m r f) note io gives;
        ends = ends_by s m r f f.look.shown note io gives;
      }

-- ---- what was picked of a whole text is there

pub picked_by : (r : Request) (f : Facts) (b : Bool) → IsPicked f (cond b Unmodified (by_range (lawful_range r f)))
picked_by r f true = tt
picked_by r f false = picked r f

total_of : (f : Facts) (size total : ℕ) → IfSome f.total (λ t. t ≡ size) → f.total ≡ Some total → total ≡ size
total_of f size total has is = subst (λ o. IfSome o (λ t. t ≡ size)) is has

pub there_by : {S : Type 0} (s : SiteGhosts S) (tells : Bool) (path : List ℕ) (label : Option Label) (f : Facts) (text : List ℕ) (p : Pick)
    → IsPicked f p → IfSome f.total (λ t. t ≡ length text) → (s.tells ≡ true → tells ≡ true → IfSome label (λ l. StandsWhole s path l text))
    → PartIsThere s tells path label text p
there_by s tells path label f text Unmodified is total whole = tt
there_by s tells path label f text (NoPart from t) is total whole = tt
there_by s tells path label f text (Section from stop t) is total whole =
    let e = total_of f (length text) t total is.known in let inside = is.inside in omega (arith, e, inside)
there_by s tells path label f text All is total whole = whole

pub there : {S : Type 0} (s : SiteGhosts S) (tells : Bool) (path : List ℕ) (r : Request) (f : Found)
    → IfSome f.look.facts.total (λ t. t ≡ length f.text)
    → (s.tells ≡ true → tells ≡ true → IfSome f.look.label (λ l. StandsWhole s path l f.text)) → IsThere s tells path f.look.label r f
there s tells path r f total whole =
    there_by s tells path f.look.label f.look.facts f.text (pick r (is_kept f.look.stage) f.look.facts)
    (picked_by r f.look.facts (is_unmodified r (is_kept f.look.stage) f.look.facts)) total whole

-- a whole text stands
pub stands_whole : {S : Type 0} (s : SiteGhosts S) (path : List ℕ) (label : Label) (text : List ℕ) → StandsWhole s path label text
    → StandsFor s path label text
stands_whole s path (Fetched first last) text h = λ t. subst (λ k. take (length text) k ≡ text) (sym (h t)) (take-length text)
stands_whole s path (Imported hash size) text h = h

-- ---- held bodies

total_held : (x : Whole) → (facts_of x).total ≡ Some x.size
total_held x = by_label x.label refl
  where
    by_label : (l : Label) → x.label ≡ l → (facts_of x).total ≡ Some x.size
    by_label (Fetched first last) e = ap (λ k. (facts_by k x).total) e
    by_label (Imported hash size) e = ap (λ k. (facts_by k x).total) e

module _ {S Q : Type 0} (s : SiteGhosts S) (tells : Bool) (m : Manner) (r : Request) (path : List ℕ) (now : Moment) (h : House)
    (note : Note Q) (io : Sent) where
  held_found : (x : Whole) (text : List ℕ) → IsHeldText s tells path h x text
      → IsFound s path (found (entry_of path h.plain.next_try (Some x.label) true now) (held_seen x) text)
  held_found x text is = record {
    at = refl;
    kept_label = λ _. refl;
    kept_stage = λ _. refl;
    kept_total = λ _. subst IsSome (sym (total_held x)) (some_is x.size);
    label = λ k. absurd (cc);
    cause = λ k. absurd (cc);
    facts = λ _. is.facts;
    lawful = λ _. tt;
  }

  pub held_note : AnswersHeld s tells m r path now h note io → FileNote s tells m r path note io
  held_note a =
      let f : Found = found (entry_of path h.plain.next_try (Some a.whole.label) true now) (held_seen a.whole) a.text in
      let x = a.whole in
      let size = a.is.size in
      file_note s tells m r path note io f (held_found x a.text a.is)
      (λ t k. stands_whole s path x.label a.text (a.is.stands k))
      (λ _. there s tells path r f (subst (λ o. IfSome o (λ n. n ≡ length a.text)) (sym (total_held x)) (sym size)) (λ t k. a.is.stands k))
      (λ _. some_is x.label) a.gives

-- ---- loaded bodies

-- a body that ended with no cause has all of its file
module _ {S : Type 0} (s : SiteGhosts S) (tells : Bool) (g : Grown) (sound : IsSound s tells g) (opened : g.seen.stage ≢ stage.Opening)
    (grown : g.seen.stage ≢ stage.Running) (unshown : g.seen.shown ≡ None) where
  no_cause : IsSome g.seen.shown → ⊥
  no_cause k = let e : false ≡ true = sym (ap is_some unshown) ∙ k in absurd (cc)

  pub ended : (st : Stage) → g.seen.stage ≡ st → (g.seen.stage ≡ stage.Whole) ⊎ (g.seen.stage ≡ stage.Same)
  ended stage.Opening e = absurd (opened e)
  ended stage.Running e = absurd (grown e)
  ended stage.Whole e = inl e
  ended stage.Cut e = absurd (no_cause (sound.seen.cut e).shown)
  ended stage.Same e = inr e
  ended stage.Refused e = absurd (no_cause (sound.seen.refused e).shown)

  total_by : (g.seen.stage ≡ stage.Whole) ⊎ (g.seen.stage ≡ stage.Same) → HasTotal g.seen.facts g.seen.size
  total_by (inl e) = (sound.seen.whole e).total
  total_by (inr e) = (sound.seen.same e).total

  pub label_by_stage : (g.seen.stage ≡ stage.Whole) ⊎ (g.seen.stage ≡ stage.Same) → IsSome g.seen.label
  label_by_stage (inl e) = (sound.seen.whole e).label
  label_by_stage (inr e) = (sound.seen.same e).label

  pub whole_by_stage : tells ≡ true → (g.seen.stage ≡ stage.Whole) ⊎ (g.seen.stage ≡ stage.Same)
      → IfSome g.seen.label (λ l. StandsWhole s g.path l (text_of g))
  whole_by_stage t (inl e) = (sound.text t).whole e
  whole_by_stage t (inr e) = (sound.text t).same e

module _ {S Q : Type 0} (s : SiteGhosts S) (tells : Bool) (m : Manner) (r : Request) (path : List ℕ) (origins : List (List ℕ))
    (now : Moment)
    (h new : House) (note : Note Q) (io : Sent) where
  loaded_found : (g : Grown) (text : List ℕ) → IsLoad s tells path origins now h g
      → IsFound s path (found (entry_at (world_of s h now) path) g.seen text)
  loaded_found g text is = record {
    at = refl;
    kept_label = λ k. absurd (cc);
    kept_stage = λ k. absurd (cc);
    kept_total = λ k. absurd (cc);
    label = λ _. is.label;
    cause = λ _. is.cause;
    facts = λ _. any_place s path g.seen.url g.seen.label g.seen.facts
        (subst (λ p. IfSome g.seen.label (λ l. FactsStand s p g.seen.url l g.seen.facts)) is.path_is is.sound.seen.facts);
    lawful = λ t. subst (λ p. IfSome g.seen.shown (IsLawful s p)) is.path_is (is.sound.seen.lawful t);
  }

  pub loaded_note : AnswersLoaded s tells m r path origins now h new note io → FileNote s tells m r path note io
  loaded_note a =
      let g : Grown = a.body in
      let text : List ℕ = a.sends.text in
      let f : Found = found (entry_at (world_of s h now) path) g.seen text in
      let sound = a.is.sound in
      let size = a.sends.size in
      file_note s tells m r path note io f (loaded_found g text a.is)
      (λ t k. subst (λ x. IfSome g.seen.label (λ l. StandsFor s path l x)) (sym (a.sends.is k))
      (subst (λ p. IfSome g.seen.label (λ l. StandsFor s p l (text_of g))) a.is.path_is (sound.text k).stands))
      (λ u.
      let e = ended s tells g sound a.is.opened a.is.grown u g.seen.stage refl in
      there s tells path r f (subst (λ n. HasTotal g.seen.facts n) (sym size) (total_by s tells g sound a.is.opened a.is.grown u e))
      (λ t k. subst (λ x. IfSome g.seen.label (λ l. StandsWhole s path l x)) (sym (a.sends.is k))
      (subst (λ p. IfSome g.seen.label (λ l. StandsWhole s p l (text_of g))) a.is.path_is
      (whole_by_stage s tells g sound a.is.opened a.is.grown u k e))))
      (λ u. label_by_stage s tells g sound a.is.opened a.is.grown u (ended s tells g sound a.is.opened a.is.grown u g.seen.stage refl))
      a.sends.gives

-- The answer is the function's, where it isn't free.
use Rattle.std.proofs.Common.{◌≡◌, ◌≢◌, inl, inr, ◌⊎◌, ℕ, Bool, true, false, List, Option, Some, None, refl, ap, sym, subst, ◌∙◌}
use Rattle.acng_base.specs.declared.clock.Moment.{Moment}
use Rattle.acng_site.specs.declared.site.Site.{Ghosts as SiteGhosts}
use Rattle.acng_class.specs.declared.class.Class.{Class}
use Rattle.acng_class.specs.declared.class.Class.TheVariants.{Solid, Volatile, Forbidden}
use Rattle.acng_grow.specs.declared.asked.Look.{Look}
use Rattle.acng_grow.specs.declared.why.Shown.{Shown}
use Rattle.acng_grow.specs.Grown.{Grown}
use Rattle.acng_rows.specs.Rows.{whole_at}
use Rattle.acng_desk.specs.declared.case.Case.{Case}
use Rattle.acng_desk.specs.declared.case.Case.TheVariants as case
use Rattle.acng_desk.specs.declared.entry.Entry.{Entry}
use Rattle.acng_desk.specs.Begins.{begin_case, entry_of}
use Rattle.acng_desk.specs.House.{House, spot_at}
use Rattle.acng_desk.specs.Settles.{IsFault}
use Rattle.acng_request.specs.declared.got.Request.{Request}
use Rattle.acng_reply.specs.declared.manner.Manner.{Manner}
use Rattle.acng_reply.specs.Replies.{Sent}
use Rattle.acng_serve.specs.declared.note.Note.{Note}
use Rattle.acng_serve.specs.declared.note.Cause.TheVariants as cause
use Rattle.acng_serve.specs.Notes.{Gives, GivesFile, lined, found, found_by, answer_of, look_of, is_free}
use Rattle.acng_serve.specs.Answered.{World, world_of, held_seen, found_loaded, seen_at, text_at, entry_at, by_whole, by_case}
use Rattle.acng_serve.specs.Answered.{by_class}
use Rattle.acng_serve.specs.Files.{AnswersHeld, AnswersLoaded, AnswersCase, AnswersSlip, AnswersFile}
use Rattle.acng_serve.proofs.Frees.{unslipped, slip_free, lack_free, fault_free}

-- the text doesn't matter to a body that broke off
other_text : {Q : Type 0} (m : Manner) (r : Request) (e : Entry) (l : Look) (c : Option Shown) (text other : List ℕ) (note : Note Q)
    (io : Sent)
    → (c ≡ None → text ≡ other) → Gives (found_by m r (record { entry = e; look = l; text = text }) c) note io
    → Gives (found_by m r (record { entry = e; look = l; text = other }) c) note io
other_text m r e l (Some c) text other note io same g = g
other_text m r e l None text other note io same g =
    subst (λ t. Gives (found_by m r (record { entry = e; look = l; text = t }) None) note io) (same refl) g

module _ {S Q : Type 0} (s : SiteGhosts S) (tells : Bool) (m : Manner) (r : Request) (path : List ℕ) (origins : List (List ℕ))
    (now : Moment) (h new : House) (note : Note Q) (io : Sent) (free : is_free note ≡ false) (told : s.tells ≡ true)
    (kept : tells ≡ true) where
  abbrev w : World
  w = world_of s h now

  exact_held : AnswersHeld s tells m r path now h note io → Gives (by_whole m w r path (whole_at h.plain.rows path)).answer note io
  exact_held a =
      let g = unslipped (answer_of m r (found (entry_of path h.plain.next_try (Some a.whole.label) true now)
      (held_seen a.whole) a.text)) note io free a.gives in
      let same = subst (λ t. Gives (answer_of m r (found (entry_of path h.plain.next_try (Some a.whole.label) true now)
      (held_seen a.whole) t)) note io)
      (a.is.bytes kept) g in
      subst (λ x. Gives (by_whole m w r path x).answer note io) (sym a.is.is) same

  -- the body is the download's
  alike : (g : Grown) (text : List ℕ) → look_of g.seen ≡ look_of (seen_at w path origins)
      → (g.seen.shown ≡ None → text ≡ text_at w path origins)
      → Gives (answer_of m r (found (entry_at w path) g.seen text)) note io → Gives (answer_of m r (found_loaded w path origins)) note io
  alike g text same texts gives =
      let L = look_of (seen_at w path origins) in
      let e = entry_at w path in
      let moved = subst (λ (l : Look). Gives (found_by m r (record { entry = e; look = l; text = text }) l.shown) note io) same gives in
      other_text m r e L L.shown text (text_at w path origins) note io
      (λ k. texts (ap (λ (l : Look). l.shown) same ∙ k)) moved

  loaded_by : (g : Grown) (text : List ℕ) → (look_of g.seen ≡ look_of (seen_at w path origins)) ⊎ IsFault g.seen.shown
      → (g.seen.shown ≡ None → text ≡ text_at w path origins)
      → GivesFile (answer_of m r (found (entry_at w path) g.seen text)) note io
      → Gives (answer_of m r (found_loaded w path origins)) note io
  loaded_by g text (inl same) texts gives =
      alike g text same texts (unslipped (answer_of m r (found (entry_at w path) g.seen text)) note io free gives)
  loaded_by g text (inr fault) texts gives =
      let e : true ≡ false = sym (fault_free m r (found (entry_at w path) g.seen text) g.seen.shown note io fault gives)
      ∙ free in absurd (cc)

  exact_loaded : AnswersLoaded s tells m r path origins now h new note io → Gives (answer_of m r (found_loaded w path origins)) note io
  exact_loaded a = loaded_by a.body a.sends.text (a.is.seen told) (λ k. a.sends.is kept ∙ a.is.text told kept k) a.sends.gives

  exact_case : (c : Case) → AnswersCase s tells m r path origins now h new note io c → Gives (by_case m w r path origins c).answer note io
  exact_case case.Join a = absurd a
  exact_case case.Keep a = exact_held a
  exact_case case.Offline a = a
  exact_case case.Full a = a
  exact_case case.Worn a = a
  exact_case case.Lead a = exact_loaded a

  -- a slip that let no request in, and want of memory, are free
  exact_by : (c : Case) → AnswersCase s tells m r path origins now h new note io c ⊎ AnswersSlip m h new note io
      ⊎ Gives (lined m cause.NoMemory None None) note io
      → Gives (by_case m w r path origins c).answer note io
  exact_by c (inl a) = exact_case c a
  exact_by c (inr (inl k)) =
      let e : true ≡ false = sym (slip_free m (cause.KeeperSlip k.slip) note io refl k.gives) ∙ free in absurd (cc)
  exact_by c (inr (inr k)) = let e : true ≡ false = sym (lack_free m cause.NoMemory note io refl k) ∙ free in absurd (cc)

  pub exact_file : (class : Class) → class ≢ Forbidden → AnswersFile s tells m r path class origins now h new note io
      → Gives (by_class m w r path origins class).answer note io
  exact_file Solid passed a = exact_by (begin_case (spot_at h.plain path) Solid now.0) a.answers
  exact_file Volatile passed a = exact_by (begin_case (spot_at h.plain path) Volatile now.0) a.answers
  exact_file Forbidden passed a = absurd (passed refl)

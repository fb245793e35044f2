-- What is not free.
use Rattle.std.proofs.Common.{◌≡◌, inl, inr, ◌⊎◌, ℕ, Bool, true, false, ◌||◌, ◌==◌, Option, Some, None, refl, ap, sym, ◌∙◌}
use Rattle.acng_grow.specs.declared.why.Shown.{Shown}
use Rattle.acng_grow.specs.declared.why.Shown.TheVariants as shown
use Rattle.acng_desk.specs.Settles.{IsFault}
use Rattle.acng_request.specs.declared.got.Request.{Request}
use Rattle.acng_reply.specs.declared.manner.Manner.{Manner}
use Rattle.acng_reply.specs.declared.pick.Pick.{Pick}
use Rattle.acng_reply.specs.declared.pick.Pick.TheVariants.{Unmodified, NoPart, Section, All}
use Rattle.acng_reply.specs.Picks.{pick, is_kept}
use Rattle.acng_reply.specs.Replies.{Sent}
use Rattle.acng_serve.specs.declared.note.Note.{Note}
use Rattle.acng_serve.specs.declared.note.Cause.{Cause}
use Rattle.acng_serve.specs.Causes.{is_slip, pick_cause}
use Rattle.acng_serve.specs.Notes.{Answer, Found, Gives, GivesFile, lined, found_by, answer_of, is_free}

or_last : (a b c : Bool) → c ≡ true → (a || b || c) ≡ true
or_last true b c e = refl
or_last false true c e = refl
or_last false false c e = e

free_slip : {Q : Type 0} (note : Note Q) → is_slip note.cause ≡ true → is_free note ≡ true
free_slip note e = or_last (note.status == 500) (note.status == 507) (is_slip note.cause) e

free_500 : {Q : Type 0} (note : Note Q) → note.status ≡ 500 → is_free note ≡ true
free_500 note e = ap (λ n. (n == 500) || (n == 507) || is_slip note.cause) e

free_507 : {Q : Type 0} (note : Note Q) → note.status ≡ 507 → is_free note ≡ true
free_507 note e = ap (λ n. (n == 500) || (n == 507) || is_slip note.cause) e

-- a note tells of its answer's status, whether the link failed or not
pub status_given : {Q : Type 0} (a : Answer Q) (note : Note Q) (io : Sent) → GivesFile a note io → note.status ≡ a.note.status
status_given a note io (inl (inl g)) = ap (λ n. n.status) g.0
status_given a note io (inl (inr b)) = b.status
status_given a note io (inr s) = s.status

-- what isn't free has no slip
pub unslipped : {Q : Type 0} (a : Answer Q) (note : Note Q) (io : Sent) → is_free note ≡ false → GivesFile a note io → Gives a note io
unslipped a note io free (inl g) = g
unslipped a note io free (inr s) = let e : true ≡ false = sym (free_slip note (ap is_slip s.cause)) ∙ free in absurd (cc)

-- a slip that let no request in is free, and so is want of memory
pub slip_free : {Q : Type 0} (m : Manner) (c : Cause Q) (note : Note Q) (io : Sent) → (lined m c None None).note.status ≡ 500
    → Gives (lined m c None None) note io → is_free note ≡ true
slip_free m c note io is g = free_500 note (status_given (lined m c None None) note io (inl g) ∙ is)

pub lack_free : {Q : Type 0} (m : Manner) (c : Cause Q) (note : Note Q) (io : Sent) → (lined m c None None).note.status ≡ 507
    → Gives (lined m c None None) note io → is_free note ≡ true
lack_free m c note io is g = free_507 note (status_given (lined m c None None) note io (inl g) ∙ is)

-- so is a body that the keeper, or want of memory, ended
fault_status : (Q : Type 0) (m : Manner) (r : Request) (f : Found) (c : Option Shown) → IsFault c
    → ((found_by {Q = Q} m r f c).note.status ≡ 500) ⊎ ((found_by {Q = Q} m r f c).note.status ≡ 507)
fault_status Q m r f None h = absurd h
fault_status Q m r f (Some (shown.Origin n)) h = absurd h
fault_status Q m r f (Some (shown.Early n)) h = absurd h
fault_status Q m r f (Some (shown.Bad n at)) h = absurd h
fault_status Q m r f (Some (shown.Status n s)) h = absurd h
fault_status Q m r f (Some (shown.TlsRedirect n)) h = absurd h
fault_status Q m r f (Some (shown.Redirects n)) h = absurd h
fault_status Q m r f (Some (shown.Gone n)) h = absurd h
fault_status Q m r f (Some (shown.Keeper k)) h = inl refl
fault_status Q m r f (Some shown.NoMemory) h = inr refl

by_status : {Q : Type 0} (note : Note Q) (status : ℕ) → note.status ≡ status → (status ≡ 500) ⊎ (status ≡ 507) → is_free note ≡ true
by_status note status e (inl k) = free_500 note (e ∙ k)
by_status note status e (inr k) = free_507 note (e ∙ k)

pub fault_free : {Q : Type 0} (m : Manner) (r : Request) (f : Found) (c : Option Shown) (note : Note Q) (io : Sent) → IsFault c
    → GivesFile (found_by m r f c) note io → is_free note ≡ true
fault_free {Q} m r f c note io h g =
    by_status note (found_by {Q = Q} m r f c).note.status (status_given (found_by m r f c) note io g) (fault_status Q m r f c h)

-- ---- slips

-- a line says of no slip but its own
pub line_slip : {Q : Type 0} (m : Manner) (c : Cause Q) (note : Note Q) (io : Sent) → is_slip c ≡ false
    → Gives (lined m c None None) note io
    → is_slip note.cause ≡ true → ⊥
line_slip m c note io other (inl g) is = let e : true ≡ false = sym is ∙ ap (λ n. is_slip n.cause) g.0 ∙ other in absurd (cc)
line_slip m c note io other (inr b) is = let e : true ≡ false = sym is ∙ ap is_slip b.cause in absurd (cc)

pick_slip : (Q : Type 0) (p : Pick) → is_slip (pick_cause {Q = Q} p) ≡ false
pick_slip Q Unmodified = refl
pick_slip Q (NoPart from total) = refl
pick_slip Q (Section from stop total) = refl
pick_slip Q All = refl

found_slip : (Q : Type 0) (m : Manner) (r : Request) (f : Found) (c : Option Shown) → is_slip (found_by {Q = Q} m r f c).note.cause ≡ false
found_slip Q m r f (Some c) = refl
found_slip Q m r f None = pick_slip Q (pick r (is_kept f.look.stage) f.look.facts)

-- a file's reply that is whole says of none
pub file_slip : {Q : Type 0} (m : Manner) (r : Request) (f : Found) (note : Note Q) (io : Sent) → GivesFile (answer_of m r f) note io
    → is_slip note.cause ≡ true → note.whole ≡ true → ⊥
file_slip {Q} m r f note io (inl (inl g)) is whole =
    let e : true ≡ false = sym is ∙ ap (λ n. is_slip n.cause) g.0 ∙ found_slip Q m r f f.look.shown in absurd (cc)
file_slip m r f note io (inl (inr b)) is whole = let e : true ≡ false = sym is ∙ ap is_slip b.cause in absurd (cc)
file_slip m r f note io (inr s) is whole = let e : true ≡ false = sym whole ∙ s.whole in absurd (cc)

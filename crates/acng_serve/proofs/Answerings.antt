-- What a call that answers one request gives, by the way that its target leads.
use Rattle.std.proofs.Common.{◌≡◌, ◌≢◌, inl, inr, ◌⊎◌, ℕ, Bool, true, false, List, Option, Some, None, Ok, Err}
use Rattle.std.proofs.Common.{IfSome, refl, ap, sym, subst, ◌∙◌}
use Rattle.acng_base.specs.declared.clock.Moment.{Moment}
use Rattle.acng_site.specs.declared.site.Site.{Ghosts as SiteGhosts}
use Rattle.acng_conf.specs.Settings.{Settings}
use Rattle.acng_remap.specs.Readings.{Reading, reading}
use Rattle.acng_remap.specs.declared.target.Target.TheVariants.{File, Page}
use Rattle.acng_remap.specs.declared.target.TargetFault.{TargetFault}
use Rattle.acng_remap.specs.declared.target.TargetFault.TheVariants as target
use Rattle.acng_class.specs.declared.class.Class.{Class}
use Rattle.acng_class.specs.declared.class.Class.TheVariants.{Solid, Volatile, Forbidden}
use Rattle.acng_class.specs.Classes.{class_of}
use Rattle.acng_keeper.specs.Slips.{Later, HasFailed}
use Rattle.acng_request.specs.declared.got.Request.{Request}
use Rattle.acng_rows.specs.declared.row.Whole.{Whole}
use Rattle.acng_rows.specs.Rows.{whole_in}
use Rattle.acng_desk.specs.declared.case.Case.{Case}
use Rattle.acng_desk.specs.declared.case.Case.TheVariants as case
use Rattle.acng_desk.specs.declared.entry.BrimKind.TheVariants as brim
use Rattle.acng_desk.specs.Begins.{begin_case, entry_of}
use Rattle.acng_desk.specs.House.{House, spot_at}
use Rattle.acng_reply.specs.declared.manner.Manner.{Manner}
use Rattle.acng_reply.specs.Replies.{Sent}
use Rattle.acng_serve.specs.declared.note.Cause.{Cause}
use Rattle.acng_serve.specs.declared.note.Cause.TheVariants as cause
use Rattle.acng_serve.specs.declared.note.Note.{Note}
use Rattle.acng_serve.specs.Causes.{brim_cause, target_cause, is_slip}
use Rattle.acng_serve.specs.Notes.{Gives, lined, found, is_free}
use Rattle.acng_serve.specs.Answered.{World, Answered, world_of, held_seen, entry_at, answered_as, by_target, by_visit, by_class, by_case, by_whole}
use Rattle.acng_serve.specs.Answers.{AnswersAt, AfterAny, SettledAny, VisitsBy}
use Rattle.acng_serve.specs.Files.{AnswersCase, AnswersFile, AnswersSlip, Leaves}
use Rattle.acng_serve.specs.Headline.{SendsFile, SendsFiles}
use Rattle.acng_serve.specs.Lawful.{IsLawfulNote, ByTarget, ByVisit, ByClass, FileNote, BrimNote}
use Rattle.acng_serve.specs.Pages.{Visit, Shows, Runs, Forbids, Visits, visit_of}
use Rattle.acng_serve.specs.Ways.{LeadsToFile, refusal_of, visit_refusal, class_refusal}
use Rattle.acng_serve.proofs.Exact.{exact_file}
use Rattle.acng_serve.proofs.Expiring.{not_begun}
use Rattle.acng_serve.proofs.FileNotes.{held_note, loaded_note}
use Rattle.acng_serve.proofs.Filing.{line_moment}
use Rattle.acng_serve.proofs.Frees.{lack_free, slip_free, line_slip, file_slip}
use Rattle.acng_serve.proofs.Headlines.{sends_file, no_file}

same_path : (p q : List ℕ) (o l : List (List ℕ)) → ◌≡◌ {A = Reading} (Ok (File p o)) (Ok (File q l)) → p ≡ q
same_path p q o l e = cc

-- what holds of every answer
pub on_any : {A : Type 0} (P : A → Type 0) (o : Option A) → ((a : A) → P a) → IfSome o P
on_any P None f = tt
on_any P (Some a) f = f a

-- as it was
after_same : {S : Type 0} (s : SiteGhosts S) (o : Option (List ℕ × List (List ℕ))) (now : Moment) (old new : House) → new.plain ≡ old.plain
    → AfterAny s o now old new
after_same s None now old new e = e
after_same s (Some f) now old new e = inl e

module _ {S Q : Type 0} (s : SiteGhosts S) (tells : Bool) (conf : Settings) (m : Manner) (r : Request) (now : Moment) (old new : House)
    (note : Note Q) (io : Sent) where
  abbrev w : World
  w = world_of s old now

  -- ---- refusals

  -- want of memory
  lacks_visit : (v : Visit) → Gives (lined m cause.NoMemory None None) note io → new ≡ old → Visits tells m now old new note io v
  lacks_visit Shows g same = record { gives = inr g; same = same }
  lacks_visit Runs g same = inr (record { gives = g; ended = not_begun tells now old new same })
  lacks_visit Forbids g same = tt

  lacks_target : (t : Reading) → Gives (lined m cause.NoMemory None None) note io → new ≡ old
      → VisitsBy tells conf m now old new note io t
  lacks_target (Err fault) g same = tt
  lacks_target (Ok (Page query)) g same = lacks_visit (visit_of conf query) g same
  lacks_target (Ok (File path origins)) g same = tt

  pub lacks : Gives (lined m cause.NoMemory None None) note io → new ≡ old → Later old.faults new.faults
      → AnswersAt s tells conf m r now old new note io
  lacks g same later = record {
    exact = λ t free. let e : true ≡ false = sym (lack_free m cause.NoMemory note io refl g) ∙ free in absurd (cc);
    page = lacks_target (reading conf r.method r.target) g same;
    lawful = inr (inr g);
    sends = λ t k. no_file s conf m r cause.NoMemory note io g;
    settles = λ free. let e : true ≡ false = sym (lack_free m cause.NoMemory note io refl g) ∙ free in absurd (cc);
    leaves = on_any _ (answered_as {Q = Q} conf m w r) (λ a. after_same s a.loads now old new (ap (λ h. h.plain) same));
    moment = line_moment m cause.NoMemory note io now g;
    slip = λ is whole. absurd (line_slip m cause.NoMemory note io refl g is);
    later = on_any _ (answered_as {Q = Q} conf m w r) (λ a. later);
  }

  -- a file that isn't passed on
  class_gives : (c : Cause Q) (path : List ℕ) (origins : List (List ℕ)) (class : Class) → class_refusal class ≡ Some c
      → Gives (lined m c None None) note io → Gives (by_class m w r path origins class).answer note io
      × ByClass s tells m r path note io class
  class_gives c path origins Solid e g = let k : None ≡ Some c = e in absurd (cc)
  class_gives c path origins Volatile e g = let k : None ≡ Some c = e in absurd (cc)
  class_gives c path origins Forbidden e g =
      let k : cause.Forbidden ≡ c = cc in
      let h = subst (λ x. Gives (lined m x None None) note io) (sym k) g in
      (h, h)

  -- a run that isn't allowed
  visit_gives : (c : Cause Q) (v : Visit) → visit_refusal v ≡ Some c → Gives (lined m c None None) note io
      → IfSome (by_visit m v) (λ a. Gives a.answer note io) × ByVisit tells m now note io v
  visit_gives c Shows e g = let k : None ≡ Some c = e in absurd (cc)
  visit_gives c Runs e g = let k : None ≡ Some c = e in absurd (cc)
  visit_gives c Forbids e g =
      let k : cause.Maint ≡ c = cc in
      let h = subst (λ x. Gives (lined m x None None) note io) (sym k) g in
      (h, h)

  -- what leads nowhere
  target_gives : (c : Cause Q) (t : Reading) → refusal_of conf t ≡ Some c → Gives (lined m c None None) note io
      → IfSome (by_target conf m w r t) (λ a. Gives a.answer note io) × ByTarget s tells conf m r now note io t
  target_gives c (Err fault) e g =
      let k : target_cause fault ≡ c = cc in
      let h = subst (λ x. Gives (lined m x None None) note io) (sym k) g in
      (h, h)
  target_gives c (Ok (Page query)) e g = visit_gives c (visit_of conf query) e g
  target_gives c (Ok (File path origins)) e g = class_gives c path origins (class_of conf.pfile_pattern conf.vfile_pattern path) e g

  fault_slip : (f : TargetFault) → is_slip (target_cause {Q = Q} f) ≡ false
  fault_slip target.NoMemory = refl
  fault_slip target.Connect = refl
  fault_slip target.Tls = refl
  fault_slip target.BadTarget = refl
  fault_slip target.Query = refl
  fault_slip (target.BadPath f) = refl

  class_slip : (c : Cause Q) (class : Class) → class_refusal class ≡ Some c → is_slip c ≡ false
  class_slip c Solid e = let k : None ≡ Some c = e in absurd (cc)
  class_slip c Volatile e = let k : None ≡ Some c = e in absurd (cc)
  class_slip c Forbidden e = let k : c ≡ cause.Forbidden = cc in ap is_slip k

  visit_slip : (c : Cause Q) (v : Visit) → visit_refusal v ≡ Some c → is_slip c ≡ false
  visit_slip c Shows e = let k : None ≡ Some c = e in absurd (cc)
  visit_slip c Runs e = let k : None ≡ Some c = e in absurd (cc)
  visit_slip c Forbids e = let k : c ≡ cause.Maint = cc in ap is_slip k

  refusal_slip : (c : Cause Q) (t : Reading) → refusal_of conf t ≡ Some c → is_slip c ≡ false
  refusal_slip c (Err fault) e = let k : c ≡ target_cause fault = cc in ap is_slip k ∙ fault_slip fault
  refusal_slip c (Ok (Page query)) e = visit_slip c (visit_of conf query) e
  refusal_slip c (Ok (File path origins)) e = class_slip c (class_of conf.pfile_pattern conf.vfile_pattern path) e

  class_loads : (c : Cause Q) (path : List ℕ) (origins : List (List ℕ)) (class : Class) → class_refusal class ≡ Some c
      → (by_class {Q = Q} m w r path origins class).loads ≡ None
  class_loads c path origins Solid e = let k : None ≡ Some c = e in absurd (cc)
  class_loads c path origins Volatile e = let k : None ≡ Some c = e in absurd (cc)
  class_loads c path origins Forbidden e = refl

  visit_settles : (c : Cause Q) (v : Visit) → visit_refusal v ≡ Some c → new.plain ≡ old.plain
      → IfSome (by_visit {Q = Q} m v) (λ a. SettledAny s a.loads now old new)
  visit_settles c Shows e same = tt
  visit_settles c Runs e same = tt
  visit_settles c Forbids e same = same

  target_settles : (c : Cause Q) (t : Reading) → refusal_of conf t ≡ Some c → new.plain ≡ old.plain
      → IfSome (by_target {Q = Q} conf m w r t) (λ a. SettledAny s a.loads now old new)
  target_settles c (Err fault) e same = same
  target_settles c (Ok (Page query)) e same = visit_settles c (visit_of conf query) e same
  target_settles c (Ok (File path origins)) e same = subst (λ o. SettledAny s o now old new)
      (sym (class_loads c path origins (class_of conf.pfile_pattern conf.vfile_pattern path) e)) same

  -- a refusal shows no page
  visit_none : (c : Cause Q) (v : Visit) → visit_refusal v ≡ Some c → Visits tells m now old new note io v
  visit_none c Shows e = let k : None ≡ Some c = e in absurd (cc)
  visit_none c Runs e = let k : None ≡ Some c = e in absurd (cc)
  visit_none c Forbids e = tt

  target_none : (c : Cause Q) (t : Reading) → refusal_of conf t ≡ Some c → VisitsBy tells conf m now old new note io t
  target_none c (Err fault) e = tt
  target_none c (Ok (Page query)) e = visit_none c (visit_of conf query) e
  target_none c (Ok (File path origins)) e = tt

  pub refused : (c : Cause Q) → refusal_of conf (reading conf r.method r.target) ≡ Some c → Gives (lined m c None None) note io
      → new.plain ≡ old.plain → Later old.faults new.faults → AnswersAt s tells conf m r now old new note io
  refused c e g same later =
      let h = target_gives c (reading conf r.method r.target) e g in
      record {
        exact = λ t free. h.0;
        page = target_none c (reading conf r.method r.target) e;
        lawful = inl h.1;
        sends = λ t k. no_file s conf m r c note io g;
        settles = λ free. target_settles c (reading conf r.method r.target) e same;
        leaves = on_any _ (answered_as {Q = Q} conf m w r) (λ a. after_same s a.loads now old new same);
        moment = line_moment m c note io now g;
        slip = λ is whole. absurd (line_slip m c note io (refusal_slip c (reading conf r.method r.target) e) g is);
        later = on_any _ (answered_as {Q = Q} conf m w r) (λ a. later);
      }

  -- ---- files

  module _ (path : List ℕ) (origins : List (List ℕ)) (class : Class) (way : LeadsToFile conf r path origins class)
      (a : AnswersFile s tells m r path class origins now old new note io) where
    class_note : FileNote s tells m r path note io ⊎ BrimNote m path note io → (c : Class) → c ≢ Forbidden
        → ByClass s tells m r path note io c
    class_note n Solid p = n
    class_note n Volatile p = n
    class_note n Forbidden p = absurd (p refl)

    case_note : (c : Case) → AnswersCase s tells m r path origins now old new note io c → FileNote s tells m r path note io
        ⊎ BrimNote m path note io
    case_note case.Join x = absurd x
    case_note case.Keep x = inl (held_note s tells m r path now old note io x)
    case_note case.Offline x = inr (record { kind = brim.Offline; gives = x })
    case_note case.Full x = inr (record { kind = brim.Full; gives = x })
    case_note case.Worn x = inr (record { kind = brim.Worn; gives = x })
    case_note case.Lead x = inl (loaded_note s tells m r path origins now old new note io x)

    to_target : ByClass s tells m r path note io class → ByTarget s tells conf m r now note io (reading conf r.method r.target)
    to_target b = subst (ByTarget s tells conf m r now note io) (sym way.read) (subst (ByClass s tells m r path note io) way.class_is b)

    lawful_by : AnswersCase s tells m r path origins now old new note io (begin_case (spot_at old.plain path) class now.0)
        ⊎ AnswersSlip m old new note io ⊎ Gives (lined m cause.NoMemory None None) note io → IsLawfulNote s tells conf m r now note io
    lawful_by (inl x) = inl (to_target (class_note (case_note (begin_case (spot_at old.plain path) class now.0) x) class way.passed))
    lawful_by (inr (inl x)) = inr (inl (record { slip = x.slip; gives = x.gives }))
    lawful_by (inr (inr x)) = inr (inr x)

    to_answer : Gives (by_class m w r path origins class).answer note io
        → IfSome (answered_as conf m w r) (λ a. Gives a.answer note io)
    to_answer g = subst (λ t. IfSome (by_target conf m w r t) (λ a. Gives a.answer note io)) (sym way.read)
        (subst (λ c. Gives (by_class m w r path origins c).answer note io) way.class_is g)

    sends_note : s.tells ≡ true → tells ≡ true → FileNote s tells m r path note io ⊎ BrimNote m path note io → SendsFiles s conf m r note io
    sends_note t k (inl n) = λ other others is bare status.
        let got = way.read in
        let same : path ≡ other = same_path path other origins others (sym got ∙ is) in
        subst (λ p. SendsFile s p m r note io) same (sends_file s tells m r path note io t k bare n status)
    sends_note t k (inr b) = no_file s conf m r (brim_cause b.kind path) note io b.gives

    sends_by : s.tells ≡ true → tells ≡ true
        → AnswersCase s tells m r path origins now old new note io (begin_case (spot_at old.plain path) class now.0)
        ⊎ AnswersSlip m old new note io ⊎ Gives (lined m cause.NoMemory None None) note io → SendsFiles s conf m r note io
    sends_by t k (inl x) = sends_note t k (case_note (begin_case (spot_at old.plain path) class now.0) x)
    sends_by t k (inr (inl x)) = no_file s conf m r (cause.KeeperSlip x.slip) note io x.gives
    sends_by t k (inr (inr x)) = no_file s conf m r cause.NoMemory note io x

    case_slip : (c : Case) → AnswersCase s tells m r path origins now old new note io c → is_slip note.cause ≡ true → note.whole ≡ true → ⊥
    case_slip case.Join x is whole = x
    case_slip case.Keep x is whole =
        file_slip m r (found (entry_of path old.plain.next_try (Some x.whole.label) true now)
        (held_seen x.whole) x.text) note io x.gives is whole
    case_slip case.Offline x is whole = line_slip m (brim_cause brim.Offline path) note io refl x is
    case_slip case.Full x is whole = line_slip m (brim_cause brim.Full path) note io refl x is
    case_slip case.Worn x is whole = line_slip m (brim_cause brim.Worn path) note io refl x is
    case_slip case.Lead x is whole = file_slip m r (found (entry_at w path) x.body.seen x.sends.text) note io x.sends.gives is whole

    slip_by : AnswersCase s tells m r path origins now old new note io (begin_case (spot_at old.plain path) class now.0)
        ⊎ AnswersSlip m old new note io ⊎ Gives (lined m cause.NoMemory None None) note io
        → is_slip note.cause ≡ true → note.whole ≡ true → HasFailed old.faults new.faults
    slip_by (inl x) is whole = absurd (case_slip (begin_case (spot_at old.plain path) class now.0) x is whole)
    slip_by (inr (inl x)) is whole = x.failed
    slip_by (inr (inr x)) is whole = absurd (line_slip m cause.NoMemory note io refl x is)

    whole_loads : (o : Option Whole) → (by_whole {Q = Q} m w r path o).loads ≡ None
    whole_loads None = refl
    whole_loads (Some x) = refl

    leaves_case : (c : Case) → Leaves s path origins now old.plain new.plain c
        → AfterAny s (by_case {Q = Q} m w r path origins c).loads now old new
    leaves_case case.Join l = l
    leaves_case case.Keep l = subst (λ o. AfterAny s o now old new) (sym (whole_loads (whole_in (w.spot path).row))) l
    leaves_case case.Offline l = l
    leaves_case case.Full l = l
    leaves_case case.Worn l = l
    leaves_case case.Lead l = l

    leaves_class : (c : Class) → c ≢ Forbidden → Leaves s path origins now old.plain new.plain (begin_case (spot_at old.plain path) c now.0)
        → AfterAny s (by_class {Q = Q} m w r path origins c).loads now old new
    leaves_class Solid p l = leaves_case (begin_case (spot_at old.plain path) Solid now.0) l
    leaves_class Volatile p l = leaves_case (begin_case (spot_at old.plain path) Volatile now.0) l
    leaves_class Forbidden p l = absurd (p refl)

    settles_case : (c : Case) → AnswersCase s tells m r path origins now old new note io c
        → Leaves s path origins now old.plain new.plain c → SettledAny s (by_case {Q = Q} m w r path origins c).loads now old new
    settles_case case.Join x l = absurd x
    settles_case case.Keep x l = subst (λ o. SettledAny s o now old new) (sym (whole_loads (whole_in (w.spot path).row))) l
    settles_case case.Offline x l = l
    settles_case case.Full x l = l
    settles_case case.Worn x l = l
    settles_case case.Lead x l = x.settled

    settles_by : is_free note ≡ false → (c : Case) → AnswersCase s tells m r path origins now old new note io c
        ⊎ AnswersSlip m old new note io ⊎ Gives (lined m cause.NoMemory None None) note io
        → Leaves s path origins now old.plain new.plain c → SettledAny s (by_case {Q = Q} m w r path origins c).loads now old new
    settles_by free c (inl x) l = settles_case c x l
    settles_by free c (inr (inl x)) l =
        let e : true ≡ false = sym (slip_free m (cause.KeeperSlip x.slip) note io refl x.gives) ∙ free in absurd (cc)
    settles_by free c (inr (inr x)) l = let e : true ≡ false = sym (lack_free m cause.NoMemory note io refl x) ∙ free in absurd (cc)

    settles_class : is_free note ≡ false → (c : Class) → c ≢ Forbidden
        → AnswersCase s tells m r path origins now old new note io (begin_case (spot_at old.plain path) c now.0)
        ⊎ AnswersSlip m old new note io ⊎ Gives (lined m cause.NoMemory None None) note io
        → Leaves s path origins now old.plain new.plain (begin_case (spot_at old.plain path) c now.0)
        → SettledAny s (by_class {Q = Q} m w r path origins c).loads now old new
    settles_class free Solid p x l = settles_by free (begin_case (spot_at old.plain path) Solid now.0) x l
    settles_class free Volatile p x l = settles_by free (begin_case (spot_at old.plain path) Volatile now.0) x l
    settles_class free Forbidden p x l = absurd (p refl)

    pub filed : (s.tells ≡ true → tells ≡ true) → AnswersAt s tells conf m r now old new note io
    filed told = record {
      exact = λ t free. to_answer (exact_file s tells m r path origins now old new note io free t (told t) class way.passed a);
      page = subst (VisitsBy tells conf m now old new note io) (sym way.read) tt;
      lawful = lawful_by a.answers;
      sends = λ t k. sends_by t k a.answers;
      settles = λ free. subst (λ t. IfSome (by_target {Q = Q} conf m w r t) (λ x. SettledAny s x.loads now old new)) (sym way.read)
          (subst (λ c. SettledAny s (by_class {Q = Q} m w r path origins c).loads now old new) way.class_is
          (settles_class free class way.passed a.answers a.leaves));
      leaves = subst (λ t. IfSome (by_target {Q = Q} conf m w r t) (λ x. AfterAny s x.loads now old new)) (sym way.read)
          (subst (λ c. AfterAny s (by_class {Q = Q} m w r path origins c).loads now old new) way.class_is
          (leaves_class class way.passed a.leaves));
      moment = a.moment;
      slip = slip_by a.answers;
      later = on_any _ (answered_as {Q = Q} conf m w r) (λ x. a.later);
    }

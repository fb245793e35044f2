-- Lawful notes of requests that are answered among others.
use mathlib.Core.Logic.{inl, inr}
use Rattle.std.proofs.Common.{◌≡◌, ◌≢◌, ◌⊎◌, ℕ, Bool, true, false, ◌&&◌, List, [], length, Option, Some, None, Ok, Err, IfSome, IsSome, IsSomeAnd}
use Rattle.std.proofs.Common.{refl, ap, sym, subst, ◌∙◌}
use Rattle.acng_base.specs.declared.clock.Moment.{Moment}
use Rattle.acng_site.specs.declared.site.Site.{Ghosts as SiteGhosts}
use Rattle.acng_head.specs.declared.head.Label.{Label}
use Rattle.acng_head.specs.declared.head.Label.TheVariants.{Fetched, Imported}
use Rattle.acng_conf.specs.Settings.{Settings}
use Rattle.acng_remap.specs.Readings.{Reading, reading}
use Rattle.acng_remap.specs.declared.target.Target.TheVariants.{File, Page}
use Rattle.acng_class.specs.declared.class.Class.{Class}
use Rattle.acng_class.specs.declared.class.Class.TheVariants.{Solid, Volatile, Forbidden}
use Rattle.acng_class.specs.Classes.{class_of}
use Rattle.acng_request.specs.declared.got.Request.{Request}
use Rattle.acng_grow.specs.declared.asked.Asked.{Asked}
use Rattle.acng_grow.specs.declared.asked.Look.{Look}
use Rattle.acng_grow.specs.declared.facts.Facts.{Facts}
use Rattle.acng_grow.specs.declared.facts.Stage.{Stage}
use Rattle.acng_grow.specs.declared.owned.FollowStop.{FollowStop}
use Rattle.acng_grow.specs.declared.owned.FollowStop.TheVariants as stop
use Rattle.acng_grow.specs.declared.owned.Followed.{Followed}
use Rattle.acng_grow.specs.declared.why.Shown.{Shown}
use Rattle.acng_grow.specs.Agrees.{label_agrees}
use Rattle.acng_grow.specs.Looks.{LookStands}
use Rattle.acng_grow.specs.Stands.{StandsFor, StandsWhole, FactsStand, IsLength, file_of}
use Rattle.acng_grow.specs.Turns.{HaveOneFirst, IsLabelOf}
use Rattle.acng_desk.specs.declared.case.Case.{Case}
use Rattle.acng_desk.specs.declared.case.Case.TheVariants as case
use Rattle.acng_desk.specs.declared.entry.BrimKind.{BrimKind}
use Rattle.acng_desk.specs.declared.entry.BrimKind.TheVariants as brim
use Rattle.acng_desk.specs.declared.entry.Entry.{Entry}
use Rattle.acng_desk.specs.Begins.{begin_case, JoinedAs}
use Rattle.acng_desk.specs.House.{House, spot_at}
use Rattle.acng_rows.specs.Rows.{Load as Out}
use Rattle.acng_reply.specs.declared.manner.Manner.{Manner}
use Rattle.acng_reply.specs.declared.pick.Pick.{Pick}
use Rattle.acng_reply.specs.Joined.{CutStands, EndsAs, FollowsPart, IsKnown, OnWhole}
use Rattle.acng_reply.specs.Picks.{pick, is_kept, is_unmodified, part_in, status_of}
use Rattle.acng_reply.specs.Replies.{Sent}
use Rattle.acng_serve.specs.declared.note.Cause.{Cause}
use Rattle.acng_serve.specs.declared.note.Cause.TheVariants as cause
use Rattle.acng_serve.specs.declared.note.Note.{Note}
use Rattle.acng_serve.specs.Among.{FileAmong, LawfulAt, look_by}
use Rattle.acng_serve.specs.Causes.{brim_cause, stop_cause, target_cause}
use Rattle.acng_serve.specs.Files.{AnswersCase, AnswersFile, AnswersSlip}
use Rattle.acng_serve.specs.Headline.{SendsFile, SendsFiles}
use Rattle.acng_serve.specs.Lawful.{BrimNote, ByClass, ByTarget, ByVisit, EndsBroken, EndsCut, EndsWhole, FileNote, IsFound, IsLawfulNote}
use Rattle.acng_serve.specs.Lawful.{LacksNote, SlipNote}
use Rattle.acng_serve.specs.Notes.{Found, Gives, filed, found_by, is_whole, lined}
use Rattle.acng_serve.specs.Pages.{Visit, Shows, Runs, Forbids, visit_of}
use Rattle.acng_serve.specs.Ways.{LeadsToFile, class_refusal, refusal_of, visit_refusal}
use Rattle.acng_serve.proofs.FileNotes.{file_note, held_note, loaded_note, picked_by, stands_whole, there_by}
use Rattle.acng_serve.proofs.Filing.{line_moment}
use Rattle.acng_serve.proofs.Headlines.{no_file, sends_file}

-- ---- a body that is followed by a look at it

abbrev told : Bool → Bool → Type 0
told a b = (a && b) ≡ true

both_told : (a b : Bool) → a ≡ true → b ≡ true → (a && b) ≡ true
both_told a b x y = ap (λ k. k && b) x ∙ y

-- a known total is the file's length
pub known : {S : Type 0} (s : SiteGhosts S) (tells : Bool) (asked : Asked) (label : Label) (f : Facts)
    → label_agrees asked.first_try asked.old (Some label) ≡ true → FactsStand s asked.path None label f
    → IsKnown (s.tells && tells) f (file_of s asked.path label)
known s tells asked (Fetched first last) f agrees stand t = by_total f.total stand.total
  where
    telling : (a b : Bool) → (a && b) ≡ true → a ≡ true
    telling true b e = refl
    telling false b e = absurd (cc)

    by_total : (o : Option ℕ) → IfSome o (IsLength s asked.path (Fetched first last))
        → IfSome o (λ n. length (s.instance first asked.path) ≡ n)
    by_total None h = tt
    by_total (Some n) h = sym (h (telling s.tells tells t))
known s tells asked (Imported hash size) f agrees stand t = absurd (cc)

module _ {S : Type 0} (Q : Type 0) (s : SiteGhosts S) (tells : Bool) (m : Manner) (r : Request) (e : Entry) (led : e.kept ≡ false) where
  -- what a look at a body of the entry's ticket finds
  found_look : (l : Look) (text : List ℕ) → LookStands s e.asked l
      → IsFound s e.asked.path (record { entry = e; look = l; text = text })
  found_look l text look = record {
    at = refl;
    kept_label = λ k. absurd (not_both k);
    kept_stage = λ k. absurd (not_both k);
    kept_total = λ k. absurd (not_both k);
    label = λ _. look.label;
    cause = λ _. look.cause;
    facts = λ _. look.facts;
    lawful = look.lawful;
  }
    where
      not_both : e.kept ≡ true → ⊥
      not_both k = let x : true ≡ false = sym k ∙ led in absurd (cc)

  -- a body that ended early: nothing of it was sent
  empty_stands : (o : Option Label) → label_agrees e.asked.first_try e.asked.old o ≡ true
      → IfSome o (λ l. StandsFor s e.asked.path l [])
  empty_stands None agrees = tt
  empty_stands (Some (Fetched first last)) agrees = λ _. refl
  empty_stands (Some (Imported hash size)) agrees = absurd (cc)

  pub refused_note : (l : Look) (c : Shown) (note : Note Q) (io : Sent) → LookStands s e.asked l → l.shown ≡ Some c
      → Gives (lined m (cause.Load c) l.label (Some e)) note io → FileNote s tells m r e.asked.path note io
  refused_note l c note io look is g =
      let f : Found = record { entry = e; look = l; text = [] } in
      file_note s tells m r e.asked.path note io f (found_look l [] look) (λ _ _. empty_stands l.label look.label)
      (λ u. absurd (not_none u)) (λ u. absurd (not_none u))
      (inl (subst (λ o. Gives (found_by m r f o) note io) (sym is) g))
    where
      not_none : l.shown ≡ None → ⊥
      not_none u = let x : Some c ≡ None = sym is ∙ u in absurd (cc)

  -- a body that goes on
  module _ (label : Label) (st : Stage) (f : Facts) (look : LookStands s e.asked (look_by label st f)) (io : Sent) where
    abbrev p : Pick
    p = pick r (is_kept st) f

    abbrev path : List ℕ
    path = e.asked.path

    abbrev file : List ℕ
    file = file_of s path label

    abbrev look_found : List ℕ → Found
    look_found text = record { entry = e; look = look_by label st f; text = text }

    abbrev note_of : Followed Q → Note Q
    note_of f = record {
      status = status_of p;
      cause = stop_cause p f.stop;
      label = f.label;
      entry = Some e;
      part = part_in p;
      sent = f.sent;
      whole = is_whole f.stop;
    }

    -- a label with the same first attempt is of the same file
    whole_by : (k l : Label) (text : List ℕ) → HaveOneFirst k l → text ≡ file_of s path k → StandsWhole s path l text
    whole_by (Fetched first last) (Fetched n o) text one is = λ _. ap (λ a. s.instance a path) one ∙ sym is
    whole_by (Fetched first last) (Imported hash size) text one is = absurd one
    whole_by (Imported hash size) l text one is = absurd one

    stands_by : (o : Option Label) → IsSomeAnd o (IsLabelOf e.asked label) → (text : List ℕ) → text ≡ file
        → IfSome o (λ l. StandsWhole s path l text)
    stands_by None h text is = absurd h
    stands_by (Some l) h text is = whole_by label l text h.first is

    fronts : (o : Option Label) (text : List ℕ) → IfSome o (λ l. StandsWhole s path l text) → IfSome o (λ l. StandsFor s path l text)
    fronts None text h = tt
    fronts (Some l) text h = stands_whole s path l text h

    some_by : (o : Option Label) → IsSomeAnd o (IsLabelOf e.asked label) → IsSome o
    some_by None h = absurd h
    some_by (Some l) h = refl

    agrees_by : (o : Option Label) → IsSomeAnd o (IsLabelOf e.asked label) → label_agrees e.asked.first_try e.asked.old o ≡ true
    agrees_by None h = absurd h
    agrees_by (Some l) h = h.agrees

    total_by : (o : Option ℕ) (text : List ℕ) → IfSome o (λ n. length text ≡ n) → IfSome o (λ n. n ≡ length text)
    total_by None text h = tt
    total_by (Some n) text h = sym h

    sized : (ended : FollowStop Q) (text : List ℕ) → OnWhole ended (IfSome f.total (λ n. length text ≡ n)) → is_whole ended ≡ true
        → IfSome f.total (λ n. n ≡ length text)
    sized stop.Whole text h w = total_by f.total text h
    sized (stop.Cut c) text h w = absurd (cc)
    sized (stop.Slip q) text h w = absurd (cc)
    sized stop.ClientFault text h w = absurd (cc)

    ends_by : (text : List ℕ) (sent : ℕ) (l : Option Label) (ended : FollowStop Q) → CutStands s e.asked ended
        → EndsAs (filed {Q = Q} m (look_found text) p).reply io sent ended
        → EndsWhole (filed m (look_found text) p) (note_of (record { sent = sent; label = l; stop = ended })) io
        ⊎ EndsCut s e.asked (filed m (look_found text) p) (note_of (record { sent = sent; label = l; stop = ended })) io
        ⊎ EndsBroken (filed m (look_found text) p) (note_of (record { sent = sent; label = l; stop = ended })) io
    ends_by text sent l stop.Whole c ends = inl (record { cause = refl; whole = refl; sent = ends.0; wrote = ends.1 })
    ends_by text sent l (stop.Cut x) c ends = inr (inl (record { cause = inl (x, refl, c); whole = refl; sent = ends.0; wrote = ends.1 }))
    ends_by text sent l (stop.Slip q) c ends = inr (inl (record { cause = inr (q, refl); whole = refl; sent = ends.0; wrote = ends.1 }))
    ends_by text sent l stop.ClientFault c ends = inr (inr (record { cause = refl; whole = refl; wrote = ends }))

    sent_note : (w : Followed Q) → FollowsPart (s.tells && tells) m p f file io w → CutStands s e.asked w.stop
        → IsSomeAnd w.label (IsLabelOf e.asked label) → FileNote s tells m r path (note_of w) io
    sent_note w follows cut is =
        let stands = λ (t : s.tells ≡ true) (k : tells ≡ true).
        stands_by w.label is follows.text (follows.is (both_told s.tells tells t k)) in
        record {
          found = look_found follows.text;
          is_found = found_look (look_by label st f) follows.text look;
          entered = refl;
          stands = λ t k. fronts w.label follows.text (stands t k);
          there = λ whole _. there_by s tells path w.label f follows.text p
              (picked_by r f (is_unmodified r (is_kept st) f))
              (sized w.stop follows.text follows.size whole) stands;
          labelled = λ _. some_by w.label is;
          agrees = λ _. agrees_by w.label is;
          status = refl;
          part = refl;
          ends = ends_by follows.text w.sent w.label w.stop cut follows.ends;
        }

    -- by what the note is made of
    pub told_note : (w : Followed Q) (k : Pick) (status : ℕ) (c : Cause Q) (part : Option (ℕ × ℕ)) (whole : Bool) → k ≡ p
        → status ≡ status_of k → c ≡ stop_cause k w.stop → part ≡ part_in k → whole ≡ is_whole w.stop
        → FollowsPart (s.tells && tells) m k f file io w → CutStands s e.asked w.stop → IsSomeAnd w.label (IsLabelOf e.asked label)
        → FileNote s tells m r path
        (record { status = status; cause = c; label = w.label; entry = Some e; part = part; sent = w.sent; whole = whole }) io
    told_note w k status c part whole is a b d x follows cut labelled =
        let a = a ∙ ap status_of is in
        let b = b ∙ ap (λ z. stop_cause z w.stop) is in
        let d = d ∙ ap part_in is in
        subst (λ z. FileNote s tells m r path
        (record { status = z; cause = c; label = w.label; entry = Some e; part = part; sent = w.sent; whole = whole }) io) (sym a)
        (subst (λ z. FileNote s tells m r path
        (record { status = status_of p; cause = z; label = w.label; entry = Some e; part = part; sent = w.sent; whole = whole }) io) (sym b)
        (subst (λ z. FileNote s tells m r path
        (record { status = status_of p; cause = stop_cause p w.stop; label = w.label; entry = Some e; part = z; sent = w.sent; whole = whole })
        io) (sym d)
        (subst (λ z. FileNote s tells m r path
        (record {
          status = status_of p;
          cause = stop_cause p w.stop;
          label = w.label;
          entry = Some e;
          part = part_in p;
          sent = w.sent;
          whole = z;
        }) io) (sym x)
        (sent_note w (subst (λ z. FollowsPart (s.tells && tells) m z f file io w) is follows) cut labelled))))

-- ---- entries

-- who joins has the entry of the ticket that is out
pub joined_path : (path : List ℕ) (now : Moment) (o : Option Out) (e : Entry) → JoinedAs path now o e
    → (e.asked.path ≡ path) × (e.kept ≡ false) × (e.moment ≡ now)
joined_path path now None e h = absurd h
joined_path path now (Some o) e h = (ap (λ (x : Entry). x.asked.path) h, ap (λ (x : Entry). x.kept) h, ap (λ (x : Entry). x.moment) h)

pub entry_moment : {Q : Type 0} (note : Note Q) (e : Entry) (now : Moment) → note.entry ≡ Some e → e.moment ≡ now
    → (x : Entry) → note.entry ≡ Some x → x.moment ≡ now
entry_moment note e now is at x k = let same : x ≡ e = cc in ap (λ (y : Entry). y.moment) same ∙ at

-- ---- files

module _ {S Q : Type 0} (s : SiteGhosts S) (tells : Bool) (m : Manner) (r : Request) (path : List ℕ) (now : Moment) (note : Note Q)
    (io : Sent) where
  pub led_file : (e : Entry) → e.asked.path ≡ path → e.moment ≡ now → note.entry ≡ Some e → FileNote s tells m r e.asked.path note io
      → FileAmong s tells m r path now note io
  led_file e at moment is n = record {
    lawful = inl (subst (λ q. FileNote s tells m r q note io) at n);
    moment = entry_moment note e now is moment;
  }

  by_case : (origins : List (List ℕ)) (old new : House) (c : Case) → AnswersCase s tells m r path origins now old new note io c
      → FileNote s tells m r path note io ⊎ BrimNote m path note io
  by_case origins old new case.Join x = absurd x
  by_case origins old new case.Keep x = inl (held_note s tells m r path now old note io x)
  by_case origins old new case.Offline x = inr (record { kind = brim.Offline; gives = x })
  by_case origins old new case.Full x = inr (record { kind = brim.Full; gives = x })
  by_case origins old new case.Worn x = inr (record { kind = brim.Worn; gives = x })
  by_case origins old new case.Lead x = inl (loaded_note s tells m r path origins now old new note io x)

  -- what a desk that one has to itself answers is lawful among others too
  pub alone_file : (class : Class) (origins : List (List ℕ)) (old new : House)
      → AnswersFile s tells m r path class origins now old new note io → FileAmong s tells m r path now note io
  alone_file class origins old new a = record { lawful = by_answer a.answers; moment = a.moment }
    where
      of_case : FileNote s tells m r path note io ⊎ BrimNote m path note io
          → FileNote s tells m r path note io ⊎ BrimNote m path note io ⊎ SlipNote m note io ⊎ LacksNote m note io
      of_case (inl n) = inl n
      of_case (inr b) = inr (inl b)

      by_answer : AnswersCase s tells m r path origins now old new note io (begin_case (spot_at old.plain path) class now.0)
          ⊎ AnswersSlip m old new note io ⊎ Gives (lined m cause.NoMemory None None) note io
          → FileNote s tells m r path note io ⊎ BrimNote m path note io ⊎ SlipNote m note io ⊎ LacksNote m note io
      by_answer (inl x) = of_case (by_case origins old new (begin_case (spot_at old.plain path) class now.0) x)
      by_answer (inr (inl x)) = inr (inr (inl (record { slip = x.slip; gives = x.gives })))
      by_answer (inr (inr x)) = inr (inr (inr x))

  pub brim_file : (kind : BrimKind) → Gives (lined m (brim_cause kind path) None None) note io → FileAmong s tells m r path now note io
  brim_file kind g = record {
    lawful = inr (inl (record { kind = kind; gives = g }));
    moment = line_moment m (brim_cause kind path) note io now g;
  }

  pub lacks_file : Gives (lined m cause.NoMemory None None) note io → FileAmong s tells m r path now note io
  lacks_file g = record { lawful = inr (inr (inr g)); moment = line_moment m cause.NoMemory note io now g }

-- ---- requests

same_path : (p q : List ℕ) (o l : List (List ℕ)) → ◌≡◌ {A = Reading} (Ok (File p o)) (Ok (File q l)) → p ≡ q
same_path p q o l e = cc

module _ {S Q : Type 0} (s : SiteGhosts S) (tells : Bool) (conf : Settings) (m : Manner) (r : Request) (now : Moment) (note : Note Q)
    (io : Sent) where
  pub lacks_at : Gives (lined m cause.NoMemory None None) note io → LawfulAt s tells conf m r now note io
  lacks_at g = record {
    lawful = inr (inr g);
    sends = λ t k. no_file s conf m r cause.NoMemory note io g;
    moment = line_moment m cause.NoMemory note io now g;
  }

  class_gives : (c : Cause Q) (path : List ℕ) (class : Class) → class_refusal class ≡ Some c → Gives (lined m c None None) note io
      → ByClass s tells m r path note io class
  class_gives c path Solid e g = let k : None ≡ Some c = e in absurd (cc)
  class_gives c path Volatile e g = let k : None ≡ Some c = e in absurd (cc)
  class_gives c path Forbidden e g =
      let k : cause.Forbidden ≡ c = cc in subst (λ x. Gives (lined m x None None) note io) (sym k) g

  visit_gives : (c : Cause Q) (v : Visit) → visit_refusal v ≡ Some c → Gives (lined m c None None) note io
      → ByVisit tells m now note io v
  visit_gives c Shows e g = let k : None ≡ Some c = e in absurd (cc)
  visit_gives c Runs e g = let k : None ≡ Some c = e in absurd (cc)
  visit_gives c Forbids e g = let k : cause.Maint ≡ c = cc in subst (λ x. Gives (lined m x None None) note io) (sym k) g

  target_gives : (c : Cause Q) (t : Reading) → refusal_of conf t ≡ Some c → Gives (lined m c None None) note io
      → ByTarget s tells conf m r now note io t
  target_gives c (Err fault) e g =
      let k : target_cause fault ≡ c = cc in subst (λ x. Gives (lined m x None None) note io) (sym k) g
  target_gives c (Ok (Page query)) e g = visit_gives c (visit_of conf query) e g
  target_gives c (Ok (File path origins)) e g = class_gives c path (class_of conf.pfile_pattern conf.vfile_pattern path) e g

  -- a target that leads nowhere
  pub refused_at : (c : Cause Q) → refusal_of conf (reading conf r.method r.target) ≡ Some c → Gives (lined m c None None) note io
      → LawfulAt s tells conf m r now note io
  refused_at c e g = record {
    lawful = inl (target_gives c (reading conf r.method r.target) e g);
    sends = λ t k. no_file s conf m r c note io g;
    moment = line_moment m c note io now g;
  }

  -- a file
  module _ (path : List ℕ) (origins : List (List ℕ)) (class : Class) (way : LeadsToFile conf r path origins class) where
    by_class : FileNote s tells m r path note io ⊎ BrimNote m path note io → (c : Class) → c ≢ Forbidden
        → ByClass s tells m r path note io c
    by_class n Solid p = n
    by_class n Volatile p = n
    by_class n Forbidden p = absurd (p refl)

    by_target : FileNote s tells m r path note io ⊎ BrimNote m path note io → IsLawfulNote s tells conf m r now note io
    by_target n =
        inl (subst (ByTarget s tells conf m r now note io) (sym way.read)
        (subst (ByClass s tells m r path note io) way.class_is (by_class n class way.passed)))

    pub file_at : FileAmong s tells m r path now note io → LawfulAt s tells conf m r now note io
    file_at a = record { lawful = lawful_by a.lawful; sends = sends_by a.lawful; moment = a.moment }
      where
        lawful_by : FileNote s tells m r path note io ⊎ BrimNote m path note io ⊎ SlipNote m note io ⊎ LacksNote m note io
            → IsLawfulNote s tells conf m r now note io
        lawful_by (inl n) = by_target (inl n)
        lawful_by (inr (inl b)) = by_target (inr b)
        lawful_by (inr (inr (inl x))) = inr (inl x)
        lawful_by (inr (inr (inr x))) = inr (inr x)

        sends_by : FileNote s tells m r path note io ⊎ BrimNote m path note io ⊎ SlipNote m note io ⊎ LacksNote m note io
            → s.tells ≡ true → tells ≡ true → SendsFiles s conf m r note io
        sends_by (inl n) t k = λ other others is bare status.
            let got = way.read in
            let same : path ≡ other = same_path path other origins others (sym got ∙ is) in
            subst (λ p. SendsFile s p m r note io) same (sends_file s tells m r path note io t k bare n status)
        sends_by (inr (inl b)) t k = no_file s conf m r (brim_cause b.kind path) note io b.gives
        sends_by (inr (inr (inl x))) t k = no_file s conf m r (cause.KeeperSlip x.slip) note io x.gives
        sends_by (inr (inr (inr x))) t k = no_file s conf m r cause.NoMemory note io x

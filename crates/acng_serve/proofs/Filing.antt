-- What a request for a file gets, by how the desk lets it in.
use Rattle.std.proofs.Common.{◌≡◌, ◌≢◌, inl, inr, ◌⊎◌, ℕ, ◌==◌, ◌&&◌, Bool, true, false, List, Option, Some, None, is_some}
use Rattle.std.proofs.Common.{option_map, refl, ap, sym, subst, ◌∙◌, arith}
use Rattle.std.specs.Prelude.{cond, IsSome, IfSome}
use Rattle.std.proofs.lemmas.Bool.Decides.{nat_tests}
use Rattle.acng_base.specs.declared.clock.Moment.{Moment}
use Rattle.acng_site.specs.declared.site.Site.{Ghosts as SiteGhosts}
use Rattle.acng_site.specs.Honest.{heard}
use Rattle.acng_class.specs.declared.class.Class.{Class}
use Rattle.acng_head.specs.declared.head.Label.{Label}
use Rattle.acng_head.specs.declared.head.Label.TheVariants.{Fetched, Imported}
use Rattle.acng_keeper.specs.Handles.{Handle}
use Rattle.acng_keeper.specs.Kept.{Kept}
use Rattle.acng_keeper.specs.Slips.{Faults, Later, HasFailed}
use Rattle.acng_request.specs.declared.got.Request.{Request}
use Rattle.acng_grow.specs.declared.asked.Look.{Look}
use Rattle.acng_grow.specs.declared.facts.Facts.{Facts}
use Rattle.acng_grow.specs.declared.facts.Seen.{Seen}
use Rattle.acng_grow.specs.declared.facts.Stage.{Stage}
use Rattle.acng_grow.specs.declared.facts.Stage.TheVariants as stage
use Rattle.acng_grow.specs.Agrees.{label_agrees, cause_agrees}
use Rattle.acng_grow.specs.Download.{download}
use Rattle.acng_grow.specs.Effects.{opening, runs, kept_same}
use Rattle.acng_grow.specs.Grown.{Grown, text_of}
use Rattle.acng_grow.specs.Stands.{StandsWhole, FactsStand}
use Rattle.acng_rows.specs.declared.row.Whole.{Whole}
use Rattle.acng_rows.specs.Rows.{whole_in, whole_at, out_in}
use Rattle.acng_desk.specs.declared.case.Case.{Case}
use Rattle.acng_desk.specs.declared.case.Case.TheVariants as case
use Rattle.acng_desk.specs.declared.ending.Ending.{Ending}
use Rattle.acng_desk.specs.declared.ending.Ending.TheVariants as ending
use Rattle.acng_desk.specs.declared.entry.BrimKind.TheVariants as brim
use Rattle.acng_desk.specs.declared.entry.Entry.{Entry}
use Rattle.acng_desk.specs.declared.entry.Held.{Held}
use Rattle.acng_desk.specs.House.{House, Parked, Plain, Spot, spot_at, facts_of}
use Rattle.acng_desk.specs.declared.ticket.Info.{Info}
use Rattle.acng_desk.specs.Tickets.{Ticketed, errand_of, old_of, file_of, IsUnused}
use Rattle.acng_desk.specs.Begins.{begin_case, entry_of, info_of, load_of, let_in, led, led_row, KeptAs, HoldsAs, IsHeld}
use Rattle.acng_desk.specs.Begins.{OldBodyAs, TicketAs}
use Rattle.acng_desk.specs.Settles.{IsFault, IsLoaded, Falls, can_park, by_stage, end_of, grown_after, was_label, was_id, id_of, part_id}
use Rattle.acng_desk.specs.Settles.{same_id, is_out}
use Rattle.acng_desk.specs.Commands.{step, Begin, Settle}
use Rattle.acng_desk.specs.Keeps.{IsIdle}
use Rattle.acng_desk.proofs.Idles.{IsIdleBut, led_idle, ended_idle, fallen_idle}
use Rattle.acng_rows.proofs.Points.{got_own}
use Rattle.acng_fetch.specs.LoadsBy.{LoadsBy}
use Rattle.acng_reply.specs.declared.manner.Manner.{Manner}
use Rattle.acng_reply.specs.Replies.{Sent}
use Rattle.acng_serve.specs.declared.note.Cause.{Cause}
use Rattle.acng_serve.specs.declared.note.Cause.TheVariants as cause
use Rattle.acng_serve.specs.declared.note.Note.{Note}
use Rattle.acng_serve.specs.Causes.{brim_cause}
use Rattle.acng_serve.specs.Notes.{Gives, GivesFile, SendsFound, lined, found, look_of, answer_of}
use Rattle.acng_serve.specs.Answered.{bytes_in, held_seen, world_of, seen_at, text_at, entry_at, file_by, whole_label}
use Rattle.acng_serve.specs.Files.{held_grown, IsHeldText, IsLoad, LoadsFound, Leaves, AnswersHeld, AnswersCase}
use Rattle.acng_serve.specs.Files.{AnswersSlip, AnswersFile}
use Rattle.acng_serve.specs.Houses.{Settled}
use Rattle.acng_serve.proofs.FileNotes.{entry_given, entry_by, ended, label_by_stage, whole_by_stage}

eq_self : (n : ℕ) → (n == n) ≡ true
eq_self n = grind (arith, nat_tests)

and_all : (a b c : Bool) → a ≡ true → b ≡ true → c ≡ true → (a && b && c) ≡ true
and_all a b c x y z = cc3 a b c x y z
  where
    cc3 : (a b c : Bool) → a ≡ true → b ≡ true → c ≡ true → (a && b && c) ≡ true
    cc3 true true true x y z = refl
    cc3 false b c x y z = absurd (cc)
    cc3 true false c x y z = absurd (cc)
    cc3 true true false x y z = absurd (cc)

-- ---- moments of entries

same_entry : (a b : Entry) → Some a ≡ Some b → a ≡ b
same_entry a b e = cc

pub file_moment : {Q : Type 0} (m : Manner) (r : Request) (seen : Seen) (text : List ℕ) (note : Note Q) (io : Sent) (own : Entry)
    (now : Moment) → own.moment ≡ now
    → GivesFile (answer_of m r (found own seen text)) note io → (e : Entry) → note.entry ≡ Some e → e.moment ≡ now
file_moment {Q} m r seen text note io own now is gives e has =
    let given = entry_given (answer_of m r (found own seen text)) note io gives ∙ entry_by Q m r (found own seen text) seen.shown in
    ap (λ (x : Entry). x.moment) (same_entry e own (sym has ∙ given)) ∙ is

pub line_moment : {Q : Type 0} (m : Manner) (c : Cause Q) (note : Note Q) (io : Sent) (now : Moment) → Gives (lined m c None None) note io
    → (e : Entry) → note.entry ≡ Some e → e.moment ≡ now
line_moment m c note io now gives e has =
    let none : None ≡ Some e = sym (entry_given (lined m c None None) note io (inl gives)) ∙ has in absurd (cc)

-- nothing was changed
pub stays : {S : Type 0} (s : SiteGhosts S) (path : List ℕ) (origins : List (List ℕ)) (now : Moment) (p q : Plain) (c : Case) → q ≡ p
    → Leaves s path origins now p q c
stays s path origins now p q case.Join e = e
stays s path origins now p q case.Keep e = e
stays s path origins now p q case.Offline e = e
stays s path origins now p q case.Full e = e
stays s path origins now p q case.Worn e = e
stays s path origins now p q case.Lead e = inl e

-- ---- a held body

module _ {F S Q : Type 0} (handle : F → Handle) (faults : F → Faults) (s : SiteGhosts S) (tells : Bool) (m : Manner) (r : Request)
    (path : List ℕ) (class : Class) (origins : List (List ℕ)) (now : Moment) (old new : House) (held : Held F) (e : Entry)
    (note : Note Q) (io : Sent)
    (is_case : begin_case (spot_at old.plain path) class now.0 ≡ case.Keep) (is_held : IsHeld s handle tells path held)
    (plain : new.plain ≡ step (Begin path class now) old.plain) (later : Later old.faults new.faults)
    (sends : SendsFound tells m r e (held_grown handle faults path held) note io) where
  seen_held : (x : Whole) → HoldsAs handle tells old.kept x held → (held_grown handle faults path held).seen ≡ held_seen x
  seen_held x h =
      ap (λ l. kept_same (record { label = l; facts = held.facts; size = (handle held.body).size })) h.label
      ∙ ap (λ (f : Facts). kept_same (record { label = x.label; facts = f; size = (handle held.body).size })) h.facts
      ∙ ap (λ n. kept_same (record { label = x.label; facts = facts_of x; size = n })) h.body.size

  held_text : (x : Whole) → whole_at old.plain.rows path ≡ Some x → HoldsAs handle tells old.kept x held
      → IsHeldText s tells path old x sends.text
  held_text x is h = record {
    is = is;
    facts = subst (λ (f : Facts). FactsStand s path None x.label f) h.facts (subst
        (λ (l : Label). FactsStand s path None l held.facts) h.label is_held.said.stand);
    size = sends.size ∙ h.body.size;
    stands = λ t. subst (λ (l : Label). StandsWhole s path l sends.text) h.label
        (subst (λ b. StandsWhole s path held.label b) (sym (sends.is t)) (is_held.body.stands t));
    bytes = λ t. sends.is t ∙ sym (ap bytes_in (h.body.bytes t));
  }

  by_whole : (o : Option Whole) → whole_at old.plain.rows path ≡ o → KeptAs handle tells old.kept path old.plain.next_try now o held e
      → AnswersHeld s tells m r path now old note io
  by_whole None is k = absurd k
  by_whole (Some x) is k = record {
    whole = x;
    text = sends.text;
    is = held_text x is k.0;
    gives = subst (λ (i : Entry). GivesFile (answer_of m r (found i (held_seen x) sends.text)) note io) k.1
        (subst (λ (g : Seen). GivesFile (answer_of m r (found e g sends.text)) note io) (seen_held x k.0) sends.gives);
  }

  pub held_file : KeptAs handle tells old.kept path old.plain.next_try now (whole_at old.plain.rows path) held e
      → AnswersFile s tells m r path class origins now old new note io
  held_file k =
      let a = by_whole (whole_at old.plain.rows path) refl k in
      record {
        answers = inl (subst (AnswersCase s tells m r path origins now old new note io) (sym is_case) a);
        leaves = stays s path origins now old.plain new.plain (begin_case (spot_at old.plain path) class now.0)
            (plain ∙ ap (λ (c : Case). let_in c path old.plain) is_case);
        moment = file_moment m r (held_seen a.whole) a.text note io (entry_of path old.plain.next_try
            (Some a.whole.label) true now) now refl a.gives;
        later = later;
      }

-- ---- a ticket that was just given out

info_label : (o : Option Whole) → option_map (λ w. w.label) (option_map old_of o) ≡ whole_label o
info_label None = refl
info_label (Some x) = refl

part_numbers : (o : Option Parked) → option_map (λ (p : Parked). p.handle.number) o ≡ option_map (λ p. p.id) (option_map file_of o)
part_numbers None = refl
part_numbers (Some p) = refl

same_some : (o : Option ℕ) → same_id o o ≡ true
same_some None = refl
same_some (Some n) = eq_self n

old_there : (tells : Bool) (k : Kept) (w : Option Whole) (h : Option Handle) → OldBodyAs tells k w h
    → is_some h ≡ is_some (option_map old_of w)
old_there tells k None None o = refl
old_there tells k None (Some h) o = absurd o
old_there tells k (Some w) None o = absurd o
old_there tells k (Some w) (Some h) o = refl

part_there : (o : Option Parked) → is_some o ≡ is_some (option_map file_of o)
part_there None = refl
part_there (Some p) = refl

module _ (tells : Bool) (k : Kept) (spot : Spot) (path : List ℕ) (origins : List (List ℕ)) (now : Moment) (t : Ticketed)
    (given : TicketAs tells k spot path origins now t) where
  pub unused : IsUnused t
  unused = record {
    left = given.left;
    fresh = ap is_some given.fresh_body;
    old_body = old_there tells k (whole_in spot.row) t.old_body given.old_body ∙ ap (λ (i : Info). is_some i.was) (sym given.info);
    part_body = ap is_some given.part_body ∙ part_there spot.part ∙ ap (λ (i : Info). is_some i.part) (sym given.info);
  }

  pub its_out : is_out (Some (load_of spot)) t.info ≡ true
  its_out = subst (λ (i : Info). is_out (Some (load_of spot)) i ≡ true) (sym given.info) its_own
    where
      its_own : is_out (Some (load_of spot)) (info_of path origins now spot) ≡ true
      its_own = and_all (spot.next_try == spot.next_try) (spot.next_id == spot.next_id)
          (same_id (load_of spot).part (part_id (info_of path origins now spot))) (eq_self spot.next_try) (eq_self spot.next_id)
          (subst (λ o. same_id (load_of spot).part o ≡ true) (part_numbers spot.part) (same_some (load_of spot).part))

-- ---- what settling leaves of a body

look_after : (e : Ending) (g : Grown) → look_of (grown_after e g).seen ≡ look_of g.seen
look_after ending.Unknown g = refl
look_after ending.Keep g = refl
look_after ending.Same g = refl
look_after ending.Park g = refl
look_after ending.Back g = refl
look_after ending.Drop g = refl

path_after : (e : Ending) (g : Grown) → (grown_after e g).path ≡ g.path
path_after ending.Unknown g = refl
path_after ending.Keep g = refl
path_after ending.Same g = refl
path_after ending.Park g = refl
path_after ending.Back g = refl
path_after ending.Drop g = refl

-- ---- the file of a label

file_is : {S : Type 0} (s : SiteGhosts S) (path : List ℕ) (first_try : ℕ) (old : Option Label) (text : List ℕ) (o : Option Label)
    → s.tells ≡ true → label_agrees first_try old o ≡ true → IsSome o → IfSome o (λ l. StandsWhole s path l text)
    → text ≡ file_by s.instance path o
file_is s path first_try old text None told agrees some stands =
    let e : false ≡ true = some in absurd (cc)
file_is s path first_try old text (Some (Fetched first last)) told agrees some stands = sym (stands told)
file_is s path first_try old text (Some (Imported hash size)) told agrees some stands =
    let e : false ≡ true = agrees in absurd (cc)

-- ---- a loaded body

module _ {S Q : Type 0} (s : SiteGhosts S) (tells : Bool) (m : Manner) (r : Request)
    (path : List ℕ) (class : Class) (origins : List (List ℕ)) (now : Moment) (old mid new : House) (t : Ticketed) (e : Entry)
    (note : Note Q) (io : Sent)
    (is_case : begin_case (spot_at old.plain path) class now.0 ≡ case.Lead)
    (given : TicketAs tells old.kept (spot_at old.plain path) path origins now t)
    (is_entry : e ≡ entry_at (world_of s old now) path)
    (plain : mid.plain ≡ step (Begin path class now) old.plain) (later : Later old.faults new.faults)
    (l : LoadsFound s tells t m r e mid new note io) where
  abbrev spot : Spot
  spot = spot_at old.plain path

  abbrev L : LoadsBy s t mid new l.body
  L = l.loads

  info_is : L.spent.info ≡ info_of path origins now spot
  info_is = L.info ∙ given.info

  at_path : L.body.path ≡ path
  at_path = L.ends.path ∙ ap (λ (i : Info). i.path) info_is

  look_is : (l.body ≡ L.body) ⊎ (l.body ≡ grown_after (end_of (spot_at mid.plain L.body.path) L.spent L.body) L.body)
      → look_of l.body.seen ≡ look_of L.body.seen
  look_is (inl k) = ap (λ (g : Grown). look_of g.seen) k
  look_is (inr k) = ap (λ (g : Grown). look_of g.seen) k ∙ look_after (end_of (spot_at mid.plain L.body.path) L.spent L.body) L.body

  path_of : (l.body ≡ L.body) ⊎ (l.body ≡ grown_after (end_of (spot_at mid.plain L.body.path) L.spent L.body) L.body) → l.body.path ≡ path
  path_of (inl k) = ap (λ (g : Grown). g.path) k ∙ at_path
  path_of (inr k) = ap (λ (g : Grown). g.path) k ∙ path_after (end_of (spot_at mid.plain L.body.path) L.spent L.body) L.body ∙ at_path

  abbrev look : look_of l.body.seen ≡ look_of L.body.seen
  look = look_is L.is

  stage_is : l.body.seen.stage ≡ L.body.seen.stage
  stage_is = ap (λ (k : Look). k.stage) look

  seen_is : s.tells ≡ true → IsLoaded s L.spent L.body.seen
      → (look_of l.body.seen ≡ look_of (seen_at (world_of s old now) path origins)) ⊎ IsFault l.body.seen.shown
  seen_is told (inl d) = inl (look ∙ ap look_of (sym d.seen)
      ∙ ap (λ (i : Info). look_of (runs (errand_of i) (download (heard s) (errand_of i) 16 i.first) opening)) info_is)
  seen_is told (inr f) = inr (subst IsFault (sym (ap (λ (k : Look). k.shown) look)) f)

  label_is : label_agrees spot.next_try (whole_label (whole_in spot.row)) l.body.seen.label ≡ true
  label_is = subst (λ k. label_agrees spot.next_try (whole_label (whole_in spot.row)) k ≡ true) (sym (ap (λ (k : Look). k.label) look))
      (subst (λ k. label_agrees spot.next_try k L.body.seen.label ≡ true) (info_label (whole_in spot.row))
      (subst (λ (i : Info). label_agrees i.first (was_label i) L.body.seen.label ≡ true) given.info L.label))

  is_opened : l.body.seen.stage ≢ stage.Opening
  is_opened z = L.ends.opened (sym stage_is ∙ z)

  is_grown : l.body.seen.stage ≢ stage.Running
  is_grown z = L.ends.ended (sym stage_is ∙ z)

  -- the text is the file of the body's label, and the label is the download's
  by_label : (look_of l.body.seen ≡ look_of (seen_at (world_of s old now) path origins)) ⊎ IsFault l.body.seen.shown
      → l.body.seen.shown ≡ None → text_of l.body ≡ file_by s.instance path l.body.seen.label
      → text_of l.body ≡ text_at (world_of s old now) path origins
  by_label (inl same) u is = is ∙ ap (λ (k : Look). file_by s.instance path k.label) same
  by_label (inr fault) u is = absurd (subst IsFault u fault)

  text_is : s.tells ≡ true → tells ≡ true → l.body.seen.shown ≡ None → text_of l.body ≡ text_at (world_of s old now) path origins
  text_is told k u =
      let w = ended s tells l.body l.sound is_opened is_grown u l.body.seen.stage refl in
      let some = label_by_stage s tells l.body l.sound is_opened is_grown u w in
      let stands = whole_by_stage s tells l.body l.sound is_opened is_grown u k w in
      by_label (seen_is told (L.loaded told)) u
      (file_is s path spot.next_try (whole_label (whole_in spot.row)) (text_of l.body) l.body.seen.label told label_is some
      (subst (λ p. IfSome l.body.seen.label (λ x. StandsWhole s p x (text_of l.body))) (path_of L.is) stands))

  loaded : IsLoad s tells path origins now old l.body
  loaded = record {
    path_is = path_of L.is;
    sound = l.sound;
    opened = is_opened;
    grown = is_grown;
    label = label_is;
    cause = subst (λ k. cause_agrees spot.next_try k ≡ true) (sym (ap (λ (k : Look). k.shown) look))
        (subst (λ (i : Info). cause_agrees i.first L.body.seen.shown ≡ true) given.info L.cause);
    seen = λ told. seen_is told (L.loaded told);
    text = text_is;
  }

  led_is : mid.plain ≡ led path old.plain
  led_is = plain ∙ ap (λ (c : Case). let_in c path old.plain) is_case

  settled : Settled s path origins now old.plain new.plain
  settled = record {
    ticket = L.spent;
    body = L.body;
    info = info_is;
    at = at_path;
    ends = L.ends;
    loaded = L.loaded;
    left = subst (λ (p : Plain). (new.plain ≡ step (Settle L.spent L.body) p)
        ⊎ Falls (end_of (spot_at p path) L.spent L.body) L.spent L.body p new.plain) led_is
        (subst (λ k. (new.plain ≡ step (Settle L.spent L.body) mid.plain)
        ⊎ Falls (end_of (spot_at mid.plain k) L.spent L.body) L.spent L.body mid.plain new.plain) at_path L.left);
  }

  pub loaded_file : AnswersFile s tells m r path class origins now old new note io
  loaded_file =
      let own = entry_at (world_of s old now) path in
      let sends = subst (λ (i : Entry). SendsFound tells m r i l.body note io) is_entry l.sends in
      record {
        answers = inl (subst (AnswersCase s tells m r path origins now old new note io) (sym is_case) (record
            { body = l.body; is = loaded; sends = sends; settled = settled }));
        leaves = subst (Leaves s path origins now old.plain new.plain) (sym is_case) (inr settled);
        moment = file_moment m r l.body.seen sends.text note io own now refl sends.gives;
        later = later;
      }

-- ---- brims, slips, and want of memory

module _ {S Q : Type 0} (s : SiteGhosts S) (tells : Bool) (m : Manner) (r : Request)
    (path : List ℕ) (class : Class) (origins : List (List ℕ)) (now : Moment) (old new : House) (note : Note Q) (io : Sent)
    (plain : new.plain ≡ old.plain) (later : Later old.faults new.faults) where
  lined_file : (c : Cause Q) → AnswersCase s tells m r path origins now old new note io (begin_case (spot_at old.plain path) class now.0)
      ⊎ AnswersSlip m old new note io ⊎ Gives (lined m cause.NoMemory None None) note io
      → Gives (lined m c None None) note io → AnswersFile s tells m r path class origins now old new note io
  lined_file c a g = record {
    answers = a;
    leaves = stays s path origins now old.plain new.plain (begin_case (spot_at old.plain path) class now.0) plain;
    moment = line_moment m c note io now g;
    later = later;
  }

  pub offline_file : begin_case (spot_at old.plain path) class now.0 ≡ case.Offline
      → Gives (lined m (brim_cause brim.Offline path) None None) note io
      → AnswersFile s tells m r path class origins now old new note io
  offline_file k g = lined_file (brim_cause brim.Offline path) (inl (subst (AnswersCase s tells m r path origins now old new note io)
      (sym k) g)) g

  pub full_file : begin_case (spot_at old.plain path) class now.0 ≡ case.Full
      → Gives (lined m (brim_cause brim.Full path) None None) note io
      → AnswersFile s tells m r path class origins now old new note io
  full_file k g = lined_file (brim_cause brim.Full path) (inl (subst (AnswersCase s tells m r path origins now old new note io)
      (sym k) g)) g

  pub worn_file : begin_case (spot_at old.plain path) class now.0 ≡ case.Worn
      → Gives (lined m (brim_cause brim.Worn path) None None) note io
      → AnswersFile s tells m r path class origins now old new note io
  worn_file k g = lined_file (brim_cause brim.Worn path) (inl (subst (AnswersCase s tells m r path origins now old new note io)
      (sym k) g)) g

  pub slip_file : (q : Q) → HasFailed old.faults new.faults → Gives (lined m (cause.KeeperSlip q) None None) note io
      → AnswersFile s tells m r path class origins now old new note io
  slip_file q failed g = lined_file (cause.KeeperSlip q) (inr (inl (record { slip = q; failed = failed; gives = g }))) g

  pub lack_file : Gives (lined m cause.NoMemory None None) note io → AnswersFile s tells m r path class origins now old new note io
  lack_file g = lined_file cause.NoMemory (inr (inr g)) g

-- ---- no ticket is out once one was settled

pub later_trans : (a b c : Faults) → Later a b → Later b c → Later a c
later_trans a b c p q = record {
  count = let x = p.count in let y = q.count in omega (arith, x, y);
  may_fail = q.may_fail ∙ p.may_fail;
}

-- whether an end is that of a ticket that isn't out
abbrev is_unknown : Ending → Bool
is_unknown ending.Unknown = true
is_unknown ending.Keep = false
is_unknown ending.Same = false
is_unknown ending.Park = false
is_unknown ending.Back = false
is_unknown ending.Drop = false

known_if : (b : Bool) (x y : Ending) → is_unknown x ≡ false → is_unknown y ≡ false → is_unknown (cond b x y) ≡ false
known_if true x y p q = p
known_if false x y p q = q

known_stage : (at : Spot) (t : Ticketed) (g : Grown) (st : Stage) → is_unknown (by_stage at t g st) ≡ false
known_stage at t g stage.Opening = refl
known_stage at t g stage.Running = refl
known_stage at t g stage.Whole = refl
known_stage at t g stage.Same = known_if (same_id (id_of (whole_in at.row)) (was_id t.info)) ending.Same ending.Drop refl refl
known_stage at t g stage.Cut = known_if (can_park at g) ending.Park ending.Drop refl refl
known_stage at t g stage.Refused = known_if (is_some t.part_body && at.roomy) ending.Back ending.Drop refl refl

known_out : (b : Bool) (x : Ending) → b ≡ true → is_unknown x ≡ false → is_unknown (cond b x ending.Unknown) ≡ false
known_out true x t p = p
known_out false x t p = absurd (cc)

not_unknown : (x : Ending) → is_unknown x ≡ false → x ≢ ending.Unknown
not_unknown x p k = let e : true ≡ false = sym (ap is_unknown k) ∙ p in absurd (cc)

-- the ticket of a path that was led is out
own_out : (path : List ℕ) (p : Plain) → out_in (spot_at (led path p) path).row ≡ Some (load_of (spot_at p path))
own_out path p = ap out_in (got_own p.rows path (led_row (spot_at p path)))

idle_by : (path : List ℕ) (p q : Plain) (t : Ticketed) (g : Grown) → IsIdle p → g.path ≡ path
    → is_out (Some (load_of (spot_at p path))) t.info ≡ true
    → (q ≡ step (Settle t g) (led path p)) ⊎ Falls (end_of (spot_at (led path p) path) t g) t g (led path p) q → IsIdle q
idle_by path p q t g idle at out left =
    let known : end_of (spot_at (led path p) path) t g ≢ ending.Unknown =
    not_unknown (end_of (spot_at (led path p) path) t g)
    (known_out (is_out (out_in (spot_at (led path p) path).row) t.info) (by_stage (spot_at (led path p) path) t g g.seen.stage)
    (ap (λ o. is_out o t.info) (own_out path p) ∙ out) (known_stage (spot_at (led path p) path) t g g.seen.stage)) in
    let but : IsIdleBut g.path (led path p) = subst (λ k. IsIdleBut k (led path p)) (sym at) (led_idle path p idle) in
    by_left known but left
  where
    by_left : end_of (spot_at (led path p) path) t g ≢ ending.Unknown → IsIdleBut g.path (led path p)
        → (q ≡ step (Settle t g) (led path p)) ⊎ Falls (end_of (spot_at (led path p) path) t g) t g (led path p) q → IsIdle q
    by_left known but (inl is) =
        let e : end_of (spot_at (led path p) g.path) t g ≡ end_of (spot_at (led path p) path) t g = ap (λ k. end_of (spot_at
        (led path p) k) t g) at in
        subst IsIdle (sym is) (ended_idle (end_of (spot_at (led path p) g.path) t g) t g (led path p) (λ k. known (sym e ∙ k)) but)
    by_left known but (inr f) = fallen_idle (end_of (spot_at (led path p) path) t g) t g (led path p) q known but f

-- after a load
pub loaded_idle : {S Q : Type 0} (s : SiteGhosts S) (tells : Bool) (k : Kept) (m : Manner) (r : Request) (e : Entry) (path : List ℕ)
    (class : Class) (origins : List (List ℕ))
    (now : Moment) (p : Plain) (mid new : House) (t : Ticketed) (note : Note Q) (io : Sent) → IsIdle p
    → TicketAs tells k (spot_at p path) path origins now t
    → mid.plain ≡ led path p → LoadsFound s tells t m r e mid new note io → IsIdle new.plain
loaded_idle s tells k m r e path class origins now p mid new t note io idle given led_is l =
    let L = l.loads in
    let at : L.body.path ≡ path = L.ends.path ∙ ap (λ (i : Info). i.path) (L.info ∙ given.info) in
    let out : is_out (Some (load_of (spot_at p path))) L.spent.info ≡ true =
    subst (λ (i : Info). is_out (Some (load_of (spot_at p path))) i ≡ true) (sym L.info) (its_out tells k
    (spot_at p path) path origins now t given) in
    idle_by path p new.plain L.spent L.body idle at out
    (subst (λ (x : Plain). (new.plain ≡ step (Settle L.spent L.body) x)
    ⊎ Falls (end_of (spot_at x path) L.spent L.body) L.spent L.body x new.plain) led_is
    (subst (λ z. (new.plain ≡ step (Settle L.spent L.body) mid.plain) ⊎ Falls (end_of
    (spot_at mid.plain z) L.spent L.body) L.spent L.body mid.plain new.plain) at L.left))

-- the desk once the ticket was given out
pub led_plain : (path : List ℕ) (class : Class) (now : Moment) (p q : Plain) → q ≡ step (Begin path class now) p
    → begin_case (spot_at p path) class now.0 ≡ case.Lead → q ≡ led path p
led_plain path class now p q plain k = plain ∙ ap (λ (c : Case). let_in c path p) k

-- a body that was loaded has ended
stage_by : {S : Type 0} (s : SiteGhosts S) (tells : Bool) (t : Ticketed) (old new : House) (final : Grown) (l : LoadsBy s t old new final)
    → (final ≡ l.body) ⊎ (final ≡ grown_after (end_of (spot_at old.plain l.body.path) l.spent l.body) l.body)
    → final.seen.stage ≡ l.body.seen.stage
stage_by s tells t old new final l (inl k) = ap (λ (g : Grown). g.seen.stage) k
stage_by s tells t old new final l (inr k) =
    ap (λ (g : Grown). g.seen.stage) k
    ∙ ap (λ (x : Look). x.stage) (look_after (end_of (spot_at old.plain l.body.path) l.spent l.body) l.body)

module _ {S : Type 0} (s : SiteGhosts S) (tells : Bool) (t : Ticketed) (old new : House) (final : Grown)
    (l : LoadsBy s t old new final) where
  pub loads_opened : final.seen.stage ≢ stage.Opening
  loads_opened k = l.ends.opened (sym (stage_by s tells t old new final l l.is) ∙ k)

  pub loads_grown : final.seen.stage ≢ stage.Running
  loads_grown k = l.ends.ended (sym (stage_by s tells t old new final l l.is) ∙ k)

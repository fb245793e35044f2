-- A file's note sends a front of the asked part of one file.
use Rattle.std.proofs.Common.{◌≡◌, inl, inr, ◌⊎◌, ◌≤◌, ℕ, ◌-◌, Bool, true, false, List, [], length, Option, Some, None}
use Rattle.std.proofs.Common.{IfSome, IsSome, refl, ap, sym, subst, ◌∙◌, arith}
use Rattle.std.specs.Prelude.{cond}
use Rattle.std.proofs.Math.Seq.{take-length}
use Rattle.acng_site.specs.declared.site.Site.{Ghosts as SiteGhosts}
use Rattle.acng_site.specs.Honest.{IsFront}
use Rattle.acng_conf.specs.Settings.{Settings}
use Rattle.acng_head.specs.declared.head.Label.{Label}
use Rattle.acng_head.specs.declared.head.Label.TheVariants.{Fetched, Imported}
use Rattle.acng_grow.specs.declared.why.Shown.{Shown}
use Rattle.acng_grow.specs.Stands.{StandsFor, StandsWhole}
use Rattle.acng_request.specs.declared.got.Request.{Request}
use Rattle.acng_request.specs.ReplyHeads.{head_text}
use Rattle.acng_reply.specs.declared.line.Line.{Line}
use Rattle.acng_reply.specs.declared.line.Line.TheVariants as line
use Rattle.acng_reply.specs.declared.manner.Manner.{Manner}
use Rattle.acng_reply.specs.declared.pick.Pick.{Pick}
use Rattle.acng_reply.specs.declared.pick.Pick.TheVariants.{Unmodified, NoPart, Section, All}
use Rattle.acng_reply.specs.Lines.{line_status, shown_line}
use Rattle.acng_reply.specs.Picks.{pick, is_kept, part_of, status_of}
use Rattle.acng_reply.specs.Replies.{Reply, Sent, WroteAll, WroteFront, through, body_of, file_reply}
use Rattle.acng_reply.proofs.Fronts.{front_part, part_same}
use Rattle.acng_reply.proofs.Parting.{through_all}
use Rattle.acng_reply.proofs.Texts.{carried_le}
use Rattle.acng_serve.specs.declared.note.Cause.{Cause}
use Rattle.acng_serve.specs.declared.note.Note.{Note}
use Rattle.acng_serve.specs.Notes.{Gives, Found, lined, filed, found_by, line_or}
use Rattle.acng_serve.specs.Causes.{line_of}
use Rattle.acng_serve.specs.Lawful.{FileNote, EndsWhole, EndsCut, EndsBroken, PartIsThere}
use Rattle.acng_serve.specs.Headline.{SendsFile, SendsFiles}
use Rattle.acng_serve.proofs.Frees.{status_given}

-- ---- replies of one line have no file's status

line_refuses : (l : Line) → 400 ≤ line_status l
line_refuses line.BadHead = omega arith
line_refuses line.HasBody = omega arith
line_refuses line.Connect = omega arith
line_refuses line.Tls = omega arith
line_refuses line.BadTarget = omega arith
line_refuses line.Query = omega arith
line_refuses line.BadPath = omega arith
line_refuses line.Forbidden = omega arith
line_refuses line.Maint = omega arith
line_refuses line.Gone = omega arith
line_refuses line.Method = omega arith
line_refuses (line.NoPart total) = omega arith
line_refuses line.TooLarge = omega arith
line_refuses line.Keeper = omega arith
line_refuses line.Origin = omega arith
line_refuses line.Early = omega arith
line_refuses line.Bad = omega arith
line_refuses line.Status = omega arith
line_refuses line.TlsRedirect = omega arith
line_refuses line.Redirects = omega arith
line_refuses line.Offline = omega arith
line_refuses line.Full = omega arith
line_refuses line.Worn = omega arith
line_refuses line.NoMemory = omega arith

refused : (status : ℕ) (l : Line) → status ≡ line_status l → (status ≡ 200) ⊎ (status ≡ 206) → ⊥
refused status l e (inl k) = let big = line_refuses l in omega (arith, e, k, big)
refused status l e (inr k) = let big = line_refuses l in omega (arith, e, k, big)

-- a line sends no file
pub no_file : {S Q : Type 0} (s : SiteGhosts S) (conf : Settings) (m : Manner) (r : Request) (c : Cause Q) (note : Note Q) (io : Sent)
    → Gives (lined m c None None) note io → SendsFiles s conf m r note io
no_file s conf m r c note io g path origins is got status =
    absurd (refused note.status (line_or (line_of c)) (status_given (lined m c None None) note io (inl g)) status)

-- ---- the file of a label of which a text is a front

module _ {S : Type 0} (s : SiteGhosts S) (path : List ℕ) where
  abbrev file_for : Label → List ℕ → List ℕ
  file_for (Fetched first last) text = s.instance first path
  file_for (Imported hash size) text = text

  is_file : (label : Label) (text : List ℕ) → StandsFor s path label text → StandsWhole s path label (file_for label text)
  is_file (Fetched first last) text h = λ _. refl
  is_file (Imported hash size) text h = h

  front : s.tells ≡ true → (label : Label) (text : List ℕ) → StandsFor s path label text → IsFront (file_for label text) text
  front t (Fetched first last) text h = h t
  front t (Imported hash size) text h = take-length text

  same : s.tells ≡ true → (label : Label) (text : List ℕ) → StandsWhole s path label text → text ≡ file_for label text
  same t (Fetched first last) text h = sym (h t)
  same t (Imported hash size) text h = refl

  -- a part that is there whole is the file's
  full : (tells : Bool) → s.tells ≡ true → tells ≡ true → (label : Label) (text : List ℕ) (p : Pick) → StandsFor s path label text
      → PartIsThere s tells path (Some label) text p → part_of p text ≡ part_of p (file_for label text)
  full tells t k label text Unmodified h is = refl
  full tells t k label text (NoPart from total) h is = refl
  full tells t k label text (Section from stop total) h is = part_same from stop total text (file_for label text) (front t label text h) is
  full tells t k label text All h is = same t label text (is t k)

-- ---- a file's note

some_of : {A : Type 0} (o : Option A) → IsSome o → (a : A) × (o ≡ Some a)
some_of None h = absurd (cc)
some_of (Some a) h = (a, refl)

few_carried : (r : Reply) (sent : ℕ) (io : Sent) → WroteFront r sent io → sent ≤ length r.body
few_carried r sent io w =
    let b = w.1 in
    let few = carried_le r.sending b.cutting.pieces (b.k - length (head_text r.head b.cutting.date)) in
    let size = ap length b.cutting.cut in
    let count = b.count in
    omega (arith, few, size, count)

module _ {S Q : Type 0} (s : SiteGhosts S) (tells : Bool) (m : Manner) (r : Request) (path : List ℕ) (note : Note Q) (io : Sent)
    (t : s.tells ≡ true) (k : tells ≡ true) (bare : m.bare ≡ false) (n : FileNote s tells m r path note io) where
  abbrev f : Found
  f = n.found

  abbrev p : Pick
  p = pick r (is_kept f.look.stage) f.look.facts

  abbrev reply : Reply
  reply = file_reply m f.look.facts f.text p

  -- the reply is that of a part of the text
  module _ (unshown : f.look.shown ≡ None) (body : reply.body ≡ part_of p f.text) (label : Label) (labelled : note.label ≡ Some label) where
    stands : StandsFor s path label f.text
    stands = subst (λ o. IfSome o (λ l. StandsFor s path l f.text)) labelled (n.stands t k)

    abbrev file : List ℕ
    file = file_for s path label f.text

    ends : EndsWhole (filed m f p) note io ⊎ EndsCut s f.entry.asked (filed m f p) note io ⊎ EndsBroken (filed m f p) note io
    ends = subst (λ o. EndsWhole (found_by m r f o) note io ⊎ EndsCut s f.entry.asked (found_by m r f o) note io
        ⊎ EndsBroken (found_by m r f o) note io) unshown n.ends

    all_there : note.whole ≡ true → reply.body ≡ part_of p file
    all_there w = body ∙ full s path tells t k label f.text p stands (subst (λ o. PartIsThere s tells path o f.text p) labelled
        (n.there w unshown))

    not_both : note.whole ≡ true → note.whole ≡ false → ⊥
    not_both w c = let e : true ≡ false = sym w ∙ c in absurd (cc)

    made : (e : EndsWhole (filed m f p) note io ⊎ EndsCut s f.entry.asked (filed m f p) note io ⊎ EndsBroken (filed m f p) note io)
        → (note.sent ≤ length reply.body) × (note.whole ≡ true → note.sent ≡ length reply.body)
        × (WroteAll (through note.sent note.whole reply) io ⊎ WroteFront reply note.sent io)
    made (inl e) = (
      let sent = e.sent in omega (arith, sent),
      λ _. e.sent,
      inl (subst (λ b. WroteAll (through note.sent b reply) io) (sym e.whole) (subst (λ k. WroteAll (through k true reply) io) (sym e.sent)
          (subst (λ q. WroteAll q io) (sym (through_all reply refl)) e.wrote))),
    )
    made (inr (inl e)) = (
      e.sent,
      λ w. absurd (not_both w e.whole),
      inl (subst (λ b. WroteAll (through note.sent b reply) io) (sym e.whole) e.wrote),
    )
    made (inr (inr e)) = (few_carried reply note.sent io e.wrote, λ w. absurd (not_both w e.whole), inr e.wrote)

    sends : SendsFile s path m r note io
    sends =
        let e = made ends in
        record {
          label = label;
          labelled = labelled;
          file = file;
          is_file = is_file s path label f.text stands;
          facts = f.look.facts;
          kept = is_kept f.look.stage;
          asked = p;
          picked = refl;
          reply = reply;
          head = refl;
          front = subst (IsFront (part_of p file)) (sym body) (front_part p f.text file (front s path t label f.text stands));
          few = e.0;
          whole = λ w. (e.1 w, all_there w);
          wrote = e.2;
        }

  -- by what was picked
  by_pick : f.look.shown ≡ None → (q : Pick) → p ≡ q → note.status ≡ status_of q → (note.status ≡ 200) ⊎ (note.status ≡ 206)
      → (reply.body ≡ part_of p f.text)
  by_pick u Unmodified e is (inl x) = absurd (omega (arith, is, x))
  by_pick u Unmodified e is (inr x) = absurd (omega (arith, is, x))
  by_pick u (NoPart from total) e is (inl x) = absurd (omega (arith, is, x))
  by_pick u (NoPart from total) e is (inr x) = absurd (omega (arith, is, x))
  by_pick u (Section from stop total) e is x =
      ap (λ b. cond b [] (body_of p f.text)) bare ∙ ap (λ z. body_of z f.text) e ∙ ap (λ z. part_of z f.text) (sym e)
  by_pick u All e is x = ap (λ b. cond b [] (body_of p f.text)) bare ∙ ap (λ z. body_of z f.text) e ∙ ap (λ z. part_of z f.text) (sym e)

  by_shown : (o : Option Shown) → f.look.shown ≡ o → note.status ≡ (found_by {Q = Q} m r f o).note.status
      → (note.status ≡ 200) ⊎ (note.status ≡ 206) → SendsFile s path m r note io
  by_shown (Some c) e is status = absurd (refused note.status (shown_line c) is status)
  by_shown None e is status =
      let l = some_of note.label (n.labelled e) in
      sends e (by_pick e p refl is status) l.0 l.1

  pub sends_file : (note.status ≡ 200) ⊎ (note.status ≡ 206) → SendsFile s path m r note io
  sends_file status = by_shown f.look.shown refl n.status status

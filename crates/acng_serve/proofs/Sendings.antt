-- Notes and replies of what was sent.
use Rattle.std.proofs.Common.{◌≡◌, inl, inr, ℕ, Bool, true, false, List, length, Option, Some, None, refl, ap, sym, subst, ◌∙◌}
use Rattle.acng_head.specs.declared.head.Label.{Label}
use Rattle.acng_desk.specs.declared.entry.Entry.{Entry}
use Rattle.acng_grow.specs.declared.owned.FollowStop.{FollowStop}
use Rattle.acng_grow.specs.declared.owned.FollowStop.TheVariants as stop
use Rattle.acng_grow.specs.declared.owned.Followed.{Followed}
use Rattle.acng_grow.specs.declared.why.Shown.{Shown}
use Rattle.acng_grow.specs.Grown.{Grown, text_of}
use Rattle.acng_request.specs.declared.got.Request.{Request}
use Rattle.acng_reply.specs.declared.line.Line.{Line}
use Rattle.acng_reply.specs.declared.manner.Manner.{Manner}
use Rattle.acng_reply.specs.declared.pick.Pick.{Pick}
use Rattle.acng_reply.specs.Lines.{line_status}
use Rattle.acng_reply.specs.Picks.{pick, is_kept, part_in, status_of}
use Rattle.acng_reply.specs.Parted.{SendsPart, Parted, is_due}
use Rattle.acng_reply.specs.Replies.{Sent, WroteAll, WroteFront, line_reply, file_reply}
use Rattle.acng_reply.proofs.Brokens.{broke_front}
use Rattle.acng_reply.proofs.Parts.{told_text}
use Rattle.acng_serve.specs.declared.note.Cause.{Cause}
use Rattle.acng_serve.specs.declared.note.Cause.TheVariants as cause
use Rattle.acng_serve.specs.declared.note.Note.{Note}
use Rattle.acng_serve.specs.Causes.{line_of, stop_cause}
use Rattle.acng_serve.specs.Notes.{Answer, Gives, GivesFile, lined, filed, found, found_by, line_or, is_whole, SendsPick, SendsFound}

-- ---- lines

-- the note of a line
abbrev pub told : {Q : Type 0} → Line → Cause Q → Option Label → Option Entry → ℕ → Bool → Note Q
told l c label entry sent whole =
    record { status = line_status l; cause = c; label = label; entry = entry; part = None; sent = sent; whole = whole }

module _ {Q : Type 0} (m : Manner) (c : Cause Q) (label : Option Label) (entry : Option Entry) (io : Sent) where
  abbrev line : Line
  line = line_or (line_of c)

  sent_as : (sent : ℕ) (note : Note Q) → note ≡ told line c label entry sent true → sent ≡ length (line_reply m line).body
      → WroteAll (line_reply m line) io → Gives (lined m c label entry) note io
  sent_as sent note is count wrote = inl (is ∙ ap (λ n. told line c label entry n true) count, wrote)

  broke_as : (sent : ℕ) (note : Note Q) → note ≡ told line cause.ClientFault label entry sent false → WroteFront (line_reply m line) sent io
      → Gives (lined m c label entry) note io
  broke_as sent note is w = inr (record {
    status = ap (λ n. n.status) is;
    cause = ap (λ n. n.cause) is;
    label = ap (λ n. n.label) is;
    entry = ap (λ n. n.entry) is;
    part = ap (λ n. n.part) is;
    whole = ap (λ n. n.whole) is;
    wrote = subst (λ k. WroteFront (line_reply m line) k io) (sym (ap (λ n. n.sent) is)) w;
  })

  pub line_sent : (l : Line) → l ≡ line → (sent : ℕ) (note : Note Q) → note ≡ told l c label entry sent true
      → sent ≡ length (line_reply m l).body → WroteAll (line_reply m l) io → Gives (lined m c label entry) note io
  line_sent l e sent note = subst (λ k. note ≡ told k c label entry sent true → sent ≡ length (line_reply m k).body
      → WroteAll (line_reply m k) io
      → Gives (lined m c label entry) note io) (sym e) (sent_as sent note)

  pub line_broke : (l : Line) → l ≡ line → (sent : ℕ) (note : Note Q) → note ≡ told l cause.ClientFault label entry sent false
      → WroteFront (line_reply m l) sent io → Gives (lined m c label entry) note io
  line_broke l e sent note = subst (λ k. note ≡ told k cause.ClientFault label entry sent false → WroteFront (line_reply m k) sent io
      → Gives (lined m c label entry) note io) (sym e) (broke_as sent note)

-- ---- files

-- the note of a part
abbrev part_note : {Q : Type 0} → Pick → Entry → Followed Q → Note Q
part_note p e f = record {
  status = status_of p;
  cause = stop_cause p f.stop;
  label = f.label;
  entry = Some e;
  part = part_in p;
  sent = f.sent;
  whole = is_whole f.stop;
}

module _ {Q : Type 0} (m : Manner) (p : Pick) (e : Entry) (g : Grown) (io : Sent) (tells : Bool) (unshown : g.seen.shown ≡ None) where
  abbrev a : List ℕ → Answer Q
  a text = filed m (found e g.seen text) p

  -- by how the sending ended
  by_stop : (text : List ℕ) (there : Bool) (sent : ℕ) (label : Option Label) (st : FollowStop Q) → label ≡ g.seen.label
      → Parted (file_reply m g.seen.facts text p) there g.seen.shown io sent st
      → GivesFile (a text) (part_note p e (record { sent = sent; label = label; stop = st })) io
  by_stop text there sent label stop.Whole l ends = inl (inl (
    ap (λ k. part_note p e (record { sent = sent; label = k; stop = stop.Whole })) l
        ∙ ap (λ n. part_note p e (record { sent = n; label = g.seen.label; stop = stop.Whole })) ends.1,
    ends.2,
  ))
  by_stop text there sent label (stop.Cut c) l ends = let k : Some c ≡ None = sym ends.1 ∙ unshown in absurd (cc)
  by_stop text there sent label (stop.Slip q) l ends = inr (record {
    slip = q;
    cause = refl;
    status = refl;
    label = l;
    entry = refl;
    part = refl;
    whole = refl;
    few = ends.0;
    wrote = ends.1;
  })
  by_stop text there sent label stop.ClientFault l ends = inl (inr (record {
    status = refl;
    cause = refl;
    label = l;
    entry = refl;
    part = refl;
    whole = refl;
    wrote = broke_front (file_reply m g.seen.facts text p) refl there sent io ends;
  }))

  pub part_sent : (f : Followed Q) → f.label ≡ g.seen.label → SendsPart tells m p g io f → SendsPick tells m p e g (part_note p e f) io
  part_sent f labelled s = record {
    text = s.text;
    size = s.size;
    is = s.is;
    gives = by_stop s.text (is_due m p g) f.sent f.label f.stop labelled s.ends;
  }

  -- by what the note is made of
  pub part_told : (f : Followed Q) (status : ℕ) (c : Cause Q) (part : Option (ℕ × ℕ)) (whole : Bool) → f.label ≡ g.seen.label
      → status ≡ status_of p → c ≡ stop_cause p f.stop → part ≡ part_in p → whole ≡ is_whole f.stop → SendsPart tells m p g io f
      → SendsPick tells m p e g (record
      { status = status; cause = c; label = f.label; entry = Some e; part = part; sent = f.sent; whole = whole }) io
  part_told f status c part whole labelled a b d w s =
      subst (λ k. SendsPick tells m p e g (record
      { status = k; cause = c; label = f.label; entry = Some e; part = part; sent = f.sent; whole = whole }) io) (sym a)
      (subst (λ k. SendsPick tells m p e g (record
      { status = status_of p; cause = k; label = f.label; entry = Some e; part = part; sent = f.sent; whole = whole }) io) (sym b)
      (subst (λ k. SendsPick tells m p e g (record
      { status = status_of p; cause = stop_cause p f.stop; label = f.label; entry = Some e; part = k; sent = f.sent; whole = whole })
      io) (sym d)
      (subst (λ k. SendsPick tells m p e g (record {
        status = status_of p;
        cause = stop_cause p f.stop;
        label = f.label;
        entry = Some e;
        part = part_in p;
        sent = f.sent;
        whole =
            k;
      }) io) (sym w)
      (part_sent f labelled s))))

-- what was picked of a whole body
pub picked_sent : {Q : Type 0} (tells : Bool) (m : Manner) (r : Request) (e : Entry) (g : Grown) (note : Note Q) (io : Sent)
    → g.seen.shown ≡ None
    → SendsPick tells m (pick r (is_kept g.seen.stage) g.seen.facts) e g note io → SendsFound tells m r e g note io
picked_sent tells m r e g note io unshown s = record {
  text = s.text;
  size = s.size;
  is = s.is;
  gives = subst (λ k. GivesFile (found_by m r (found e g.seen s.text) k) note io) (sym unshown) s.gives;
}

-- the line of a body that broke off
pub shown_sent : {Q : Type 0} (tells : Bool) (m : Manner) (r : Request) (e : Entry) (g : Grown) (note : Note Q) (io : Sent) (c : Shown)
    → (tells ≡ true → g.seen.size ≡ length (text_of g)) → g.seen.shown ≡ Some c
    → Gives (lined m (cause.Load c) g.seen.label (Some e)) note io → SendsFound tells m r e g note io
shown_sent tells m r e g note io c size is gives =
    let t = told_text tells g size in
    record {
      text = t.0;
      size = t.1;
      is = t.2;
      gives = subst (λ k. GivesFile (found_by m r (found e g.seen t.0) k) note io) (sym is) (inl gives);
    }

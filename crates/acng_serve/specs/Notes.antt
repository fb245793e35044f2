-- What a request is answered, and what a call that answers it gives.
use Rattle.std.specs.Prelude.{◌≡◌, ◌⊎◌, ◌≤◌, ◌||◌, ◌==◌, ℕ, Bool, true, false, List, length, Option, Some, None}
use Rattle.acng_head.specs.declared.head.Label.{Label}
use Rattle.acng_base.specs.Causes.{Rose}
use Rattle.acng_grow.specs.declared.asked.Look.{Look}
use Rattle.acng_grow.specs.declared.facts.Seen.{Seen}
use Rattle.acng_grow.specs.declared.owned.FollowStop.{FollowStop}
use Rattle.acng_grow.specs.declared.owned.FollowStop.TheVariants as stop
use Rattle.acng_grow.specs.Grown.{Grown, text_of}
use Rattle.acng_grow.specs.declared.why.Shown.{Shown}
use Rattle.acng_desk.specs.declared.entry.Entry.{Entry}
use Rattle.acng_expire.specs.declared.line.ExpireLine.{ExpireLine}
use Rattle.acng_report.specs.Pages.{Page}
use Rattle.acng_request.specs.declared.got.Request.{Request}
use Rattle.acng_reply.specs.declared.line.Line.{Line}
use Rattle.acng_reply.specs.declared.line.Line.TheVariants as line
use Rattle.acng_reply.specs.declared.manner.Manner.{Manner}
use Rattle.acng_reply.specs.declared.pick.Pick.{Pick}
use Rattle.acng_reply.specs.Lines.{line_status}
use Rattle.acng_reply.specs.Picks.{pick, is_kept, part_in, status_of}
use Rattle.acng_reply.specs.Replies.{Reply, Sent, WroteAll, WroteFront, line_reply, page_reply, file_reply, through}
use Rattle.acng_serve.specs.declared.note.Cause.{Cause}
use Rattle.acng_serve.specs.declared.note.Cause.TheVariants as cause
use Rattle.acng_serve.specs.declared.note.Note.{Note}
use Rattle.acng_serve.specs.Causes.{line_of, pick_cause, is_slip, is_client_fault}

-- a reply, and what is told of it where all of it goes out
pub record Answer (Q : Type 0) : Type 0 where
  pub note : Note Q
  pub reply : Reply

-- ---- replies of one line

-- a cause without a line has no reply of one line
abbrev pub line_or : Option Line → Line
line_or None = line.NoMemory
line_or (Some l) = l

abbrev pub lined : {Q : Type 0} → Manner → Cause Q → Option Label → Option Entry → Answer Q
lined m c label entry = record {
  note = record {
    status = line_status (line_or (line_of c));
    cause = c;
    label = label;
    entry = entry;
    part = None;
    sent = length (line_reply m (line_or (line_of c))).body;
    whole = true;
  };
  reply = line_reply m (line_or (line_of c));
}

-- ---- the report page

-- a page, with the run that went before it
abbrev pub paged : {Q : Type 0} → Manner → Page → Option (ExpireLine Q) → Answer Q
paged m page run = record {
  note = record {
    status = 200;
    cause = cause.Page page run;
    label = None;
    entry = None;
    part = None;
    sent = length (page_reply m page.bytes).body;
    whole = true;
  };
  reply = page_reply m page.bytes;
}

-- ---- files

-- what was found for a file: how the request was let in, what is to be seen of the body, and its text
pub record Found : Type 0 where
  pub entry : Entry
  pub look : Look
  pub text : List ℕ

abbrev pub filed : {Q : Type 0} → Manner → Found → Pick → Answer Q
filed m f p = record {
  note = record {
    status = status_of p;
    cause = pick_cause p;
    label = f.look.label;
    entry = Some f.entry;
    part = part_in p;
    sent = length (file_reply m f.look.facts f.text p).body;
    whole = true;
  };
  reply = file_reply m f.look.facts f.text p;
}

-- a body that was loaded, or is held
abbrev pub look_of : Seen → Look
look_of s = record { stage = s.stage; facts = s.facts; label = s.label; shown = s.shown }

abbrev pub found : Entry → Seen → List ℕ → Found
found e s text = record { entry = e; look = look_of s; text = text }

-- a body that is found ended before it was whole gets a line that says why; else the request picks
abbrev pub found_by : {Q : Type 0} → Manner → Request → Found → Option Shown → Answer Q
found_by m r f (Some shown) = lined m (cause.Load shown) f.look.label (Some f.entry)
found_by m r f None = filed m f (pick r (is_kept f.look.stage) f.look.facts)

abbrev pub answer_of : {Q : Type 0} → Manner → Request → Found → Answer Q
answer_of m r f = found_by m r f f.look.shown

-- ---- what a call gives

-- the link failed while this was written
pub record Broke {Q : Type 0} (a : Answer Q) (note : Note Q) (io : Sent) : Type 0 where
  pub status : note.status ≡ a.note.status
  pub cause : note.cause ≡ cause.ClientFault
  pub label : note.label ≡ a.note.label
  pub entry : note.entry ≡ a.note.entry
  pub part : note.part ≡ a.note.part
  pub whole : note.whole ≡ false
  pub wrote : WroteFront a.reply note.sent io

-- the answer went out, or the link failed
abbrev pub Gives : {Q : Type 0} → Answer Q → Note Q → Sent → Type 0
Gives a note io = ((note ≡ a.note) × WroteAll a.reply io) ⊎ Broke a note io

-- the body's file failed behind the head, and the reply is cut there
pub record Slipped {Q : Type 0} (a : Answer Q) (note : Note Q) (io : Sent) : Type 0 where
  pub slip : Q
  pub cause : note.cause ≡ cause.KeeperSlip slip
  pub status : note.status ≡ a.note.status
  pub label : note.label ≡ a.note.label
  pub entry : note.entry ≡ a.note.entry
  pub part : note.part ≡ a.note.part
  pub whole : note.whole ≡ false
  pub few : note.sent ≤ length a.reply.body
  pub wrote : WroteAll (through note.sent false a.reply) io

abbrev pub GivesFile : {Q : Type 0} → Answer Q → Note Q → Sent → Type 0
GivesFile a note io = Gives a note io ⊎ Slipped a note io

-- a reply was sent of some text as long as the body, which is the body's where its file tells
pub record SendsPick {Q : Type 0} (tells : Bool) (m : Manner) (p : Pick) (e : Entry) (g : Grown) (note : Note Q) (io : Sent) : Type 0 where
  pub text : List ℕ
  pub size : length text ≡ g.seen.size
  pub is : tells ≡ true → text ≡ text_of g
  pub gives : GivesFile (filed m (found e g.seen text) p) note io

pub record SendsFound {Q : Type 0} (tells : Bool) (m : Manner) (r : Request) (e : Entry) (g : Grown) (note : Note Q)
    (io : Sent) : Type 0 where
  pub text : List ℕ
  pub size : length text ≡ g.seen.size
  pub is : tells ≡ true → text ≡ text_of g
  pub gives : GivesFile (answer_of m r (found e g.seen text)) note io

-- ---- what decides besides

-- a failed call of the keeper or want of memory decided: 500 and 507 come of nothing else, and a slip cuts a file's reply
abbrev pub is_free : {Q : Type 0} → Note Q → Bool
is_free note = (note.status == 500) || (note.status == 507) || is_slip note.cause

abbrev pub is_whole : {Q : Type 0} → FollowStop Q → Bool
is_whole stop.Whole = true
is_whole (stop.Cut shown) = false
is_whole (stop.Slip slip) = false
is_whole stop.ClientFault = false

-- the client's count of faults rose exactly where the note says that the link failed
abbrev pub LinkTold : {Q : Type 0} → Note Q → ℕ → ℕ → Type 0
LinkTold note before now = FaultBy (is_client_fault note.cause) before now
  where
    FaultBy : Bool → ℕ → ℕ → Type 0
    FaultBy true before now = Rose before now
    FaultBy false before now = now ≡ before

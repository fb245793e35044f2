-- A reply, and what a link takes of it (RFC 9112, sections 4, 6 and 7.1).
use Rattle.std.specs.Prelude.{◌≡◌, ℕ, ◌+◌, ◌-◌, ◌≤◌, Bool, true, cond, List, [], ◌∷◌, ◌++◌, length, take, Option}
use Rattle.std.specs.List.{concat}
use Rattle.std.specs.Io.KnownBytes.{Appends}
use Rattle.acng_base.specs.declared.link.Link.{Ghosts as LinkGhosts}
use Rattle.acng_base.specs.Causes.{Rose}
use Rattle.acng_request.specs.declared.reply.ReplyHead.{ReplyHead}
use Rattle.acng_request.specs.ReplyHeads.{head_text, IsDateOf}
use Rattle.acng_grow.specs.declared.facts.Facts.{Facts}
use Rattle.acng_grow.specs.declared.sending.Sending.{Sending}
use Rattle.acng_grow.specs.declared.sending.Sending.TheVariants as sending
use Rattle.acng_grow.specs.Sends.{piece_text, framed, last_text, AreSome, counted_in}
use Rattle.acng_reply.specs.declared.line.Line.{Line}
use Rattle.acng_reply.specs.declared.line.Line.TheVariants as line
use Rattle.acng_reply.specs.declared.manner.Manner.{Manner}
use Rattle.acng_reply.specs.declared.pick.Pick.{Pick}
use Rattle.acng_reply.specs.declared.pick.Pick.TheVariants.{Unmodified, NoPart, Section, All}
use Rattle.acng_reply.specs.Heads.{line_head, page_head, file_head, sending_of}
use Rattle.acng_reply.specs.Lines.{line_text}
use Rattle.acng_reply.specs.Manners.{unless_bare}
use Rattle.acng_reply.specs.Picks.{part_of}

-- the head, how the body is sent, the body as far as it is sent, and whether that is all that the head promised
pub record Reply : Type 0 where
  pub head : ReplyHead
  pub sending : Sending
  pub body : List ℕ
  pub whole : Bool

-- the reply through the first n bytes of its body, with or without what ends it
abbrev pub through : ℕ → Bool → Reply → Reply
through n whole r = record { head = r.head; sending = r.sending; body = take n r.body; whole = whole }

-- ---- the replies

abbrev pub line_reply : Manner → Line → Reply
line_reply m l = record { head = line_head m l; sending = sending.Length; body = unless_bare m (line_text l); whole = true }

abbrev pub page_reply : Manner → List ℕ → Reply
page_reply m page = record { head = page_head (length page); sending = sending.Length; body = unless_bare m page; whole = true }

-- what stands behind the head, by what is sent of a file
abbrev pub body_of : Pick → List ℕ → List ℕ
body_of Unmodified file = []
body_of (NoPart from total) file = line_text (line.NoPart total)
body_of (Section from stop total) file = part_of (Section from stop total) file
body_of All file = file

-- the reply of a body with these facts and this text
abbrev pub file_reply : Manner → Facts → List ℕ → Pick → Reply
file_reply m f text p = record {
  head = file_head m f p;
  sending = sending_of m (file_head m f p).framing;
  body = unless_bare m (body_of p text);
  whole = true;
}

-- ---- texts

-- what ends a whole body
abbrev pub end_of : Reply → List ℕ
end_of r = cond r.whole (last_text r.sending) []

-- the text, where this is the text of its date and the body is cut into these pieces
abbrev pub text_by : Reply → List ℕ → List (List ℕ) → List ℕ
text_by r date pieces = head_text r.head date ++ (framed r.sending pieces ++ end_of r)

-- a date, and a cutting of the body into pieces that aren't empty; nothing else is open in a reply's text
pub record Cutting (r : Reply) : Type 0 where
  pub date : List ℕ
  pub dated : IsDateOf r.head.modified date
  pub pieces : List (List ℕ)
  pub some : AreSome pieces
  pub cut : concat pieces ≡ r.body

-- the text of a reply
abbrev pub IsText : Reply → List ℕ → Type 0
IsText r text = (c : Cutting r) × (text ≡ text_by r c.date c.pieces)

-- how many bytes of the body are among the first k of its pieces as they are framed
abbrev pub carried : Sending → List (List ℕ) → ℕ → ℕ
carried s [] k = 0
carried s (p ∷ ps) k = counted_in s p k + carried s ps (k - length (piece_text s p))

-- the text is the first k bytes of a reply's, with so many bytes of its body among them
pub record IsBroken (r : Reply) (sent : ℕ) (text : List ℕ) : Type 0 where
  pub cutting : Cutting r
  pub k : ℕ
  pub front : text ≡ take k (text_by r cutting.date cutting.pieces)
  pub count : sent ≡ carried r.sending cutting.pieces (k - length (head_text r.head cutting.date))

-- ---- what a link takes

-- what was written and how often the link had failed, before and now
pub record Sent : Type 0 where
  pub old : Option (List ℕ)
  pub now : Option (List ℕ)
  pub before : ℕ
  pub after : ℕ

-- over a link
abbrev pub sent_by : {L : Type 0} → LinkGhosts L → L → L → Sent
sent_by l old new = record { old = l.written old; now = l.written new; before = l.faults old; after = l.faults new }

-- all of the reply went out
abbrev pub WroteAll : Reply → Sent → Type 0
WroteAll r io = (text : List ℕ) × IsText r text × Appends io.old io.now text

-- the link failed after a front of the reply, with so many bytes of its body
abbrev pub WroteFront : Reply → ℕ → Sent → Type 0
WroteFront r sent io = (text : List ℕ) × IsBroken r sent text × Appends io.old io.now text × Rose io.before io.after

-- all of the head went out
pub record HeadWent (head : ReplyHead) (io : Sent) : Type 0 where
  pub date : List ℕ
  pub dated : IsDateOf head.modified date
  pub bytes : Appends io.old io.now (head_text head date)

-- the link failed after a front of the head
pub record HeadBroke (head : ReplyHead) (io : Sent) : Type 0 where
  pub date : List ℕ
  pub dated : IsDateOf head.modified date
  pub k : ℕ
  pub few : k ≤ length (head_text head date)
  pub bytes : Appends io.old io.now (take k (head_text head date))
  pub rose : Rose io.before io.after

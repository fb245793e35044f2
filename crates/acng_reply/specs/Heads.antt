-- The heads of the replies (RFC 9110, sections 8, 14.4 and 15; RFC 9112, sections 6 and 9.6).
use Rattle.std.specs.Prelude.{ℕ, ◌-◌, Bool, true, false, ◌||◌, ◌==◌, cond, length, Option, Some, None}
use Rattle.acng_request.specs.declared.reply.Framing.{Framing}
use Rattle.acng_request.specs.declared.reply.Framing.TheVariants as framing
use Rattle.acng_request.specs.declared.reply.Kind.TheVariants.{File, Plain, Html}
use Rattle.acng_request.specs.declared.reply.ReplyHead.{ReplyHead}
use Rattle.acng_grow.specs.declared.facts.Facts.{Facts}
use Rattle.acng_grow.specs.declared.sending.Sending.{Sending}
use Rattle.acng_grow.specs.declared.sending.Sending.TheVariants as sending
use Rattle.acng_reply.specs.declared.line.Line.{Line}
use Rattle.acng_reply.specs.declared.line.Line.TheVariants as line
use Rattle.acng_reply.specs.declared.manner.Manner.{Manner}
use Rattle.acng_reply.specs.declared.pick.Pick.{Pick}
use Rattle.acng_reply.specs.declared.pick.Pick.TheVariants.{Unmodified, NoPart, Section, All}
use Rattle.acng_reply.specs.Lines.{line_status, line_text, total_in}

-- the head of a reply of one line
abbrev pub line_head : Manner → Line → ReplyHead
line_head m l = record {
  status = line_status l;
  framing = framing.Length (length (line_text l));
  kind = Plain;
  part = None;
  total = total_in l;
  modified = None;
  tag = None;
  close = m.close;
}

-- the head of a page of so many bytes; the connection closes after a page
abbrev pub page_head : ℕ → ReplyHead
page_head len = record {
  status = 200;
  framing = framing.Length len;
  kind = Html;
  part = None;
  total = None;
  modified = None;
  tag = None;
  close = true;
}

-- ---- files

-- a known length is told; an unknown one is sent in chunks, to HTTP/1.0 to the connection's end
abbrev pub file_framing : ℕ → Option ℕ → Framing
file_framing minor (Some total) = framing.Length total
file_framing minor None = cond (minor == 0) framing.ToEnd framing.Chunked

-- the body ends with the connection
abbrev pub ends_body : Framing → Bool
ends_body (framing.Length n) = false
ends_body framing.Chunked = false
ends_body framing.ToEnd = true

abbrev pub of_file : Manner → Facts → ℕ → Framing → Option (ℕ × ℕ × ℕ) → ReplyHead
of_file m f status how part = record {
  status = status;
  framing = how;
  kind = File;
  part = part;
  total = None;
  modified = f.modified;
  tag = f.tag;
  close = m.close || ends_body how;
}

-- the head over what is sent of a file. A 304 tells no length.
abbrev pub file_head : Manner → Facts → Pick → ReplyHead
file_head m f Unmodified = of_file m f 304 (framing.Length 0) None
file_head m f (NoPart from total) = line_head m (line.NoPart total)
file_head m f (Section from stop total) = of_file m f 206 (framing.Length (stop - from)) (Some (from, stop - 1, total))
file_head m f All = of_file m f 200 (file_framing m.minor f.total) None

-- ---- how the body is sent

abbrev pub sent_as : Framing → Sending
sent_as (framing.Length n) = sending.Length
sent_as framing.Chunked = sending.Chunked
sent_as framing.ToEnd = sending.ToEnd

-- nothing follows the head of a reply to HEAD, no last chunk either
abbrev pub sending_of : Manner → Framing → Sending
sending_of m how = cond m.bare sending.Length (sent_as how)

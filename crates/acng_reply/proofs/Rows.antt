-- Worked replies, held against literal values and texts.
use Rattle.std.proofs.Common.{◌≡◌, ℕ, true, false, [], ◌∷◌, ◌++◌, length, Option, Some, None, refl, codes}
use Rattle.std.specs.Fmt.{digits}
use Rattle.hex.proofs.OnLiterals.{hex_on_literals}
use Rattle.httpdate.proofs.OnLiterals.{httpdate_on_literals}
use Rattle.acng_base.specs.declared.clock.Moment.{Moment}
use Rattle.acng_request.specs.declared.got.Request.{Request}
use Rattle.acng_request.specs.declared.got.Part.{Part}
use Rattle.acng_grow.specs.declared.facts.Facts.{Facts}
use Rattle.acng_reply.specs.declared.line.Line.TheVariants as line
use Rattle.acng_reply.specs.declared.manner.Manner.{Manner}
use Rattle.acng_reply.specs.declared.pick.Pick.TheVariants.{Unmodified, NoPart, Section, All}
use Rattle.acng_reply.specs.Manners.{manner_of, unread}
use Rattle.acng_reply.specs.Picks.{pick, part_of}
use Rattle.acng_reply.specs.Replies.{file_reply, line_reply, page_reply, text_by}

abbrev moment : ℕ → Option Moment
moment n = Some (record { 0 = n })

abbrev from : ℕ → Option ℕ → Option Part
from k to = Some (record { from = k; to = to })

abbrev get : Request
get = record {
  method = codes "GET";
  target = codes "/h/a.deb";
  part = None;
  if_range = None;
  since = None;
  close = false;
  minor = 1;
}

-- a file of so many bytes, changed 1,000 seconds after 1970-01-01, with a tag
abbrev held : ℕ → Facts
held n = record { total = Some n; modified = moment 1000; tag = Some (codes "\"x\"") }

-- and one of which only the length is known
abbrev bare : ℕ → Facts
bare n = record { total = Some n; modified = None; tag = None }

abbrev unknown : Facts
unknown = record { total = None; modified = None; tag = None }

abbrev go_on : Manner
go_on = manner_of false get

abbrev last : Manner
last = manner_of true get

abbrev to_head : Manner
to_head = manner_of true (record get { method = codes "HEAD" })

abbrev old : Manner
old = manner_of false (record get { minor = 0; close = true })

-- ---- ranges of a held body of three bytes

past : pick (record get { part = from 3 None }) true (held 3) ≡ NoPart 3 3
past = refl

last_byte : pick (record get { part = from 2 None }) true (held 3) ≡ Section 2 3 3
last_byte = refl

over : pick (record get { part = from 0 (Some 99) }) true (held 3) ≡ Section 0 3 3
over = refl

first_byte : pick (record get { part = from 0 (Some 0) }) true (held 3) ≡ Section 0 1 3
first_byte = refl

-- `bytes=-1` is read as no range
without : pick get true (held 3) ≡ All
without = refl

by_head : pick (record get { method = codes "HEAD"; part = from 2 None }) true (held 3) ≡ All
by_head = refl

empty : pick (record get { part = from 0 None }) true (held 0) ≡ NoPart 0 0
empty = refl

no_total : pick (record get { part = from 0 None }) true unknown ≡ All
no_total = refl

-- ---- a client's date

same_date : pick (record get { since = moment 1000 }) true (held 3) ≡ Unmodified
same_date = refl

earlier : pick (record get { since = moment 999 }) true (held 3) ≡ All
earlier = refl

with_range : pick (record get { since = moment 1000; part = from 0 None }) true (held 3) ≡ Unmodified
with_range = refl

no_date : pick (record get { since = moment 1000 }) true (bare 3) ≡ All
no_date = refl

-- a body that comes with an unknown length isn't known to be unmodified, a held one is
coming : pick (record get { since = moment 1000 }) false (record (held 3) { total = None }) ≡ All
coming = refl

kept : pick (record get { since = moment 1000 }) true (record (held 3) { total = None }) ≡ Unmodified
kept = refl

-- ---- If-Range by tag and by date

by_tag : pick (record get { part = from 1 None; if_range = Some (codes "\"x\"") }) true (held 3) ≡ Section 1 3 3
by_tag = refl

by_date : pick (record get { part = from 1 None; if_range = Some (codes "Thu, 01 Jan 1970 00:16:40 GMT") }) true (held 3) ≡ Section 1 3 3
unfolding httpdate_on_literals
by_date = refl

other_date : pick (record get { part = from 1 None; if_range = Some (codes "Thu, 01 Jan 1970 00:16:39 GMT") }) true (held 3) ≡ All
unfolding httpdate_on_literals
other_date = refl

other_tag : pick (record get { part = from 1 None; if_range = Some (codes "\"y\"") }) true (held 3) ≡ All
unfolding httpdate_on_literals
other_tag = refl

the_part : part_of (Section 2 3 3) (codes "abc") ≡ codes "c"
the_part = refl

-- ---- texts of files

whole : text_by (file_reply last (bare 3) (codes "abc") All) [] (codes "abc" ∷ [])
    ≡ codes "HTTP/1.1 200 OK\r\nContent-Type: application/octet-stream\r\nContent-Length: 3\r\nConnection: close\r\n\r\nabc"
unfolding digits
whole = refl

hundred : length (text_by (file_reply last (bare 3) (codes "abc") All) [] (codes "abc" ∷ [])) ≡ 100
unfolding digits
hundred = refl

nothing : text_by (file_reply last (bare 0) [] All) [] []
    ≡ codes "HTTP/1.1 200 OK\r\nContent-Type: application/octet-stream\r\nContent-Length: 0\r\nConnection: close\r\n\r\n"
unfolding digits
nothing = refl

head_alone : text_by (file_reply to_head (bare 3) (codes "abc") All) [] []
    ≡ codes "HTTP/1.1 200 OK\r\nContent-Type: application/octet-stream\r\nContent-Length: 3\r\nConnection: close\r\n\r\n"
unfolding digits
head_alone = refl

part : text_by (file_reply go_on (bare 3) (codes "abc") (Section 2 3 3)) [] (codes "c" ∷ [])
    ≡ codes "HTTP/1.1 206 Partial Content\r\nContent-Type: application/octet-stream\r\nContent-Length: 1\r\n"
    ++ codes "Content-Range: bytes 2-2/3\r\nConnection: keep-alive\r\n\r\nc"
unfolding digits
part = refl

no_part : text_by (file_reply last (held 3) (codes "abc") (NoPart 3 3)) [] (codes "416 NoPart\n" ∷ [])
    ≡ codes "HTTP/1.1 416 Range Not Satisfiable\r\nContent-Type: text/plain\r\nContent-Length: 11\r\n"
    ++ codes "Content-Range: bytes */3\r\nConnection: close\r\n\r\n416 NoPart\n"
unfolding digits
no_part = refl

unmodified : text_by (file_reply last (held 3) (codes "abc") Unmodified) (codes "Thu, 01 Jan 1970 00:16:40 GMT") []
    ≡ codes "HTTP/1.1 304 Not Modified\r\nLast-Modified: Thu, 01 Jan 1970 00:16:40 GMT\r\nETag: \"x\"\r\nConnection: close\r\n\r\n"
unfolding digits
unmodified = refl

-- an unknown length in chunks to HTTP/1.1, and to the connection's end to HTTP/1.0
chunked : text_by (file_reply go_on unknown (codes "abc") All) [] (codes "ab" ∷ codes "c" ∷ [])
    ≡ codes "HTTP/1.1 200 OK\r\nContent-Type: application/octet-stream\r\nTransfer-Encoding: chunked\r\n"
    ++ codes "Connection: keep-alive\r\n\r\n2\r\nab\r\n1\r\nc\r\n0\r\n\r\n"
unfolding digits hex_on_literals
chunked = refl

to_end : text_by (file_reply old unknown (codes "abc") All) [] (codes "abc" ∷ [])
    ≡ codes "HTTP/1.1 200 OK\r\nContent-Type: application/octet-stream\r\nConnection: close\r\n\r\nabc"
unfolding digits
to_end = refl

-- to HEAD no last chunk either
chunked_alone : text_by (file_reply to_head unknown (codes "abc") All) [] []
    ≡ codes "HTTP/1.1 200 OK\r\nContent-Type: application/octet-stream\r\nTransfer-Encoding: chunked\r\nConnection: close\r\n\r\n"
unfolding digits
chunked_alone = refl

-- ---- lines and pages

bad_path : text_by (line_reply go_on line.BadPath) [] (codes "403 BadPath\n" ∷ [])
    ≡ codes "HTTP/1.1 403 Forbidden\r\nContent-Type: text/plain\r\nContent-Length: 12\r\nConnection: keep-alive\r\n\r\n403 BadPath\n"
unfolding digits
bad_path = refl

method : text_by (line_reply unread line.Method) [] (codes "405 Method\n" ∷ [])
    ≡ codes "HTTP/1.1 405 Method Not Allowed\r\nContent-Type: text/plain\r\nContent-Length: 11\r\n"
    ++ codes "Allow: GET, HEAD\r\nConnection: close\r\n\r\n405 Method\n"
unfolding digits
method = refl

page : text_by (page_reply go_on (codes "<p>")) [] (codes "<p>" ∷ [])
    ≡ codes "HTTP/1.1 200 OK\r\nContent-Type: text/html\r\nContent-Length: 3\r\nConnection: close\r\n\r\n<p>"
unfolding digits
page = refl

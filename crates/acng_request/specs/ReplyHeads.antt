-- The head of a reply (RFC 9112, sections 2.1 and 4), as one text of its lines.
use Rattle.std.specs.Prelude.{◌≡◌, ℕ, ◌<◌, Bool, false, not, ◌||◌, ◌==◌, List, [], ◌∷◌, ◌++◌, Option, Some, None, option_map}
use Rattle.std.specs.Prelude.{unwrap_or, cond, codes, decimal}
use Rattle.std.specs.List.{list_any}
use Rattle.http.specs.StatusCode.{reason_phrase}
use Rattle.httpdate.specs.Date.{unix_secs, date_text}
use Rattle.httpdate.specs.declared.date.HttpDate.{HttpDate as Date}
use Rattle.acng_base.specs.Cuts.{carriage_return, line_feed}
use Rattle.acng_base.specs.Moments.{moment_limit}
use Rattle.acng_base.specs.declared.clock.Moment.{Moment}
use Rattle.acng_request.specs.declared.reply.Framing.{Framing}
use Rattle.acng_request.specs.declared.reply.Framing.TheVariants.{Length, Chunked, ToEnd}
use Rattle.acng_request.specs.declared.reply.Kind.{Kind}
use Rattle.acng_request.specs.declared.reply.Kind.TheVariants.{File, Plain, Html}
use Rattle.acng_request.specs.declared.reply.ReplyHead.{ReplyHead}

-- the statuses that the proxy replies with
abbrev pub reply_statuses : List ℕ
reply_statuses = 200 ∷ 206 ∷ 304 ∷ 400 ∷ 403 ∷ 404 ∷ 405 ∷ 416 ∷ 431 ∷ 500 ∷ 502 ∷ 503 ∷ 507 ∷ []

abbrev pub is_reply_status : ℕ → Bool
is_reply_status status = list_any (λ s. s == status) reply_statuses

-- the reply speaks of a file at hand
abbrev pub has_file : ℕ → Kind → Bool
has_file status File = status == 200 || status == 206 || status == 304
has_file status _ = false

-- a date before the year 10000 (RFC 9110, section 5.6.7)
abbrev pub IsWritable : Option Moment → Type 0
IsWritable None = Unit {0}
IsWritable (Some moment) = moment.0 < moment_limit

-- the text is the moment's date; where there is no moment, any text serves
abbrev pub IsDateOf : Option Moment → List ℕ → Type 0
IsDateOf None text = Unit {0}
IsDateOf (Some moment) text = (d : Date) × (unix_secs d ≡ moment.0) × (text ≡ date_text d)

-- ---- the lines; None where a line doesn't stand

-- a line that stands only on some statuses
abbrev pub only : Bool → Option (List ℕ) → Option (List ℕ)
only stands line = cond stands line None

-- RFC 9112, section 4
abbrev pub status_line : ℕ → Option (List ℕ)
status_line status = Some (codes "HTTP/1.1 " ++ decimal status ++ codes " " ++ unwrap_or (reason_phrase status) [])

abbrev pub kind_text : Kind → List ℕ
kind_text File = codes "application/octet-stream"
kind_text Plain = codes "text/plain"
kind_text Html = codes "text/html"

-- RFC 9110, section 8.3
abbrev pub type_line : ℕ → Kind → Option (List ℕ)
type_line status kind = only (not (status == 304)) (Some (codes "Content-Type: " ++ kind_text kind))

-- how the body's end is told (RFC 9112, section 6)
abbrev pub framing_text : Framing → Option (List ℕ)
framing_text (Length n) = Some (codes "Content-Length: " ++ decimal n)
framing_text Chunked = Some (codes "Transfer-Encoding: chunked")
framing_text ToEnd = None

abbrev pub framing_line : ℕ → Framing → Option (List ℕ)
framing_line status framing = only (not (status == 304)) (framing_text framing)

-- the first and the last place of a part, and the length of the whole (RFC 9110, section 14.4)
abbrev pub part_text : ℕ → ℕ → ℕ → List ℕ
part_text first last total = codes "Content-Range: bytes " ++ decimal first ++ codes "-" ++ decimal last ++ codes "/" ++ decimal total

abbrev pub no_part_text : ℕ → List ℕ
no_part_text total = codes "Content-Range: bytes */" ++ decimal total

abbrev pub part_line : ℕ → Option (ℕ × ℕ × ℕ) → Option (List ℕ)
part_line status part = only (status == 206) (option_map (λ p. part_text p.0 p.1 p.2) part)

abbrev pub no_part_line : ℕ → Option ℕ → Option (List ℕ)
no_part_line status total = only (status == 416) (option_map no_part_text total)

-- RFC 9110, section 8.8.2
abbrev pub modified_line : Bool → Option Moment → List ℕ → Option (List ℕ)
modified_line of_file modified date = only of_file (option_map (λ _. codes "Last-Modified: " ++ date) modified)

-- RFC 9110, section 8.8.3
abbrev pub tag_line : Bool → Option (List ℕ) → Option (List ℕ)
tag_line of_file tag = only of_file (option_map (λ t. codes "ETag: " ++ t) tag)

-- RFC 9110, section 10.2.1
abbrev pub allow_line : ℕ → Option (List ℕ)
allow_line status = only (status == 405) (Some (codes "Allow: GET, HEAD"))

-- RFC 9112, section 9.6
abbrev pub connection_line : Bool → Option (List ℕ)
connection_line close = Some (codes "Connection: " ++ cond close (codes "close") (codes "keep-alive"))

-- ---- the head

-- CR and LF
abbrev pub line_end : List ℕ
line_end = carriage_return ∷ line_feed ∷ []

-- a line with its end, or nothing
abbrev pub ended : Option (List ℕ) → List ℕ
ended None = []
ended (Some line) = line ++ line_end

-- the lines that stand, each with its end, and an empty line
abbrev pub joined : List (Option (List ℕ)) → List ℕ
joined [] = line_end
joined (line ∷ lines) = ended line ++ joined lines

-- the head, where this is the text of its date
abbrev pub head_text : ReplyHead → List ℕ → List ℕ
head_text head date =
    joined
    (status_line head.status
    ∷ type_line head.status head.kind
    ∷ framing_line head.status head.framing
    ∷ part_line head.status head.part
    ∷ no_part_line head.status head.total
    ∷ modified_line (has_file head.status head.kind) head.modified date
    ∷ tag_line (has_file head.status head.kind) head.tag
    ∷ allow_line head.status
    ∷ connection_line head.close
    ∷ [])

-- Replies of one line: status, name and LF. The names are this project's own.
use Rattle.std.specs.Prelude.{ℕ, List, codes, Option, Some, None}
use Rattle.acng_request.specs.declared.got.HeadFault.{HeadFault}
use Rattle.acng_request.specs.declared.got.HeadFault.TheVariants as fault
use Rattle.acng_grow.specs.declared.why.Shown.{Shown}
use Rattle.acng_grow.specs.declared.why.Shown.TheVariants as shown
use Rattle.acng_reply.specs.declared.line.Line.{Line}
use Rattle.acng_reply.specs.declared.line.Line.TheVariants as line

abbrev pub line_status : Line → ℕ
line_status line.BadHead = 400
line_status line.HasBody = 400
line_status line.Connect = 403
line_status line.Tls = 403
line_status line.BadTarget = 403
line_status line.Query = 403
line_status line.BadPath = 403
line_status line.Forbidden = 403
line_status line.Maint = 403
line_status line.Gone = 404
line_status line.Method = 405
line_status (line.NoPart total) = 416
line_status line.TooLarge = 431
line_status line.Keeper = 500
line_status line.Origin = 502
line_status line.Early = 502
line_status line.Bad = 502
line_status line.Status = 502
line_status line.TlsRedirect = 502
line_status line.Redirects = 502
line_status line.Offline = 503
line_status line.Full = 503
line_status line.Worn = 503
line_status line.NoMemory = 507

abbrev pub line_text : Line → List ℕ
line_text line.BadHead = codes "400 BadHead\n"
line_text line.HasBody = codes "400 HasBody\n"
line_text line.Connect = codes "403 Connect\n"
line_text line.Tls = codes "403 Tls\n"
line_text line.BadTarget = codes "403 BadTarget\n"
line_text line.Query = codes "403 Query\n"
line_text line.BadPath = codes "403 BadPath\n"
line_text line.Forbidden = codes "403 Forbidden\n"
line_text line.Maint = codes "403 Maint\n"
line_text line.Gone = codes "404 Gone\n"
line_text line.Method = codes "405 Method\n"
line_text (line.NoPart total) = codes "416 NoPart\n"
line_text line.TooLarge = codes "431 TooLarge\n"
line_text line.Keeper = codes "500 Keeper\n"
line_text line.Origin = codes "502 Origin\n"
line_text line.Early = codes "502 Early\n"
line_text line.Bad = codes "502 Bad\n"
line_text line.Status = codes "502 Status\n"
line_text line.TlsRedirect = codes "502 TlsRedirect\n"
line_text line.Redirects = codes "502 Redirects\n"
line_text line.Offline = codes "503 Offline\n"
line_text line.Full = codes "503 Full\n"
line_text line.Worn = codes "503 Worn\n"
line_text line.NoMemory = codes "507 NoMemory\n"

-- the length of the whole of which no part is sent (RFC 9110, section 14.4)
abbrev pub total_in : Line → Option ℕ
total_in line.BadHead = None
total_in line.HasBody = None
total_in line.Connect = None
total_in line.Tls = None
total_in line.BadTarget = None
total_in line.Query = None
total_in line.BadPath = None
total_in line.Forbidden = None
total_in line.Maint = None
total_in line.Gone = None
total_in line.Method = None
total_in (line.NoPart total) = Some total
total_in line.TooLarge = None
total_in line.Keeper = None
total_in line.Origin = None
total_in line.Early = None
total_in line.Bad = None
total_in line.Status = None
total_in line.TlsRedirect = None
total_in line.Redirects = None
total_in line.Offline = None
total_in line.Full = None
total_in line.Worn = None
total_in line.NoMemory = None

-- the line of a head that is refused
abbrev pub fault_line : HeadFault → Line
fault_line fault.BadHead = line.BadHead
fault_line fault.TooLarge = line.TooLarge
fault_line fault.Method = line.Method
fault_line fault.HasBody = line.HasBody

-- the line of a body that ended before its reply began
abbrev pub shown_line : Shown → Line
shown_line (shown.Origin n) = line.Origin
shown_line (shown.Early n) = line.Early
shown_line (shown.Bad n at) = line.Bad
shown_line (shown.Status n s) = line.Status
shown_line (shown.TlsRedirect n) = line.TlsRedirect
shown_line (shown.Redirects n) = line.Redirects
shown_line (shown.Gone n) = line.Gone
shown_line (shown.Keeper m) = line.Keeper
shown_line shown.NoMemory = line.NoMemory

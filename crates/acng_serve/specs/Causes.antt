-- Causes: the line of each, and the causes that other refusals are.
use Rattle.std.specs.Prelude.{Bool, true, false, List, ℕ, Option, Some, None}
use Rattle.acng_remap.specs.declared.target.TargetFault.{TargetFault}
use Rattle.acng_remap.specs.declared.target.TargetFault.TheVariants as target
use Rattle.acng_desk.specs.declared.entry.BrimKind.{BrimKind}
use Rattle.acng_desk.specs.declared.entry.BrimKind.TheVariants as brim
use Rattle.acng_desk.specs.Begins.{brim_of}
use Rattle.acng_grow.specs.declared.owned.FollowStop.{FollowStop}
use Rattle.acng_grow.specs.declared.owned.FollowStop.TheVariants as stop
use Rattle.acng_reply.specs.declared.line.Line.{Line}
use Rattle.acng_reply.specs.declared.line.Line.TheVariants as line
use Rattle.acng_reply.specs.declared.pick.Pick.{Pick}
use Rattle.acng_reply.specs.declared.pick.Pick.TheVariants.{Unmodified, NoPart, Section, All}
use Rattle.acng_reply.specs.Lines.{fault_line, shown_line}
use Rattle.acng_serve.specs.declared.note.Cause.{Cause}
use Rattle.acng_serve.specs.declared.note.Cause.TheVariants as cause

-- the line of a reply that has one
abbrev pub line_of : {Q : Type 0} → Cause Q → Option Line
line_of cause.Served = None
line_of (cause.Page page run) = None
line_of cause.NotModified = None
line_of (cause.NoPart from total) = Some (line.NoPart total)
line_of (cause.Head fault) = Some (fault_line fault)
line_of cause.Connect = Some line.Connect
line_of cause.Tls = Some line.Tls
line_of cause.BadTarget = Some line.BadTarget
line_of cause.Query = Some line.Query
line_of (cause.BadPath fault) = Some line.BadPath
line_of cause.Forbidden = Some line.Forbidden
line_of cause.Maint = Some line.Maint
line_of (cause.Load shown) = Some (shown_line shown)
line_of (cause.KeeperSlip slip) = Some line.Keeper
line_of (cause.Offline brim) = Some line.Offline
line_of (cause.Full brim) = Some line.Full
line_of (cause.Worn brim) = Some line.Worn
line_of cause.ClientFault = None
line_of cause.NoMemory = Some line.NoMemory

-- why a target is refused
abbrev pub target_cause : {Q : Type 0} → TargetFault → Cause Q
target_cause target.NoMemory = cause.NoMemory
target_cause target.Connect = cause.Connect
target_cause target.Tls = cause.Tls
target_cause target.BadTarget = cause.BadTarget
target_cause target.Query = cause.Query
target_cause (target.BadPath fault) = cause.BadPath fault

-- a desk at a limit
abbrev pub brim_cause : {Q : Type 0} → BrimKind → List ℕ → Cause Q
brim_cause brim.Offline path = cause.Offline (brim_of brim.Offline path)
brim_cause brim.Full path = cause.Full (brim_of brim.Full path)
brim_cause brim.Worn path = cause.Worn (brim_of brim.Worn path)

-- a file's reply that went out whole
abbrev pub pick_cause : {Q : Type 0} → Pick → Cause Q
pick_cause Unmodified = cause.NotModified
pick_cause (NoPart from total) = cause.NoPart from total
pick_cause (Section from stop total) = cause.Served
pick_cause All = cause.Served

-- how the sending of a file ended
abbrev pub stop_cause : {Q : Type 0} → Pick → FollowStop Q → Cause Q
stop_cause p stop.Whole = pick_cause p
stop_cause p (stop.Cut shown) = cause.Load shown
stop_cause p (stop.Slip slip) = cause.KeeperSlip slip
stop_cause p stop.ClientFault = cause.ClientFault

-- a call of the keeper or of a file failed
abbrev pub is_slip : {Q : Type 0} → Cause Q → Bool
is_slip cause.Served = false
is_slip (cause.Page page run) = false
is_slip cause.NotModified = false
is_slip (cause.NoPart from total) = false
is_slip (cause.Head fault) = false
is_slip cause.Connect = false
is_slip cause.Tls = false
is_slip cause.BadTarget = false
is_slip cause.Query = false
is_slip (cause.BadPath fault) = false
is_slip cause.Forbidden = false
is_slip cause.Maint = false
is_slip (cause.Load shown) = false
is_slip (cause.KeeperSlip slip) = true
is_slip (cause.Offline brim) = false
is_slip (cause.Full brim) = false
is_slip (cause.Worn brim) = false
is_slip cause.ClientFault = false
is_slip cause.NoMemory = false

-- the client's link failed
abbrev pub is_client_fault : {Q : Type 0} → Cause Q → Bool
is_client_fault cause.Served = false
is_client_fault (cause.Page page run) = false
is_client_fault cause.NotModified = false
is_client_fault (cause.NoPart from total) = false
is_client_fault (cause.Head fault) = false
is_client_fault cause.Connect = false
is_client_fault cause.Tls = false
is_client_fault cause.BadTarget = false
is_client_fault cause.Query = false
is_client_fault (cause.BadPath fault) = false
is_client_fault cause.Forbidden = false
is_client_fault cause.Maint = false
is_client_fault (cause.Load shown) = false
is_client_fault (cause.KeeperSlip slip) = false
is_client_fault (cause.Offline brim) = false
is_client_fault (cause.Full brim) = false
is_client_fault (cause.Worn brim) = false
is_client_fault cause.ClientFault = true
is_client_fault cause.NoMemory = false

-- the report page was sent
abbrev pub is_page : {Q : Type 0} → Cause Q → Bool
is_page cause.Served = false
is_page (cause.Page page run) = true
is_page cause.NotModified = false
is_page (cause.NoPart from total) = false
is_page (cause.Head fault) = false
is_page cause.Connect = false
is_page cause.Tls = false
is_page cause.BadTarget = false
is_page cause.Query = false
is_page (cause.BadPath fault) = false
is_page cause.Forbidden = false
is_page cause.Maint = false
is_page (cause.Load shown) = false
is_page (cause.KeeperSlip slip) = false
is_page (cause.Offline brim) = false
is_page (cause.Full brim) = false
is_page (cause.Worn brim) = false
is_page cause.ClientFault = false
is_page cause.NoMemory = false

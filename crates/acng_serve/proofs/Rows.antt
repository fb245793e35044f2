-- Worked answers, held against literal values and texts.
use Rattle.std.proofs.Common.{◌≡◌, ℕ, zero, suc, true, false, List, [], ◌∷◌, length, Option, Some, None, refl, codes}
use Rattle.std.specs.Bool.{⊤}
use Rattle.std.specs.Fmt.{digits}
use Rattle.std.specs.Option.{unwrap_or}
use Rattle.acng_base.specs.Answers.{Reading, Whole, Early, Open}
use Rattle.acng_base.specs.declared.clock.Moment.{Moment}
use Rattle.acng_base.specs.declared.path.PathFault.TheVariants.{BadSegment}
use Rattle.acng_site.specs.declared.ask.Ask.{Ask}
use Rattle.acng_head.specs.declared.head.Label.TheVariants.{Fetched}
use Rattle.acng_conf.specs.Settings.{Settings, defaults, rules_of}
use Rattle.acng_remap.proofs.OnLiterals.{remap_on_literals}
use Rattle.acng_class.proofs.OnLiterals.{class_on_literals}
use Rattle.acng_class.specs.declared.class.Class.TheVariants.{Solid, Volatile}
use Rattle.acng_request.specs.declared.got.Request.{Request}
use Rattle.acng_grow.specs.declared.why.Shown.TheVariants as shown
use Rattle.acng_rows.specs.declared.row.Whole.{Whole as WholeBody}
use Rattle.acng_desk.specs.declared.entry.BrimKind.TheVariants as brim
use Rattle.acng_desk.specs.Begins.{brim_of}
use Rattle.acng_desk.specs.House.{Spot}
use Rattle.acng_reply.specs.Manners.{manner_of}
use Rattle.acng_report.specs.Pages.{page_of}
use Rattle.acng_reply.specs.Replies.{text_by}
use Rattle.acng_serve.specs.declared.note.Cause.TheVariants as cause
use Rattle.acng_serve.specs.Answered.{World, Answered, answered, by_class, still}
use Rattle.acng_serve.specs.Notes.{lined, paged}

abbrev at_second : ℕ → Moment
at_second n = record { 0 = n }

abbrev get : List ℕ → Request
get target = record { method = codes "GET"; target = target; part = None; if_range = None; since = None; close = false; minor = 1 }

abbrev url : List ℕ
url = codes "http://ftp.example.org/debian/pool/main/a/a_1_all.deb"

abbrev path : List ℕ
path = codes "ftp.example.org/debian/pool/main/a/a_1_all.deb"

abbrev head_of : List ℕ → Reading
head_of n = record {
  interim = [];
  head = Some (record {
    status = 200;
    fields =
        (codes "Content-Length", n) ∷ [];
  });
  body = [];
  outcome = Whole;
}

abbrev counted : List ℕ → List ℕ → Reading
counted n body = record (head_of n) { body = body }

-- a path with nothing
abbrev bare : Spot
bare = record { row = None; part = None; crowded = false; roomy = true; next_try = 0; next_id = 0; rules = rules_of defaults }

abbrev world : Spot → Reading → World
world spot r = record { spot = λ p. spot; bodies = λ id. codes "abc"; heard = λ n a. r; instance = λ n p. codes "abc"; now = at_second 1000 }

-- where the request shows no page
abbrev asks : World → Request → Answered ⊤
asks w r = unwrap_or (answered defaults true w r) (still (lined (manner_of true r) cause.NoMemory None None))

-- ---- a file that isn't held

abbrev first : Answered ⊤
first = asks (world bare (counted (codes "3") (codes "abc"))) (get url)

text_of_first : text_by first.answer.reply [] (codes "abc" ∷ [])
    ≡ codes "HTTP/1.1 200 OK\r\nContent-Type: application/octet-stream\r\nContent-Length: 3\r\nConnection: close\r\n\r\nabc"
unfolding remap_on_literals class_on_literals digits
text_of_first = refl

body_of_first : first.answer.reply.body ≡ codes "abc"
unfolding remap_on_literals class_on_literals
body_of_first = refl

label_of_first : first.answer.note.label ≡ Some (Fetched 0 0)
unfolding remap_on_literals class_on_literals
label_of_first = refl

cause_of_first : first.answer.note.cause ≡ cause.Served
unfolding remap_on_literals class_on_literals
cause_of_first = refl

loads_first : first.loads ≡ Some (path, url ∷ [])
unfolding remap_on_literals class_on_literals
loads_first = refl

-- an empty one
abbrev empty : Answered ⊤
empty = by_class (manner_of true (get url)) (record (world bare (head_of (codes "0"))) { instance = λ n p. [] }) (get url) path
    (url ∷ []) Solid

text_of_empty : text_by empty.answer.reply [] []
    ≡ codes "HTTP/1.1 200 OK\r\nContent-Type: application/octet-stream\r\nContent-Length: 0\r\nConnection: close\r\n\r\n"
unfolding digits
text_of_empty = refl

-- one that breaks off: its reply hasn't begun
abbrev early : Answered ⊤
early = by_class (manner_of true (get url)) (world bare (record (counted (codes "4") (codes "abc")) { outcome = Early })) (get url) path
    (url ∷ []) Solid

text_of_early : text_by early.answer.reply [] (codes "502 Early\n" ∷ [])
    ≡ codes "HTTP/1.1 502 Bad Gateway\r\nContent-Type: text/plain\r\nContent-Length: 10\r\nConnection: close\r\n\r\n502 Early\n"
unfolding digits
text_of_early = refl

cause_of_early : early.answer.note.cause ≡ cause.Load (shown.Early 0)
cause_of_early = refl

-- ---- a file that is held

abbrev whole : Option Moment → ℕ → WholeBody
whole modified checked = record
    { id = 0; label = Fetched 0 0; size = 3; tag = None; modified = modified; checked = at_second checked; mark = None }

abbrev held : Option Moment → ℕ → Spot
held modified checked = record bare {
  row = Some (record {
    whole = Some
        (whole modified checked);
    out = None;
  });
  next_try = 16;
  next_id = 1;
}

abbrev again : Answered ⊤
again = asks (world (held None 1000) (counted (codes "3") (codes "xyz"))) (get url)

body_of_again : again.answer.reply.body ≡ codes "abc"
unfolding remap_on_literals class_on_literals
body_of_again = refl

label_of_again : again.answer.note.label ≡ Some (Fetched 0 0)
unfolding remap_on_literals class_on_literals
label_of_again = refl

loads_nothing : again.loads ≡ None
unfolding remap_on_literals class_on_literals
loads_nothing = refl

-- ---- an index that is held, and 27 or 28 seconds old

abbrev same : Reading
same = record { interim = []; head = Some (record { status = 304; fields = [] }); body = []; outcome = Whole }

abbrev index_at : ℕ → Request → Answered ⊤
index_at now r =
    by_class (manner_of true r) (record (world (held (Some (at_second 1000)) 1000) same) { now = at_second now }) r path (url ∷ []) Volatile

fresh : (index_at 1027 (get url)).loads ≡ None
fresh = refl

stale : (index_at 1028 (get url)).loads ≡ Some (path, url ∷ [])
stale = refl

stale_body : (index_at 1028 (get url)).answer.reply.body ≡ codes "abc"
stale_body = refl

stale_status : (index_at 1028 (get url)).answer.note.status ≡ 200
stale_status = refl

-- a clock that went back makes nothing fresh
gone_back : (index_at 999 (get url)).loads ≡ Some (path, url ∷ [])
gone_back = refl

-- the client's date
has_it : (index_at 1028 (record (get url) { since = Some (at_second 1000) })).answer.note.status ≡ 304
has_it = refl

has_older : (index_at 1028 (record (get url) { since = Some (at_second 999) })).answer.note.status ≡ 200
has_older = refl

-- and a part of it
rest : (index_at 1000 (record (get url) { part = Some (record { from = 2; to = None }) })).answer.reply.body ≡ codes "c"
rest = refl

past : (index_at 1000 (record (get url) { part = Some (record { from = 3; to = None }) })).answer.note.cause ≡ cause.NoPart 3 3
past = refl

-- ---- limits

abbrev full : Answered ⊤
full = asks (world (record bare { crowded = true }) same) (get url)

full_cause : full.answer.note.cause ≡ cause.Full (brim_of brim.Full path)
unfolding remap_on_literals class_on_literals
full_cause = refl

full_status : full.answer.note.status ≡ 503
unfolding remap_on_literals class_on_literals
full_status = refl

abbrev worn : Answered ⊤
worn = asks (world (record bare { next_try = 9223372036854775808 }) same) (get url)

worn_cause : worn.answer.note.cause ≡ cause.Worn (brim_of brim.Worn path)
unfolding remap_on_literals class_on_literals
worn_cause = refl

-- the held path is served all the same
held_by_worn : (asks (world (record (held None 1000) { next_try = 9223372036854775808 }) same) (get url)).answer.note.status ≡ 200
unfolding remap_on_literals class_on_literals
held_by_worn = refl

abbrev offline : Settings
offline = record defaults { offline = true }

abbrev off : Spot → Answered ⊤
off spot = by_class (manner_of true (get url)) (world (record spot { rules = rules_of offline }) same) (get url) path (url ∷ []) Volatile

off_cause : (off bare).answer.note.cause ≡ cause.Offline (brim_of brim.Offline path)
off_cause = refl

-- a held one of any age
off_held : (off (held None 0)).answer.note.status ≡ 200
off_held = refl

-- ---- targets

forbidden : (asks (world bare same) (get (codes "/h/readme"))).answer.note.cause ≡ cause.Forbidden
unfolding remap_on_literals class_on_literals
forbidden = refl

tls : (asks (world bare same) (get (codes "https://h.example/a.deb"))).answer.note.cause ≡ cause.Tls
unfolding remap_on_literals class_on_literals
tls = refl

query : (asks (world bare same) (get (codes "/h.example/a.deb?x"))).answer.note.cause ≡ cause.Query
unfolding remap_on_literals class_on_literals
query = refl

dots : (asks (world bare same) (get (codes "/debian/../etc"))).answer.note.cause ≡ cause.BadPath (BadSegment 7)
unfolding remap_on_literals class_on_literals
dots = refl

tunnel : (asks (world bare same) (record (get (codes "h.example:443")) { method = codes "CONNECT" })).answer.note.cause ≡ cause.Connect
unfolding remap_on_literals class_on_literals
tunnel = refl

-- ---- a slip behind a tag: the rest is asked for, and another file comes

abbrev broken : ℕ → Ask → Reading
broken zero a = record {
  interim = [];
  head = Some (record { status = 200; fields = (codes "Content-Length", codes "3") ∷ (codes "ETag", codes "\"x\"") ∷ [] });
  body = codes "ab";
  outcome = Open;
}
broken (suc n) a = counted (codes "3") (codes "xyz")

abbrev another : Answered ⊤
another = by_class (manner_of true (get url)) (record (world bare same) { heard = broken }) (get url) path (url ∷ []) Solid

another_cause : another.answer.note.cause ≡ cause.Load (shown.Origin 0)
another_cause = refl

another_status : another.answer.note.status ≡ 502
another_status = refl

-- ---- the report page

-- what isn't answered by the function is the page's
abbrev visits : Settings → List ℕ → Option (Answered ⊤)
visits s target = answered s true (world bare same) (get target)

shown_page : visits defaults (codes "/acng-report.html") ≡ None
unfolding remap_on_literals
shown_page = refl

other_query : visits defaults (codes "/acng-report.html?run=import") ≡ None
unfolding remap_on_literals
other_query = refl

-- a run needs leave
forbidden_run : (asks (world bare same) (get (codes "/acng-report.html?run=expire"))).answer.note.cause ≡ cause.Maint
unfolding remap_on_literals
forbidden_run = refl

allowed_run : visits (record defaults { maint_over_http = true }) (codes "/acng-report.html?run=expire") ≡ None
unfolding remap_on_literals
allowed_run = refl

-- the page of an empty cache, and the same behind a run
abbrev empty_page : List ℕ → List ℕ
empty_page first = page_of first []

text_of_page : text_by (paged {Q = ⊤} (manner_of true (get url)) (record { bytes = empty_page []; first = [] }) None).reply [] (empty_page [] ∷ [])
    ≡ codes "HTTP/1.1 200 OK\r\nContent-Type: text/html\r\nContent-Length: 108\r\nConnection: close\r\n\r\n<!DOCTYPE html><html><head><title>acng report</title></head><body><pre>\nrows 0 bytes 0\n</pre></body></html>\n"
unfolding digits
text_of_page = refl

length_behind_run : length (empty_page (codes "done removed 0 marked 0")) ≡ 132
unfolding digits
length_behind_run = refl

-- How a request wants its reply.
use Rattle.std.specs.Prelude.{ℕ, Bool, true, false, ◌||◌, cond, List, [], bytes_eq, codes}
use Rattle.acng_request.specs.declared.got.Request.{Request}
use Rattle.acng_reply.specs.declared.manner.Manner.{Manner}

abbrev pub is_head : Request → Bool
is_head r = bytes_eq r.method (codes "HEAD")

-- no body follows the head of a reply to HEAD (RFC 9110, section 9.3.2); the connection closes after its last reply, and
-- where the request says so
abbrev pub manner_of : Bool → Request → Manner
manner_of last r = record { bare = is_head r; minor = r.minor; close = last || r.close }

-- of a reply to what isn't a request that was read
abbrev pub unread : Manner
unread = record { bare = false; minor = 1; close = true }

abbrev pub unless_bare : Manner → List ℕ → List ℕ
unless_bare m body = cond m.bare [] body

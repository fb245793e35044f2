-- The forms of a request's target (RFC 9112, section 3.2), with this project's own rules on TLS and the report page.
use Rattle.std.specs.Prelude.{ℕ, ◌+◌, Bool, ◌||◌, ◌==◌, List, [], ◌∷◌, cond, codes, length, take, drop, Option, Some, None, position, unwrap_or}
use Rattle.std.specs.List.{list_any}
use Rattle.acng_base.specs.Cuts.{slash, drop_front}
use Rattle.acng_base.specs.Names.{begins_with}
use Rattle.acng_base.specs.Paths.{is_slash}
use Rattle.acng_conf.specs.Keys.{is_named}

abbrev pub question_mark : ℕ
question_mark = 63

-- letters' case aside, the text begins with this word in small letters
abbrev pub begins_named : List ℕ → List ℕ → Bool
begins_named word text = is_named word (take (length word) text)

-- the byte stands in the text
abbrev pub has : ℕ → List ℕ → Bool
has b text = list_any (λ c. c == b) text

-- an origin is asked for over TLS, which can't be cached
unfoldable pub is_tls : List ℕ → Bool
is_tls target = begins_named (codes "https://") target || begins_with target (codes "/HTTPS///")

-- the absolute form: a whole URL (RFC 9112, section 3.2.2)
abbrev pub is_absolute : List ℕ → Bool
is_absolute target = begins_named (codes "http://") target

-- a slash stands first: the origin form (RFC 9112, section 3.2.1)
abbrev pub has_slash : List ℕ → Bool
has_slash target = begins_with target (codes "/")

-- what stands behind the report page's name: nothing, or `?` and a query
abbrev pub query_of : List ℕ → Option (List ℕ)
query_of [] = Some []
query_of (b ∷ query) = cond (b == question_mark) (Some query) None

-- the query of the report page, where the target asks for it
unfoldable pub page_query : List ℕ → List ℕ → Option (List ℕ)
page_query page target = cond (begins_with target (slash ∷ page)) (query_of (drop (length page + 1) target)) None

-- what stands behind `http://`, or else behind the first slashes
unfoldable pub after_start : List ℕ → List ℕ
after_start target = cond (is_absolute target) (drop 7 target) (drop_front is_slash target)

-- the offset of the first slash, or of the end; what stands before it, and what from there on
abbrev pub slash_at : List ℕ → ℕ
slash_at text = unwrap_or (position is_slash text) (length text)

abbrev pub before_slash : List ℕ → List ℕ
before_slash text = take (slash_at text) text

abbrev pub from_slash : List ℕ → List ℕ
from_slash text = drop (slash_at text) text

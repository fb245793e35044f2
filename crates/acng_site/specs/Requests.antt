-- The request that an ask is sent as (RFC 9112, section 3).
use Rattle.std.specs.Prelude.{◌≡◌, ℕ, Bool, true, false, List, [], ◌∷◌, ◌++◌, codes, decimal, IsUtf8, Option, Some, None, Ok}
use Rattle.std.specs.List.{concat}
use Rattle.url.specs.Host.{host_text}
use Rattle.url.specs.declared.host.Host.{Host}
use Rattle.url.specs.declared.host.Host.TheVariants.{Domain, Ipv4, Ipv6}
use Rattle.url.specs.Parts.{Parts, host_or_empty}
use Rattle.url.specs.Parser.{parse_url}
use Rattle.httpdate.specs.declared.date.HttpDate.{HttpDate}
use Rattle.httpdate.specs.Date.{unix_secs, date_text}
use Rattle.acng_base.specs.declared.clock.Moment.{Moment}
use Rattle.acng_site.specs.declared.ask.Ask.{Ask}

-- the host is an IPv6 literal
abbrev pub is_literal : Option (Host (List ℕ)) → Bool
is_literal None = false
is_literal (Some (Domain name)) = false
is_literal (Some (Ipv4 address)) = false
is_literal (Some (Ipv6 address)) = true

-- the text is a URL of the scheme `http` with these parts, by the URL Standard. That a host given as an IPv6 literal isn't
-- dialed is this project's own.
pub record IsDialed (text : List ℕ) (u : Parts) : Type 0 where
  pub utf8 : IsUtf8 text
  pub parts : parse_url None text ≡ Ok u
  pub scheme : u.scheme ≡ codes "http"
  pub named : is_literal u.host ≡ false

-- `?` and the query, where there is one
abbrev pub query_part : Option (List ℕ) → List ℕ
query_part None = []
query_part (Some query) = codes "?" ++ query

-- the target in origin form (RFC 9112, section 3.2.1). A URL of the scheme `http` that has no path has the path `/`.
abbrev pub target : Parts → List ℕ
target u = u.path ++ query_part u.query

-- `:` and the port, where it isn't the scheme's own
abbrev pub port_part : Option ℕ → List ℕ
port_part None = []
port_part (Some port) = codes ":" ++ decimal port

-- what `Host` names (RFC 9110, section 7.2): no user and no password
abbrev pub host_part : Parts → List ℕ
host_part u = host_text (host_or_empty u) ++ port_part u.port

-- with a tag, the rest from a place on, if the file still has the tag (RFC 9110, sections 13.1.5 and 14.2)
abbrev pub range_lines : ℕ → Option (List ℕ) → List ℕ
range_lines from None = []
range_lines from (Some tag) =
    concat (codes "Range: bytes=" ∷ decimal from ∷ codes "-\r\nIf-Range: " ∷ tag ∷ codes "\r\n" ∷ [])

-- with a moment, the file only if it is newer (RFC 9110, section 13.1.3)
abbrev pub IsSinceLine : Option Moment → List ℕ → Type 0
IsSinceLine None line = line ≡ []
IsSinceLine (Some moment) line =
    (d : HttpDate) × (unix_secs d ≡ moment.0) × (line ≡ codes "If-Modified-Since: " ++ date_text d ++ codes "\r\n")

-- the whole text: the request line, the fields and an empty line
abbrev pub request_text : Parts → ℕ → Option (List ℕ) → List ℕ → List ℕ
request_text u from tag since =
    concat (codes "GET " ∷ target u ∷ codes " HTTP/1.1\r\nHost: " ∷ host_part u
    ∷ codes "\r\nUser-Agent: acng\r\nConnection: close\r\n" ∷ range_lines from tag ∷ since ∷ codes "\r\n" ∷ [])

-- the text asks for this ask at a URL
abbrev pub IsRequestOf : Parts → Ask → List ℕ → Type 0
IsRequestOf u a text = (since : List ℕ) × IsSinceLine a.since since × (text ≡ request_text u a.from a.tag since)

-- Where a redirect leads (RFC 9110, sections 10.2.2 and 15.4).
use Rattle.std.specs.Prelude.{ℕ, Bool, ◌==◌, ◌||◌, ◌&&◌, List, cond, codes, bytes_eq, Option, Some, None, Ok, Err}
use Rattle.std.specs.Str.{is_utf8}
use Rattle.url.specs.Parts.{Parts, serialize}
use Rattle.url.specs.Parser.{Parsed, parse_url, and_then}
use Rattle.acng_site.specs.Requests.{is_literal}
use Rattle.acng_site.specs.declared.place.Place.{Place}
use Rattle.acng_site.specs.declared.place.Place.TheVariants.{Absent, Stray, Secure, At}

-- a status that a Location may follow
abbrev pub is_redirect : ℕ → Bool
is_redirect s = (s == 301) || (s == 302) || (s == 303) || (s == 307) || (s == 308)

-- the URL that was read, if one was
abbrev pub read_of : Parsed Parts → Option Parts
read_of (Ok u) = Some u
read_of (Err e) = None

-- a reference read against the asked URL, both of them texts
abbrev pub resolved : List ℕ → List ℕ → Option Parts
resolved url reference =
    cond (is_utf8 url && is_utf8 reference) (read_of (and_then (parse_url None url) (λ base. parse_url (Some base) reference))) None

-- a place of the scheme `http` or `https` that isn't an IPv6 literal; that those aren't followed is this project's own
abbrev pub place_at : Parts → Place
place_at u =
    cond (is_literal u.host) Stray
    (cond (bytes_eq u.scheme (codes "https")) Secure
    (cond (bytes_eq u.scheme (codes "http")) (At (serialize u)) Stray))

abbrev pub place_found : Option Parts → Place
place_found None = Stray
place_found (Some u) = place_at u

-- where a Location leads from the asked URL
abbrev pub place_of : List ℕ → Option (List ℕ) → Place
place_of url None = Absent
place_of url (Some reference) = place_found (resolved url reference)

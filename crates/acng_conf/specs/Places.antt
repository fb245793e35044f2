-- Entries of a group: URLs of `http` and path prefixes, and their canonical forms.
use Rattle.std.specs.Prelude.{ℕ, Bool, true, false, not, ◌||◌, ◌&&◌, ◌==◌, List, [], ◌∷◌, ◌++◌, cond, codes, bytes_eq, is_some, is_none, map, filter, take, drop, decimal, Option, Some, None, option_and_then}
use Rattle.std.specs.Result.{result_ok}
use Rattle.std.specs.List.{slice_split, list_any, concat, flat_map}
use Rattle.std.specs.Str.{is_utf8}
use Rattle.std.specs.Char.{is_ascii_alphanumeric}
use Rattle.percent_encoding.specs.Percent.{percent_encode_byte, percent_decode}
use Rattle.url.specs.Parser.{Parsed, parse_url}
use Rattle.url.specs.Parts.{Parts, nonempty_host, host_or_empty}
use Rattle.url.specs.Host.{host_text}
use Rattle.url.specs.declared.host.Host.{Host}
use Rattle.url.specs.declared.host.Host.TheVariants.{Domain, Ipv4, Ipv6}
use Rattle.acng_base.specs.Paths.{path_refusal, is_slash}
use Rattle.acng_base.specs.Cuts.{slash, colon, is_empty}
use Rattle.acng_conf.specs.Lines.{first_is}
use Rattle.acng_conf.specs.declared.place.Section.{Section}
use Rattle.acng_conf.specs.declared.place.Section.TheVariants.{Merging, Targets}

-- ---- paths

-- without its empty segments: a slash before each segment
abbrev pub without_empty : List ℕ → List ℕ
without_empty path = concat (map (λ s. slash ∷ s) (filter (λ s. not (is_empty s)) (slice_split is_slash path)))

-- the bytes that a path stands for, without empty segments
abbrev pub plain_path : List ℕ → List ℕ
plain_path path = without_empty (percent_decode path)

-- without the slash at its front, it is a path of the cache
abbrev pub is_path : List ℕ → Bool
is_path path = is_none (path_refusal (drop 1 path))

-- the byte stays in an escaped path: a letter, a digit, or one of these
abbrev pub is_kept : ℕ → Bool
is_kept b = is_ascii_alphanumeric b || list_any (λ c. c == b) (codes "-._~/+,:=@!$&'()*;")

-- any other byte is `%` and two upper-case hexadecimal digits
abbrev pub escaped_byte : ℕ → List ℕ
escaped_byte b = cond (is_kept b) (b ∷ []) (percent_encode_byte b)

abbrev pub escaped_path : List ℕ → List ℕ
escaped_path path = flat_map escaped_byte path

-- ---- URLs

-- the host is a domain or an IPv4 address
abbrev pub is_plain_host : Option (Host (List ℕ)) → Bool
is_plain_host None = false
is_plain_host (Some (Domain name)) = true
is_plain_host (Some (Ipv4 address)) = true
is_plain_host (Some (Ipv6 address)) = false

-- an `http` URL with nothing but host, port and path
abbrev pub is_plain_http : Parts → Bool
is_plain_http url = is_plain_host (nonempty_host url) && (bytes_eq url.scheme (codes "http")
    && (is_empty url.username && (is_empty url.password && (not (is_some url.query) && not (is_some url.fragment)))))

-- `://` stands in the word
abbrev pub has_scheme : List ℕ → Bool
has_scheme [] = false
has_scheme (b ∷ bs) = bytes_eq (take 3 (b ∷ bs)) (codes "://") || has_scheme bs

-- a word as a URL
abbrev pub as_url : List ℕ → List ℕ
as_url word = cond (has_scheme word) word (codes "http://" ++ word)

abbrev pub if_plain : Parts → Option Parts
if_plain url = cond (is_plain_http url) (Some url) None

-- the URL, if `url` reads the text and it is a plain one
abbrev pub plain_of : Parsed Parts → Option Parts
plain_of parsed = option_and_then if_plain (result_ok parsed)

-- the same of a text that may not be UTF-8, which `url` doesn't read then
abbrev pub read_plain : List ℕ → Option Parts
read_plain text = cond (is_utf8 text) (plain_of (parse_url None text)) None

-- the host, as `url` writes it (a domain in small letters), and the port where it isn't 80
abbrev pub host_and_port : Parts → List ℕ
host_and_port url = host_text (host_or_empty url) ++ option_port url.port
  where
    option_port : Option ℕ → List ℕ
    option_port None = []
    option_port (Some n) = colon ∷ decimal n

-- ---- entries

-- the canonical form: of a place that merges, host, port and path; of a target, a URL with its path escaped
abbrev pub form : Section → List ℕ → List ℕ → List ℕ
form Merging host path = host ++ path
form Targets host path = codes "http://" ++ host ++ escaped_path path

-- a path that an entry may have: none, or one of the cache
abbrev pub with_path : Section → List ℕ → List ℕ → Option (List ℕ)
with_path section host path = cond (is_empty path || is_path path) (Some (form section host path)) None

-- the entry that a word writes as a URL
abbrev pub url_entry : Section → List ℕ → Option (List ℕ)
url_entry section word = option_and_then (λ url. with_path section (host_and_port url) (plain_path url.path)) (read_plain (as_url word))

-- the entry that a word writes as a path prefix
abbrev pub prefix_entry : List ℕ → Option (List ℕ)
prefix_entry word = let path = plain_path word in cond (is_path path) (Some path) None

-- the entry that a word of a line writes: a prefix only where places merge
abbrev pub entry_of : Section → List ℕ → Option (List ℕ)
entry_of Merging word = cond (first_is slash word) (prefix_entry word) (url_entry Merging word)
entry_of Targets word = url_entry Targets word

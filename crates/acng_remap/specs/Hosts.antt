-- Hosts of targets: a name and perhaps a port (RFC 3986, section 3.2, without users and addresses in brackets).
use Rattle.std.specs.Prelude.{ℕ, ◌+◌, Bool, ◌&&◌, ◌==◌, nat_le, nat_lt, List, [], ◌∷◌, ◌++◌, cond, length, take, drop, decimal, Option, Some, None, position, unwrap_or}
use Rattle.std.specs.List.{list_all}
use Rattle.std.specs.Str.{str_to_ascii_lowercase}
use Rattle.acng_base.specs.Cuts.{colon, is_colon}
use Rattle.acng_conf.specs.Keys.{is_word_byte}
use Rattle.acng_conf.specs.Numbers.{number_within}

-- where the name ends
abbrev pub name_len : List ℕ → ℕ
name_len host = unwrap_or (position is_colon host) (length host)

-- 1 to 253 letters, digits, `.`, `-`, `_`
abbrev pub is_name : List ℕ → Bool
is_name name = nat_le 1 (length name) && (nat_le (length name) 253 && list_all is_word_byte name)

-- 1 to 5 digits with a value from 1 to 65,535
abbrev pub port_of : List ℕ → Option ℕ
port_of digits = number_within 5 1 65535 digits

-- the port behind the name, 80 where none is written
abbrev pub port_after : List ℕ → Option ℕ
port_after host = cond (nat_lt (name_len host) (length host)) (port_of (drop (name_len host + 1) host)) (Some 80)

-- the port of a host's text; None where the text is no host
unfoldable pub host_port : List ℕ → Option ℕ
host_port host = cond (is_name (take (name_len host) host)) (port_after host) None

-- the name of a host's text, in small letters
unfoldable pub host_name : List ℕ → List ℕ
host_name host = str_to_ascii_lowercase (take (name_len host) host)

-- the canonical text: the port stands where it isn't 80
unfoldable pub host_text : List ℕ → ℕ → List ℕ
host_text name port = name ++ cond (port == 80) [] (colon ∷ decimal port)

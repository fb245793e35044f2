-- A table of one file of three bytes, at one URL, for an origin over memory.
use Rattle.std.specs.Prelude.{ℕ, List, [], ◌∷◌, codes, false}
use Rattle.acng_site.specs.declared.rule.Rule.{Rule}

abbrev pub file : List ℕ
file = codes "abc"

abbrev pub answer : List ℕ
answer = codes "HTTP/1.1 200 OK\r\nContent-Length: 3\r\n\r\nabc"

abbrev pub rule : Rule
rule = record { url = codes "http://a/f.deb"; from = 0; first = 0; last = 9; bytes = answer; fault = false }

abbrev pub rules : List Rule
rules = rule ∷ []

-- Where a Location leads, held against literal URLs.
use Rattle.std.proofs.Common.{◌≡◌, [], ◌∷◌, Some, None, codes, refl}
use Rattle.std.specs.Str.{is_utf8}
use Rattle.url.proofs.OnLiterals.{url_on_literals}
use Rattle.acng_site.specs.Places.{place_of}
use Rattle.acng_site.specs.declared.place.Place.TheVariants.{Absent, Stray, Secure, At}

absent : place_of (codes "http://a/f") None ≡ Absent
absent = refl

-- another host, another path, and the asked URL itself
host : place_of (codes "http://a/f") (Some (codes "http://H.example:8080/g?x")) ≡ At (codes "http://h.example:8080/g?x")
unfolding url_on_literals is_utf8
host = refl

path : place_of (codes "http://a/b/f") (Some (codes "../c d")) ≡ At (codes "http://a/c%20d")
unfolding url_on_literals is_utf8
path = refl

same : place_of (codes "http://a/f") (Some []) ≡ At (codes "http://a/f")
unfolding url_on_literals is_utf8
same = refl

-- the scheme that isn't followed, and places that count as none
secure : place_of (codes "http://a/f") (Some (codes "https://a/f")) ≡ Secure
unfolding url_on_literals is_utf8
secure = refl

scheme : place_of (codes "http://a/f") (Some (codes "ftp://a/f")) ≡ Stray
unfolding url_on_literals is_utf8
scheme = refl

literal : place_of (codes "http://a/f") (Some (codes "http://[::1]/f")) ≡ Stray
unfolding url_on_literals is_utf8
literal = refl

secure_literal : place_of (codes "http://a/f") (Some (codes "https://[::1]/f")) ≡ Stray
unfolding url_on_literals is_utf8
secure_literal = refl

no_text : place_of (codes "http://a/f") (Some (255 ∷ [])) ≡ Stray
unfolding url_on_literals is_utf8
no_text = refl

-- an asked URL that doesn't read
no_base : place_of (codes "http://1.2.3.256/f") (Some (codes "http://a/f")) ≡ Stray
unfolding url_on_literals is_utf8
no_base = refl

-- The premise of an honest site can be met: a site that is a table of files is honest and serves its requests.
use Rattle.std.proofs.Common.{◌≡◌, ℕ, Bool, true, false, not, List, [], ◌∷◌, ◌++◌, Some, None, codes, cond, bytes_eq, refl, subst}
use Rattle.std.proofs.Common.{sym, ap, ◌∙◌, arith}
use Rattle.std.proofs.lemmas.Slice.Eq.{bytes_eq-Decides}
use Rattle.httparse.specs.Grammar.{is_token_byte, print_response, trim_ows}
use Rattle.acng_base.specs.Heads.{Head}
use Rattle.acng_base.specs.Framings.{total_of}
use Rattle.acng_base.specs.Answers.{Reading, reading, answer_limit}
use Rattle.acng_base.specs.Answers.Outcome.{Whole, Open}
use Rattle.acng_site.specs.declared.site.Site.{Ghosts as SiteGhosts}
use Rattle.acng_site.specs.Places.{is_redirect}
use Rattle.acng_site.specs.Honest.{IsHonest, IsHonestAnswer}

abbrev url : List ℕ
url = codes "http://a/f"

abbrev end : List ℕ
end = 13 ∷ 10 ∷ []

abbrev answer : List ℕ
answer = codes "HTTP/1.1 200 OK" ++ end ++ codes "Content-Length: 3" ++ end ++ end ++ codes "abc"

abbrev counted : Head
counted = record { status = 200; fields = (codes "Content-Length", codes "3") ∷ [] }

-- one file of three bytes at one URL, and faults at all others; each path is served at the URL of its name
abbrev table : SiteGhosts ℕ
table = record {
  tells = true;
  sent = λ n a. cond (bytes_eq a.url url) answer [];
  faulted = λ n a. not (bytes_eq a.url url);
  serves = λ u p. bytes_eq u (codes "http://" ++ p);
  instance = λ n p. codes "abc";
}

serves_all : (p : List ℕ) → table.serves (codes "http://" ++ p) p ≡ true
serves_all p = (bytes_eq-Decides (codes "http://" ++ p) (codes "http://" ++ p)).1 refl

abbrev whole_reading : Reading
whole_reading = record { interim = []; head = Some counted; body = codes "abc"; outcome = Whole }

abbrev no_reading : Reading
no_reading = record { interim = []; head = None; body = []; outcome = Open }

whole : reading answer true answer_limit ≡ whole_reading
unfolding is_token_byte print_response trim_ows
whole = refl

none : reading [] false answer_limit ≡ no_reading
none = refl

-- what the table sends reads as one of these two
abbrev read : Bool → Reading
read b = reading (cond b answer []) (not (not b)) answer_limit

counted_head : (b : Bool) (h : Head) → (read b).head ≡ Some h → counted ≡ h
counted_head true h is = let e : Some counted ≡ Some h = ap (λ r. r.head) (sym whole) ∙ is in cc
counted_head false h is = absurd (let e : None ≡ Some h = ap (λ r. r.head) (sym none) ∙ is in cc)

size : (h : Head) → counted ≡ h → total_of h ≡ Some 3
size h same = subst (λ h. total_of h ≡ Some 3) same refl

no_other : (h : Head) (s : ℕ) → counted ≡ h → h.status ≡ s → s ≡ 200
no_other h s same is = sym is ∙ sym (ap (λ h. h.status) same)

gives : (b : Bool) → IsHonestAnswer (codes "abc") (read b)
gives true =
    subst (λ r. IsHonestAnswer (codes "abc") r) (sym whole)
    (record {
      whole = λ h is ok. record { front = refl; all = λ w. refl };
      stated = λ h n is ok by. let e = size h (cc) in cc;
      part = λ h range is s by. absurd (let e : 206 ≡ 200 = no_other h 206 (cc) s in omega (arith, e));
    })
gives false =
    subst (λ r. IsHonestAnswer (codes "abc") r) (sym none)
    (record { whole = λ h is ok. cc; stated = λ h n is ok by. cc; part = λ h range is s by. cc })

-- no redirect comes, and a file never changes
honest : IsHonest table
honest = record {
  leads = λ n a p h to serves is redirects at.
      let same = counted_head (bytes_eq a.url url) h is in
      let e : is_redirect counted.status ≡ true = subst (λ h. is_redirect h.status ≡ true) (sym same) redirects in
      cc;
  gives = λ n a p serves. gives (bytes_eq a.url url);
  strong = λ m n a p tag h serves tagged before gave is s. refl;
}

-- Downloads from a site whose bytes are written out, and that such a site is honest.
use Rattle.std.proofs.Common.{◌≡◌, ℕ, Bool, true, false, not, List, [], ◌∷◌, ◌++◌, Some, None, codes, cond, ◌==◌}
use Rattle.std.proofs.Common.{refl, sym, ap, subst, ◌∙◌, arith}
use Rattle.httparse.specs.Grammar.{is_token_byte, print_response, trim_ows}
use Rattle.acng_base.specs.Heads.{Head}
use Rattle.acng_base.specs.Fields.{content_range}
use Rattle.acng_base.specs.Framings.{total_of}
use Rattle.acng_base.specs.Answers.{Reading, reading, answer_limit}
use Rattle.acng_base.specs.Answers.Outcome.{Whole, Open}
use Rattle.acng_site.specs.declared.site.Site.{Ghosts as SiteGhosts}
use Rattle.acng_site.specs.Honest.{IsHonest, IsHonestAnswer, CarriesPart, heard}
use Rattle.acng_grow.specs.declared.facts.Facts.{Facts}
use Rattle.acng_grow.specs.Effects.{Errand, Start, Resume, Bytes, Finish, opening}
use Rattle.acng_grow.specs.Download.{download}
use Rattle.acng_grow.specs.Allowed.{AllAllowed}
use Rattle.acng_fetch.specs.Law.{MayLoad}
use Rattle.acng_fetch.proofs.Downloads.{download_allowed}

abbrev end : List ℕ
end = 13 ∷ 10 ∷ []

abbrev url : List ℕ
url = codes "http://a/f"

abbrev tag : List ℕ
tag = codes "\"x\""

-- the file, as attempt 0 begins to give it, and as each later one goes on with it
abbrev first : List ℕ
first = codes "HTTP/1.1 200 OK" ++ end ++ codes "Content-Length: 3" ++ end ++ codes "ETag: \"x\"" ++ end ++ end ++ codes "ab"

abbrev later : List ℕ
later = codes "HTTP/1.1 206 Partial Content" ++ end ++ codes "Content-Range: bytes 2-2/3" ++ end ++ end ++ codes "c"

abbrev full_head : Head
full_head = record { status = 200; fields = (codes "Content-Length", codes "3") ∷ (codes "ETag", tag) ∷ [] }

abbrev part_head : Head
part_head = record { status = 206; fields = (codes "Content-Range", codes "bytes 2-2/3") ∷ [] }

abbrev full : Reading
full = record { interim = []; head = Some full_head; body = codes "ab"; outcome = Open }

abbrev rest : Reading
rest = record { interim = []; head = Some part_head; body = codes "c"; outcome = Whole }

reads_full : reading first false answer_limit ≡ full
unfolding is_token_byte print_response trim_ows
reads_full = refl

reads_rest : reading later true answer_limit ≡ rest
unfolding is_token_byte print_response trim_ows
reads_rest = refl

-- each URL is a place of each path's file, which has these three bytes in each attempt
abbrev site : SiteGhosts ℕ
site = record {
  tells = true;
  sent = λ n a. cond (n == 0) first later;
  faulted = λ n a. n == 0;
  serves = λ u p. true;
  instance = λ n p. codes "abc";
}

-- ---- it is honest

some_is : {A : Type 0} (x y : A) → Some x ≡ Some y → x ≡ y
some_is x y h = cc

status_is : (r h : Head) (n : ℕ) → Some r ≡ Some h → h.status ≡ n → r.status ≡ n
status_is r h n is k = ap (λ (x : Head). x.status) (some_is r h is) ∙ k

total : (h : Head) → Some full_head ≡ Some h → total_of h ≡ Some 3
total h is = subst (λ x. total_of x ≡ Some 3) (some_is full_head h is) refl

range : (h : Head) → Some part_head ≡ Some h → content_range h ≡ Some (2, 2, 3)
range h is = subst (λ x. content_range x ≡ Some (2, 2, 3)) (some_is part_head h is) refl

honest_full : IsHonestAnswer (codes "abc") full
honest_full = record {
  whole = λ h is ok. record { front = refl; all = λ w. absurd (cc) };
  stated = λ h n is ok by. let t = total h is in cc;
  part = λ h r is ok by. absurd (let e : 200 ≡ 206 = status_is full_head h 206 is ok in omega (arith, e));
}

honest_rest : IsHonestAnswer (codes "abc") rest
honest_rest = record {
  whole = λ h is ok. absurd (let e : 206 ≡ 200 = status_is part_head h 200 is ok in omega (arith, e));
  stated = λ h n is ok by. absurd (let e : 206 ≡ 200 = status_is part_head h 200 is ok in omega (arith, e));
  part = λ h r is ok by.
      let t = range h is in
      let same : (2, 2, 3) ≡ r = cc in
      subst (λ k. CarriesPart (codes "abc") k rest) same
      (record { part = record { front = refl; all = λ _. refl }; total = refl });
}

-- what attempt n gives, by whether n is 0
abbrev read : Bool → Reading
read b = reading (cond b first later) (not b) answer_limit

gives : (b : Bool) → IsHonestAnswer (codes "abc") (read b)
gives true = subst (λ r. IsHonestAnswer (codes "abc") r) (sym reads_full) honest_full
gives false = subst (λ r. IsHonestAnswer (codes "abc") r) (sym reads_rest) honest_rest

honest : IsHonest site
honest = record {
  leads = λ n a p h to serves is redirects at. refl;
  gives = λ n a p serves. gives (n == 0);
  strong = λ m n a p tag h serves tagged before gave is s. refl;
}

-- ---- the download

abbrev known : Facts
known = record { total = Some 3; modified = None; tag = Some tag }

abbrev one : Errand
one = record { origins = url ∷ []; redir_max = 5; part = None; old = None }

resumes : download (heard site) one 16 0 ≡ Start 0 url known ∷ Bytes (codes "ab") ∷ Resume 1 ∷ Bytes (codes "c") ∷ Finish ∷ []
unfolding is_token_byte print_response trim_ows
resumes = refl

-- so the law's premises can be met, and each of these effects is allowed
may : (path : List ℕ) → MayLoad site path 0 16 one
may path = record {
  tells = refl;
  honest = honest;
  errand = record { origins = λ _. (refl, tt); part = tt; old = tt };
  bounded = omega arith;
}

allowed : (path : List ℕ)
    → AllAllowed site path one opening (Start 0 url known ∷ Bytes (codes "ab") ∷ Resume 1 ∷ Bytes (codes "c") ∷ Finish ∷ [])
allowed path = subst (AllAllowed site path one opening) resumes (download_allowed site path 0 16 one (may path))

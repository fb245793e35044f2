-- The site of the table is honest: what it sends is the file whole, or nothing before a fault.
use Rattle.std.proofs.Common.{◌≡◌, ℕ, Bool, true, false, not, List, [], ◌∷◌, Some, None, codes, cond, refl, subst, sym, ap, ◌∙◌, arith}
use Rattle.httparse.specs.Grammar.{is_token_byte, print_response, trim_ows}
use Rattle.acng_base.specs.Heads.{Head}
use Rattle.acng_base.specs.Framings.{total_of}
use Rattle.acng_base.specs.Answers.{Reading, reading, answer_limit}
use Rattle.acng_base.specs.Answers.Outcome.{Whole, Open}
use Rattle.acng_site.specs.declared.ask.Ask.{Ask}
use Rattle.acng_site.specs.declared.site.Site.{Ghosts as SiteGhosts}
use Rattle.acng_site.specs.Places.{is_redirect}
use Rattle.acng_site.specs.Rules.{answers, first_rule, bytes_of, fault_of, AreRules}
use Rattle.acng_site.specs.Honest.{IsHonest, IsHonestAnswer, heard}
use Rattle.acng_honest_tests.specs.Files.{file, answer, rule, rules}

abbrev counted : Head
counted = record { status = 200; fields = (codes "Content-Length", codes "3") ∷ [] }

abbrev whole_reading : Reading
whole_reading = record { interim = []; head = Some counted; body = file; outcome = Whole }

abbrev no_reading : Reading
no_reading = record { interim = []; head = None; body = []; outcome = Open }

whole : reading answer true answer_limit ≡ whole_reading
unfolding is_token_byte print_response trim_ows
whole = refl

none : reading [] false answer_limit ≡ no_reading
none = refl

-- what is heard where the rule is for the ask, and where it isn't
abbrev read : Bool → Reading
read b = reading (bytes_of (cond b (Some rule) None)) (not (fault_of (cond b (Some rule) None))) answer_limit

counted_head : (b : Bool) (h : Head) → (read b).head ≡ Some h → counted ≡ h
counted_head true h is = let e : Some counted ≡ Some h = ap (λ r. r.head) (sym whole) ∙ is in cc
counted_head false h is = absurd (let e : None ≡ Some h = ap (λ r. r.head) (sym none) ∙ is in cc)

size : (h : Head) → counted ≡ h → total_of h ≡ Some 3
size h same = subst (λ h. total_of h ≡ Some 3) same refl

no_other : (h : Head) (s : ℕ) → counted ≡ h → h.status ≡ s → s ≡ 200
no_other h s same is = sym is ∙ sym (ap (λ h. h.status) same)

gives : (b : Bool) → IsHonestAnswer file (read b)
gives true =
    subst (λ r. IsHonestAnswer file r) (sym whole)
    (record {
      whole = λ h is ok. record { front = refl; all = λ w. refl };
      stated = λ h n is ok by. let e = size h (cc) in cc;
      part = λ h range is s by. absurd (let e : 206 ≡ 200 = no_other h 206 (cc) s in omega (arith, e));
    })
gives false =
    subst (λ r. IsHonestAnswer file r) (sym none)
    (record { whole = λ h is ok. cc; stated = λ h n is ok by. cc; part = λ h range is s by. cc })

module _ {S : Type 0} (s : SiteGhosts S) (table : AreRules s rules) (same : (n : ℕ) (p : List ℕ) → s.instance n p ≡ file) where
  hears : (n : ℕ) (a : Ask) → heard s n a ≡ read (answers rule n a)
  hears n a = ap (λ t. reading t (not (s.faulted n a)) answer_limit) (table.bytes n a)
      ∙ ap (λ f. reading (bytes_of (first_rule rules n a)) (not f) answer_limit) (table.faults n a)

  -- no redirect comes, and the file never changes
  pub honest : IsHonest s
  honest = record {
    leads = λ n a p h to serves is redirects at.
        let counts = counted_head (answers rule n a) h (ap (λ r. r.head) (sym (hears n a)) ∙ is) in
        let e : is_redirect counted.status ≡ true = subst (λ h. is_redirect h.status ≡ true) (sym counts) redirects in
        cc;
    gives = λ n a p serves.
        let this : IsHonestAnswer file (heard s n a) = subst (λ r. IsHonestAnswer file r) (sym (hears n a)) (gives (answers rule n a)) in
        subst (λ t. IsHonestAnswer t (heard s n a)) (sym (same n p)) this;
    strong = λ m n a p tag h serves tagged before gave is t. same n p ∙ sym (same m p);
  }

-- The fronts of a place, from the longest down: what was passed over is no entry.
use Rattle.std.proofs.Common.{◌≡◌, ℕ, ◌+◌, ◌<◌, ◌≤◌, Bool, true, false, ◌&&◌, List, Option, Some, None, length, take, get_or, is_some, nat_lt, bytes_eq, refl, sym, ap, ◌∙◌, arith}
use Rattle.std.specs.List.{list_any}
use Rattle.std.specs.Option.{option_and_then, MatchOption}
use Rattle.std.proofs.lemmas.List.{length-take-le}
use Rattle.std.proofs.lemmas.Grind.{common_steps}
use Rattle.acng_base.specs.Paths.{is_slash}
use Rattle.acng_conf.specs.Settings.{Mirrors}
use Rattle.acng_conf.specs.Readings.{owner}
use Rattle.acng_remap.specs.Decisions.{fits, group_of, if_counts, is_candidate, deciding, entries, HasNoSlash, IsLastSlash}
use Rattle.acng_remap.proofs.Fits.{fits_bytes, fits_same, front, not_longer, slash_after, whole, before}
use Rattle.acng_remap.proofs.Longest.{owned, best, nothing}

-- each entry that fits and merges is no longer than the next front, which ends where a segment ends; past the last front there is none
abbrev pub Reaches : List Mirrors → List ℕ → Option ℕ → Type 0
Reaches groups place None = (e : List ℕ) → is_candidate groups place e ≡ false
Reaches groups place (Some n) = (n ≤ length place) × (fits_bytes place (take n place) ≡ true) × ((e : List ℕ) → is_candidate groups place e ≡ true → length e ≤ n)

abbrev pub left : Option ℕ → ℕ
left None = 0
left (Some n) = n + 1

candidate_fits : (groups : List Mirrors) (place e : List ℕ) → is_candidate groups place e ≡ true → (fits_bytes place e ≡ true) × (is_some (group_of groups e) ≡ true)
candidate_fits groups place e h =
    let same = fits_same place e in
    let parts : (fits place e ≡ true) × (is_some (group_of groups e) ≡ true) = both (fits place e) (is_some (group_of groups e)) h in
    (sym same ∙ parts.0, parts.1)
  where
    both : (a b : Bool) → (a && b) ≡ true → (a ≡ true) × (b ≡ true)
    both true b h = (refl, h)
    both false b h = cc

pub begins : (groups : List Mirrors) (place : List ℕ) → Reaches groups place (Some (length place))
begins groups place = (omega arith, rw all (whole place), λ e h. not_longer place e (candidate_fits groups place e h).0)
  where
    all : take (length place) place ≡ place
    all = grind (arith, common_steps)

-- ---- the next front

-- a candidate of a front's length is the front, which was tried
shorter : (groups : List Mirrors) (place : List ℕ) (n : ℕ) → Reaches groups place (Some n) → group_of groups (take n place) ≡ None
    → (e : List ℕ) → is_candidate groups place e ≡ true → (length e < n) × (is_slash (get_or place (length e) 0) ≡ true)
shorter groups place n r none e h =
    let parts = candidate_fits groups place e h in
    let is : take (length e) place ≡ e = front place e parts.0 in
    let most : length e ≤ n = r.2 e h in
    let not_equal : length e ≡ n → ⊥ = λ same. tried (ap (group_of groups) (sym is ∙ ap (λ j. take j place) same) ∙ none) parts.1 in
    let lt : length e < n = below (length e) n most not_equal in
    (lt, slash_after place e parts.0 (omega arith))
  where
    tried : group_of groups e ≡ None → is_some (group_of groups e) ≡ true → ⊥
    tried t s = let same : is_some (group_of groups e) ≡ false = ap is_some t in cc

    below : (a b : ℕ) → a ≤ b → (a ≡ b → ⊥) → a < b
    below a b most differ = omega (arith, differ)

at_front : (place : List ℕ) (n k : ℕ) → k < n → get_or (take n place) k 0 ≡ get_or place k 0
at_front place n k lt = grind (arith, common_steps)

pub next_some : (groups : List Mirrors) (place : List ℕ) (n at : ℕ) → Reaches groups place (Some n) → group_of groups (take n place) ≡ None
    → IsLastSlash (take n place) at → Reaches groups place (Some at)
next_some groups place n at r none last =
    let len : length (take n place) ≡ n = length-take-le n place r.0 in
    let lt : at < n = let w = last.within in omega arith in
    let slash : is_slash (get_or place at 0) ≡ true = ap is_slash (sym (at_front place n at lt)) ∙ last.slash in
    (omega arith, before place at (omega arith) slash, λ e h. most e len (shorter groups place n r none e h))
  where
    most : (e : List ℕ) → length (take n place) ≡ n → (length e < n) × (is_slash (get_or place (length e) 0) ≡ true) → length e ≤ at
    most e len s = cases (nat_lt at (length e)) refl
      where
        cases : (t : Bool) → nat_lt at (length e) ≡ t → length e ≤ at
        cases false t = grind (arith, common_steps)
        cases true t =
            let past : at + 1 ≤ length e = grind (arith, common_steps) in
            let lt : length e < length (take n place) = omega arith in
            let no : is_slash (get_or (take n place) (length e) 0) ≡ false = last.last (length e) past lt in
            let same = ap is_slash (at_front place n (length e) s.0) in
            cc

pub next_none : (groups : List Mirrors) (place : List ℕ) (n : ℕ) → Reaches groups place (Some n) → group_of groups (take n place) ≡ None
    → HasNoSlash (take n place) → Reaches groups place None
next_none groups place n r none alone = λ e. cases e (is_candidate groups place e) refl
  where
    cases : (e : List ℕ) (t : Bool) → is_candidate groups place e ≡ t → t ≡ false
    cases e false h = refl
    cases e true h =
        let s = shorter groups place n r none e h in
        let len : length (take n place) ≡ n = length-take-le n place r.0 in
        let lt : length e < length (take n place) = omega arith in
        let no : is_slash (get_or (take n place) (length e) 0) ≡ false = alone (length e) lt in
        let same = ap is_slash (at_front place n (length e) s.0) in
        cc

pub next : (groups : List Mirrors) (place : List ℕ) (n : ℕ) → Reaches groups place (Some n) → group_of groups (take n place) ≡ None
    → (o : Option ℕ) → MatchOption o (HasNoSlash (take n place)) (λ at. IsLastSlash (take n place) at) → Reaches groups place o
next groups place n r none None alone = next_none groups place n r none alone
next groups place n r none (Some at) last = next_some groups place n at r none last

-- ---- the end

an_owner : (groups : List Mirrors) (e : List ℕ) (k : ℕ) → group_of groups e ≡ Some k → list_any (λ x. bytes_eq x e) (entries groups) ≡ true
unfolding group_of
an_owner groups e k h = cases (owner e groups) refl h
  where
    cases : (o : Option ℕ) → owner e groups ≡ o → option_and_then (λ j. if_counts e groups j) o ≡ Some k → list_any (λ x. bytes_eq x e) (entries groups) ≡ true
    cases None is h = cc
    cases (Some j) is h = owned e groups j is

pub hit : (groups : List Mirrors) (place : List ℕ) (n k : ℕ) → Reaches groups place (Some n) → group_of groups (take n place) ≡ Some k
    → deciding groups place ≡ Some (take n place)
unfolding deciding
hit groups place n k r h =
    let e = take n place in
    let fits_it : fits place e ≡ true = fits_same place e ∙ r.1 in
    let merges : is_some (group_of groups e) ≡ true = ap is_some h in
    let he : is_candidate groups place e ≡ true = rw (fits_it, merges) refl in
    best (is_candidate groups place) e (entries groups) he most (an_owner groups e k h)
  where
    most : (x : List ℕ) → is_candidate groups place x ≡ true → (length x ≤ length (take n place)) × (length x ≡ length (take n place) → x ≡ take n place)
    most x hx =
        let len : length (take n place) ≡ n = length-take-le n place r.0 in
        let is : take (length x) place ≡ x = front place x (candidate_fits groups place x hx).0 in
        let few : length x ≤ n = r.2 x hx in
        (omega arith, λ same. sym is ∙ ap (λ j. take j place) (same ∙ len))

pub done : (groups : List Mirrors) (place : List ℕ) → Reaches groups place None → deciding groups place ≡ None
unfolding deciding
done groups place none = nothing (is_candidate groups place) (entries groups) none

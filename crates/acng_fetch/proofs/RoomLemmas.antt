-- Room for the body that a head begins, or that it goes on with.
use Rattle.std.proofs.Common.{◌≡◌, ◌≤◌, ℕ, ◌+◌, ◌-◌, true, ◌&&◌, ◌==◌, cond, Option, Some, None, IfSome, option_map}
use Rattle.std.proofs.Common.{refl, ap, sym, subst, ◌∙◌, arith}
use Rattle.std.proofs.lemmas.Bool.{eqb-true}
use Rattle.std.specs.Option.{option_or}
use Rattle.acng_base.specs.Answers.{answer_limit}
use Rattle.acng_answer.specs.Blocks.{IsBounded, IsRange}
use Rattle.acng_answer.specs.Reader.{due_told}
use Rattle.acng_answer.specs.declared.step.AnswerHead.{AnswerHead}
use Rattle.acng_grow.specs.Download.{is_rest}
use Rattle.acng_grow.specs.Keeps.{most_bytes}
use Rattle.acng_fetch.specs.Decisions.{facts_told}
use Rattle.acng_fetch.specs.Rooms.{Room}
use Rattle.acng_fetch.proofs.Tests.{both}

abbrev due_by : ℕ → Option (ℕ × ℕ × ℕ) → Option ℕ → Option ℕ
due_by status range length = option_or (cond (status == 206) (option_map (λ (r : ℕ × ℕ × ℕ). r.1 + 1 - r.0) range) None) length

-- a 200 has room for what its length counts
counted : (length : Option ℕ) (at : ℕ) → IfSome length (λ n. n ≤ most_bytes) → Room length length 0 at answer_limit
counted None at b = omega arith
counted (Some n) at b = record { rest = n; is = refl; fills = omega arith; small = b }

pub begins_room : (h : AnswerHead) (due : Option ℕ) (at limit : ℕ) → h.status ≡ 200 → due ≡ due_told h → IsBounded h
    → limit ≡ answer_limit → Room (facts_told h).total due 0 at limit
begins_room h due at limit ok is b l =
    let known : h.length ≡ (facts_told h).total = ap (λ s. cond (s == 200) h.length None) (sym ok) in
    let counts : h.length ≡ due = ap (λ s. due_by s h.range h.length) (sym ok) ∙ sym is in
    subst (λ t. Room t due 0 at limit) known
    (subst (λ d. Room h.length d 0 at limit) counts
    (subst (λ k. Room h.length h.length 0 at k) (sym l) (counted h.length at b.length)))

-- a 206 for the rest fills the total
fills : (held : ℕ) (total : Option ℕ) (range : Option (ℕ × ℕ × ℕ)) (length : Option ℕ) (at limit : ℕ) → is_rest held total range ≡ true
    → IfSome range IsRange → Room total (due_by 206 range length) held at limit
fills held None range length at limit r b = absurd cc
fills held (Some total) None length at limit r b = absurd cc
fills held (Some total) (Some x) length at limit r b =
    let u = both ((x.0 == held) && (x.1 + 1 == total)) (x.2 == total) r in
    let v = both (x.0 == held) (x.1 + 1 == total) u.0 in
    let first = eqb-true x.0 held v.0 in
    let last = eqb-true (x.1 + 1) total v.1 in
    let all = eqb-true x.2 total u.1 in
    record {
      rest = x.1 + 1 - x.0;
      is = refl;
      fills = omega (arith, first, last, b.0);
      small = omega (arith, all, b.2);
    }

pub goes_room : (h : AnswerHead) (held : ℕ) (total due : Option ℕ) (at limit : ℕ) → h.status ≡ 206 → due ≡ due_told h → IsBounded h
    → is_rest held total h.range ≡ true → Room total due held at limit
goes_room h held total due at limit status is b r =
    let counts : due_by 206 h.range h.length ≡ due = ap (λ s. due_by s h.range h.length) (sym status) ∙ sym is in
    subst (λ d. Room total d held at limit) counts (fills held total h.range h.length at limit r b.range)

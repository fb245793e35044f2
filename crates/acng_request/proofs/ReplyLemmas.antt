-- The reasons of the proxy's own statuses, and writes one after another.
use Rattle.std.proofs.Common.{◌≡◌, ℕ, ◌<◌, ◌≤◌, ◌⊎◌, inl, inr, Bool, true, false, List, [], ◌∷◌, ◌++◌, length, append_assoc, arith, refl, subst, eqb-true}
use Rattle.std.specs.Prelude.{◌||◌, ◌&&◌, ◌==◌, nat_le, nat_lt, unwrap_or}
use Rattle.std.proofs.lemmas.Bool.{and_parts}
use Rattle.std.proofs.lemmas.Bool.Decides.{nat_tests}
use Rattle.std.specs.List.{list_any, list_all}
use Rattle.http.specs.StatusCode.{reason_phrase}
use Rattle.acng_request.specs.ReplyHeads.{is_reply_status, reply_statuses}

-- a status of three digits, whose reason has at most 31 bytes
pub record IsShort (status reason : ℕ) : Type 0 where
  pub low : 100 ≤ status
  pub high : status < 1000
  pub brief : reason ≤ 31

-- the same as a test
abbrev tests : ℕ → ℕ → Bool
tests status reason = nat_le 100 status && (nat_lt status 1000 && nat_le reason 31)

tested : (status reason : ℕ) → tests status reason ≡ true → IsShort status reason
tested status reason h = record {
  low = Prim.grind (arith, nat_tests, h);
  high = Prim.grind (arith, nat_tests, h);
  brief = Prim.grind (arith, nat_tests, h);
}

either : (a b : Bool) → (a || b) ≡ true → (a ≡ true) ⊎ (b ≡ true)
either true b found = inl refl
either false b found = inr found

-- a number of a list passes a test that each number of the list passes
of_member : (p : ℕ → Bool) (n : ℕ) (xs : List ℕ) → list_all p xs ≡ true → list_any (λ s. s == n) xs ≡ true → p n ≡ true
of_member p n [] all found = absurd (cc)
of_member p n (x ∷ xs) all found =
    let parts = and_parts (p x) (list_all p xs) all in
    elim (either (x == n) (list_any (λ s. s == n) xs) found) [
      | inl here ↦ subst (λ m. p m ≡ true) (eqb-true x n here) parts.0
      | inr later ↦ of_member p n xs parts.1 later
    ]

abbrev pub reason_length : ℕ → ℕ
reason_length n = length (unwrap_or (reason_phrase n) [])

-- the proxy's own statuses, one by one
pub are_short : (n : ℕ) → is_reply_status n ≡ true → IsShort n (reason_length n)
are_short n found = tested n (reason_length n) (of_member (λ m. tests m (reason_length m)) n reply_statuses refl found)

-- nine lines and an end, written one after another
pub in_a_row : (a b c d e f g h i end : List ℕ) → (((((((((a ++ b) ++ c) ++ d) ++ e) ++ f) ++ g) ++ h) ++ i) ++ end) ≡ (a ++ (b ++ (c ++ (d ++ (e ++ (f ++ (g ++ (h ++ (i ++ end)))))))))
in_a_row a b c d e f g h i end = simp append_assoc

-- A method that is taken is a short token.
use Rattle.std.proofs.Common.{◌≡◌, ℕ, ◌≤◌, ◌⊎◌, inl, inr, Bool, true, false, List, length, codes, refl, sym, arith, bytes_eq, subst}
use Rattle.std.specs.Prelude.{◌||◌, Result, Err, IsOk}
use Rattle.std.proofs.lemmas.List.Sums.{AllPass-from_list_all}
use Rattle.std.proofs.lemmas.Bool.{false≢true}
use Rattle.std.proofs.lemmas.Slice.Eq.{bytes_eq-Decides}
use Rattle.http_header.specs.Token.{IsToken, is_token_byte}
use Rattle.acng_request.specs.Nexts.{is_served}

either : (a b : Bool) → (a || b) ≡ true → (a ≡ true) ⊎ (b ≡ true)
either true b found = inl refl
either false b found = inr found

abbrev IsShortToken : List ℕ → Type 0
IsShortToken text = IsToken text × (length text ≤ 15)

get : IsShortToken (codes "GET")
unfolding is_token_byte
get = ((omega arith, AllPass-from_list_all is_token_byte (codes "GET") refl), omega arith)

head : IsShortToken (codes "HEAD")
unfolding is_token_byte
head = ((omega arith, AllPass-from_list_all is_token_byte (codes "HEAD") refl), omega arith)

connect : IsShortToken (codes "CONNECT")
unfolding is_token_byte
connect = ((omega arith, AllPass-from_list_all is_token_byte (codes "CONNECT") refl), omega arith)

as_word : (text word : List ℕ) → IsShortToken word → bytes_eq text word ≡ true → IsShortToken text
as_word text word k h = subst IsShortToken (sym ((bytes_eq-Decides text word).0 h)) k

served : (text : List ℕ) → is_served text ≡ true → IsShortToken text
served text h =
    elim (either (bytes_eq text (codes "GET") || bytes_eq text (codes "HEAD")) (bytes_eq text (codes "CONNECT")) h) [
      | inl two ↦ elim (either (bytes_eq text (codes "GET")) (bytes_eq text (codes "HEAD")) two) [
        | inl g ↦ as_word text (codes "GET") get g
        | inr g ↦ as_word text (codes "HEAD") head g
      ]
      | inr c ↦ as_word text (codes "CONNECT") connect c
    ]

-- what `http` doesn't take isn't served
pub unserved : {T E : Type 0} (text : List ℕ) (r : Result T E) (e : E) → r ≡ Err e → (IsToken text → length text ≤ 15 → IsOk r) → false ≡ is_served text
unserved text r e is taken = cases (is_served text) refl
  where
    cases : (b : Bool) → is_served text ≡ b → false ≡ b
    cases false t = refl
    cases true t = let k = served text t in absurd (false≢true (subst IsOk is (taken k.0 k.1)))

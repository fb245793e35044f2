-- A text that is read from its front in pieces, and hashed as it comes.
use Rattle.std.proofs.Common.{◌≡◌, ℕ, ◌+◌, ◌≤◌, ◌^◌, Bool, true, List, [], ◌++◌, length, take, drop, refl, sym, ap, ◌∙◌, arith}
use Rattle.std.proofs.Common.{length-append, length-take}
use Rattle.std.proofs.Math.Seq.{take-add}
use Rattle.std.proofs.lemmas.Grind.{common_steps}
use Rattle.sha2.specs.Sha256.{sha256}
use Rattle.acng_base.specs.declared.hash.Hash.{Hash}
use Rattle.acng_base.specs.Hashes.{HasTaken}
use Rattle.acng_base.specs.declared.hash.HashSoFar.{HashSoFar}
use Rattle.acng_keeper.specs.Handles.{Handle, Appended}
use Rattle.acng_import.specs.Fills.{IsFilled}

-- this text was read and hashed so far, a front of the file where that is told
pub record IsRead (told : Bool) (file : List ℕ) (hash : HashSoFar) (at : ℕ) (text : List ℕ) : Type 0 where
  pub taken : HasTaken hash text
  pub long : length text ≡ at
  pub front : told ≡ true → text ≡ take at file

pub record IsHashing (told : Bool) (file : List ℕ) (hash : HashSoFar) (at : ℕ) : Type 0 where
  pub text : List ℕ
  pub read : IsRead told file hash at text

-- and it is what the body has
pub record IsFilling (told tells : Bool) (file : List ℕ) (hash : HashSoFar) (at : ℕ) (h : Handle) : Type 0 where
  pub text : List ℕ
  pub read : IsRead told file hash at text
  pub size : h.size ≡ at
  pub bytes : tells ≡ true → h.bytes ≡ text

piece_size : (text piece : List ℕ) (n at : ℕ) → length text ≡ at → n ≤ length piece → length (text ++ take n piece) ≡ at + n
piece_size text piece n at long few = let e = length-append text (take n piece) in let m = length-take n piece in omega arith

-- one more piece was read
pub read_more : (told : Bool) (file : List ℕ) (old new : HashSoFar) (at n : ℕ) (text piece : List ℕ) → IsRead told file old at text
    → n ≤ length piece → (told ≡ true → take n piece ≡ take n (drop at file)) → HasTaken new (text ++ take n piece)
    → IsRead told file new (at + n) (text ++ take n piece)
read_more told file old new at n text piece r few is taken = record {
  taken = taken;
  long = piece_size text piece n at r.long few;
  front = λ t. ap (λ xs. xs ++ take n piece) (r.front t) ∙ ap (λ xs. take at file ++ xs) (is t) ∙ sym (take-add at n file);
}

-- nothing is read yet
pub read_none : (told : Bool) (file : List ℕ) (hash : HashSoFar) → HasTaken hash [] → IsRead told file hash 0 []
read_none told file hash taken = record { taken = taken; long = refl; front = λ t. refl }

past : (file : List ℕ) (at : ℕ) → length file ≤ at → take at file ≡ file
past file at le = grind (arith, common_steps)

-- all of it was read
pub read_whole : (told : Bool) (file : List ℕ) (hash : HashSoFar) (at : ℕ) (text : List ℕ) → IsRead told file hash at text
    → (told ≡ true → length file ≤ at) → told ≡ true → text ≡ file
read_whole told file hash at text r all t = r.front t ∙ past file at (all t)

-- the piece was appended too
pub filling_more : (told tells : Bool) (file : List ℕ) (old new : HashSoFar) (at n : ℕ) (piece : List ℕ) (h g : Handle)
    → IsFilling told tells file old at h → n ≤ length piece → (told ≡ true → take n piece ≡ take n (drop at file))
    → ((taken : List ℕ) → HasTaken old taken → HasTaken new (taken ++ take n piece)) → Appended tells (take n piece) h g
    → IsFilling told tells file new (at + n) g
filling_more told tells file old new at n piece h g f few is more a = record {
  text = f.text ++ take n piece;
  read = read_more told file old new at n f.text piece f.read few is (more f.text f.read.taken);
  size = let s = f.size in let m = length-take n piece in let e = a.size in omega arith;
  bytes = λ t. a.bytes t ∙ ap (λ xs. xs ++ take n piece) (f.bytes t);
}

-- the body is all of the text
pub filled : (told tells : Bool) (file : List ℕ) (hash : HashSoFar) (at : ℕ) (h : Handle) (sum : Hash)
    → IsFilling told tells file hash at h → at ≤ 2 ^ 41 → (told ≡ true → length file ≤ at)
    → ((taken : List ℕ) → HasTaken hash taken → sum.0 ≡ sha256 taken) → IsFilled told tells file sum h
filled told tells file hash at h sum f small all is = record {
  text = f.text;
  copy = record { size = f.size ∙ sym f.read.long; hashed = sym (is f.text f.read.taken); bytes = f.bytes };
  small = let l = f.read.long in omega arith;
  whole = read_whole told file hash at f.text f.read all;
}

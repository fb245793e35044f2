-- The texts inside indexes: sizes, hashes and paths.
use Rattle.std.specs.Prelude.{ℕ, Bool, List, Option, option_map, is_none, Result, Ok, Err, Some, None}
use Rattle.std.specs.Result.{result_ok}
use Rattle.hex.specs.Hex.{decode_sized}
use Rattle.acng_base.specs.Paths.{path_refusal}
use Rattle.acng_base.specs.declared.hash.Hash.{Hash}

abbrev pub hash_by : List ℕ → Hash
hash_by bytes = record { 0 = bytes }

-- the 32 bytes that 64 hexadecimal digits write, in either case
abbrev pub hash_of : List ℕ → Option Hash
hash_of text = option_map hash_by (result_ok (decode_sized text 32))

abbrev pub is_path : List ℕ → Bool
is_path text = is_none (path_refusal text)

-- ---- steps, of which the first refusal answers

abbrev pub and_then : {S T E : Type 0} → Result S E → (S → Result T E) → Result T E
and_then (Ok s) next = next s
and_then (Err e) next = Err e

abbrev pub or_refuse : {A E : Type 0} → E → Option A → Result A E
or_refuse e None = Err e
or_refuse e (Some x) = Ok x

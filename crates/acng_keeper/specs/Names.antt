-- The names of a cache folder's files.
use Rattle.std.specs.Prelude.{ℕ, List, ◌++◌, codes}
use Rattle.std.specs.Int.{w64, to_be_bytes}
use Rattle.hex.specs.Hex.{encode_lower}
use Rattle.acng_keeper.specs.declared.names.Kind.{Kind}
use Rattle.acng_keeper.specs.declared.names.Kind.TheVariants.{Body, Head}

abbrev pub prefix_of : Kind → List ℕ
prefix_of Body = codes "b-"
prefix_of Head = codes "h-"

-- an id in 16 lower-case hexadecimal digits
abbrev pub digits_of : ℕ → List ℕ
digits_of id = encode_lower (to_be_bytes w64 id)

-- the kind and the id
abbrev pub name_of : Kind → ℕ → List ℕ
name_of kind id = prefix_of kind ++ digits_of id

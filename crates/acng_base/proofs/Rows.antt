-- Lines, cuts, names and numbers, held against literal texts. Expected values are by hand.
use Rattle.std.proofs.Common.{◌≡◌, ℕ, List, [], ◌∷◌, ◌++◌, Some, None, codes, refl}
use Rattle.acng_base.specs.Lines.{head_block_len, section_len}
use Rattle.acng_base.specs.Cuts.{pieces, trim, without_cr, words}
use Rattle.acng_base.specs.Names.{base_name, folder_of, from_last}
use Rattle.acng_base.specs.Numbers.{number_of}
use Rattle.acng_base.specs.Fields.{length_of}

abbrev end : List ℕ
end = 13 ∷ 10 ∷ []

-- a head ends with its first empty line; what follows isn't counted
head : head_block_len (codes "ab" ++ end ++ codes "c" ++ end ++ end ++ codes "xyz") ≡ Some 9
head = refl

-- empty lines before the first line belong to the head, and LF alone ends a line
head_after_blanks : head_block_len (10 ∷ 13 ∷ 10 ∷ 97 ∷ 10 ∷ 10 ∷ []) ≡ Some 6
head_after_blanks = refl

-- a carriage return that no line feed follows is a byte of its line
lone_return : head_block_len (97 ∷ 10 ∷ 13 ∷ 97 ∷ 10 ∷ 10 ∷ []) ≡ Some 6
lone_return = refl

unended_head : head_block_len (codes "ab" ++ end ++ 13 ∷ []) ≡ None
unended_head = refl

only_blanks : head_block_len (end ++ end) ≡ None
only_blanks = refl

-- a section may be empty; it ends with its first empty line
empty_section : section_len (end ++ codes "x") ≡ Some 2
empty_section = refl

section : section_len (codes "a: b" ++ 10 ∷ 10 ∷ []) ≡ Some 6
section = refl

unended_section : section_len (codes "a: b" ++ end) ≡ None
unended_section = refl

cut : pieces (codes "a" ++ 10 ∷ 10 ∷ codes "bc") ≡ codes "a" ∷ [] ∷ codes "bc" ∷ []
cut = refl

last_is_empty : pieces (codes "a" ++ 10 ∷ []) ≡ codes "a" ∷ [] ∷ []
last_is_empty = refl

trimmed : trim (32 ∷ 9 ∷ codes "a b" ++ 9 ∷ []) ≡ codes "a b"
trimmed = refl

one_return : without_cr (97 ∷ 13 ∷ 13 ∷ []) ≡ 97 ∷ 13 ∷ []
one_return = refl

some_words : words (codes " ab  c ") ≡ codes "ab" ∷ codes "c" ∷ []
some_words = refl

last : from_last 0 (codes "a/b.deb") ≡ codes "b.deb"
last = refl

before_last : from_last 1 (codes "a/b.deb") ≡ codes "a"
before_last = refl

no_third : from_last 2 (codes "a/b.deb") ≡ []
no_third = refl

folder : folder_of (codes "dists/s/InRelease") ≡ codes "dists/s"
folder = refl

-- one ending is dropped, once
packed : base_name (codes "main/Packages.gz.xz") ≡ codes "Packages.gz"
packed = refl

leading_zeros : number_of 4 (codes "0042") ≡ Some 42
leading_zeros = refl

too_many_digits : number_of 4 (codes "00042") ≡ None
too_many_digits = refl

no_digit : number_of 4 [] ≡ None
no_digit = refl

-- 2^41, and one more
longest : length_of (codes "2199023255552") ≡ Some 2199023255552
longest = refl

too_long : length_of (codes "2199023255553") ≡ None
too_long = refl

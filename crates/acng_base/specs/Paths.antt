-- Which texts are paths of the cache: this project's own rule, so that a path is one name of one file.
use Rattle.std.specs.Prelude.{ℕ, ◌+◌, Bool, not, ◌&&◌, ◌||◌, ◌==◌, nat_le, nat_lt, List, [], ◌∷◌, length, cond, codes, bytes_eq, Option, Some, None, option_map}
use Rattle.std.specs.List.{slice_split, position}
use Rattle.std.specs.Option.{option_or}
use Rattle.acng_base.specs.Cuts.{slash}
use Rattle.acng_base.specs.declared.path.PathFault.{PathFault}
use Rattle.acng_base.specs.declared.path.PathFault.TheVariants.{NoMemory, Empty, TooLong, BadByte, BadSegment}

-- a printed ASCII character other than the blank
abbrev pub is_path_byte : ℕ → Bool
is_path_byte b = nat_le 0x21 b && nat_le b 0x7E

abbrev pub is_slash : ℕ → Bool
is_slash b = b == slash

-- the parts of a path between its slashes
abbrev pub segments : List ℕ → List (List ℕ)
segments text = slice_split is_slash text

-- a segment that names no file: nothing, this folder, or the one above
abbrev pub is_bad_segment : List ℕ → Bool
is_bad_segment segment = bytes_eq segment [] || bytes_eq segment (codes ".") || bytes_eq segment (codes "..")

-- the place of the first bad segment, where the first of them begins at the place `at`
abbrev pub first_bad : ℕ → List (List ℕ) → Option ℕ
first_bad at [] = None
first_bad at (s ∷ ss) = cond (is_bad_segment s) (Some at) (first_bad (at + length s + 1) ss)

abbrev when : Bool → PathFault → Option PathFault
when holds fault = cond holds (Some fault) None

-- why a text is no path, in the order of the tests; None where it is one
abbrev pub path_refusal : List ℕ → Option PathFault
path_refusal text =
    option_or (when (length text == 0) Empty)
    (option_or (when (nat_lt 1024 (length text)) (TooLong (length text)))
    (option_or (option_map BadByte (position (λ b. not (is_path_byte b)) text))
    (option_map BadSegment (first_bad 0 (segments text)))))

-- the refusal that a call's fault names: want of memory is none
abbrev pub refusal_of : PathFault → Option PathFault
refusal_of NoMemory = None
refusal_of Empty = Some Empty
refusal_of (TooLong len) = Some (TooLong len)
refusal_of (BadByte at) = Some (BadByte at)
refusal_of (BadSegment at) = Some (BadSegment at)

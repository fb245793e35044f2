-- Records of heads, held against literal ones.
use Rattle.std.proofs.Common.{◌≡◌, ℕ, List, [], ◌∷◌, ◌++◌, Option, Some, None, codes, refl}
use Rattle.std.specs.Fmt.{digits}
use Rattle.hex.specs.Hex.{encode_with}
use Rattle.acng_base.specs.declared.clock.Moment.{Moment}
use Rattle.acng_head.specs.declared.head.Head.{Head}
use Rattle.acng_head.specs.declared.head.Label.{Label}
use Rattle.acng_head.specs.declared.head.Label.TheVariants.{Fetched, Imported}
use Rattle.acng_head.specs.Records.{record_text, text_of, values_of}

abbrev second : ℕ → Moment
second n = record { 0 = n }

abbrev found : Label → Option (List ℕ) → Option Moment → Option Moment → Head
found label tag modified mark = record {
  path = codes "h/a.deb";
  label = label;
  size = 3;
  tag = tag;
  modified = modified;
  checked = second 1000;
  mark = mark;
}

-- no line that may be missing
shortest : record_text (found
    (Fetched 0 7) None None None) ≡ codes "acng-head 1\npath h/a.deb\norigin fetched 0 7\nsize 3\nchecked 1000\nend\n"
unfolding text_of values_of digits
shortest = refl

-- each line; a mark at the first second isn't a missing one
fullest : record_text (found (Imported (record { 0 = 10 ∷ 255 ∷ [] }) 3) (Some (codes "\"x\"")) (Some (second 5)) (Some (second 0)))
    ≡ codes "acng-head 1\npath h/a.deb\norigin imported 0aff\nsize 3\ntag \"x\"\nmodified 5\nchecked 1000\nmark 0\nend\n"
unfolding text_of values_of digits encode_with
fullest = refl

-- Literal values of the table of classes, worked by hand from its lines.
use Rattle.std.proofs.Common.{◌≡◌, ℕ, List, Option, None, codes, refl}
use Rattle.acng_class.specs.Classes.{class_of}
use Rattle.acng_class.specs.declared.class.Class.{Class}
use Rattle.acng_class.specs.declared.class.Class.TheVariants.{Solid, Volatile, Forbidden}
use Rattle.acng_class.proofs.OnLiterals.{class_on_literals}

abbrev no_pattern : Option (List ℕ)
no_pattern = None

abbrev class : List ℕ → Class
class path = class_of no_pattern no_pattern path

-- a hash in either case
hash_in_capitals : class (codes "h/by-hash/SHA256/aF09") ≡ Solid
unfolding class_on_literals
hash_in_capitals = refl

-- a hash that no index names so
hash_of_no_name : class (codes "h/by-hash/sha256/00") ≡ Forbidden
unfolding class_on_literals
hash_of_no_name = refl

-- the line of hashes stands before the installer's
hash_of_an_installer : class (codes "h/installer-amd64/by-hash/SHA1/0") ≡ Solid
unfolding class_on_literals
hash_of_an_installer = refl

-- a difference named as an index
difference : class (codes "h/Packages.diff/Packages.gz") ≡ Solid
unfolding class_on_literals
difference = refl

-- the list of differences, packed
list_of_differences : class (codes "h/Packages.diff/Index.gz") ≡ Volatile
unfolding class_on_literals
list_of_differences = refl

-- one ending alone goes
packed_once : class (codes "h/Packages.gz.xz") ≡ Solid
unfolding class_on_literals
packed_once = refl

-- an index in any packing
packed_index : class (codes "h/ls-lR.zst") ≡ Volatile
unfolding class_on_literals
packed_index = refl

-- a front goes before an ending
front_and_ending : class (codes "h/Contents-all.deb") ≡ Volatile
unfolding class_on_literals
front_and_ending = refl

-- a front within a name is none
front_within : class (codes "h/xicons-64") ≡ Forbidden
unfolding class_on_literals
front_within = refl

-- an installer's folder above
installer_above : class (codes "installer-/a/b.deb") ≡ Volatile
unfolding class_on_literals
installer_above = refl

-- an ending may be the whole name
ending_alone : class (codes "h/.dsc") ≡ Solid
unfolding class_on_literals
ending_alone = refl

-- endings are in small letters
ending_in_capitals : class (codes "h/a.DEB") ≡ Forbidden
unfolding class_on_literals
ending_in_capitals = refl

-- what no line names
unnamed : class (codes "h/readme") ≡ Forbidden
unfolding class_on_literals
unnamed = refl

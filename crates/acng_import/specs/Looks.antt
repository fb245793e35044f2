-- Which paths want a file, by what a desk holds.
use Rattle.std.specs.Prelude.{◌≡◌, ℕ, Bool, true, false, not, ◌&&◌, List, bytes_eq}
use Rattle.sha2.specs.Sha256.{sha256}
use Rattle.acng_conf.specs.Settings.{Rules}
use Rattle.acng_class.specs.Classes.{class_of}
use Rattle.acng_class.specs.declared.class.Class.{Class}
use Rattle.acng_class.specs.declared.class.Class.TheVariants.{Solid, Volatile, Forbidden}
use Rattle.acng_keeper.specs.Kept.{Store, stored}
use Rattle.acng_rows.specs.Rows.{whole_at}
use Rattle.acng_desk.specs.House.{Plain, House}
use Rattle.acng_reach.specs.Desks.{has_whole, text_of}

-- what a desk knows, and the sealed bodies of its keeper
pub record Shelf : Type 0 where
  pub plain : Plain
  pub bodies : Store

abbrev pub shelf_of : House → Shelf
shelf_of h = record { plain = h.plain; bodies = h.kept.bodies }

-- the path holds a whole body with this hash
abbrev pub has_hash : Shelf → List ℕ → List ℕ → Bool
has_hash s hash path = has_whole s.plain.rows path && bytes_eq (sha256 (text_of s.bodies (whole_at s.plain.rows path))) hash

abbrev pub is_forbidden : Class → Bool
is_forbidden Solid = false
is_forbidden Volatile = false
is_forbidden Forbidden = true

abbrev pub is_closed : Rules → List ℕ → Bool
is_closed rules path = is_forbidden (class_of rules.pfile_pattern rules.vfile_pattern path)

-- the path may be served, and holds nothing or another file
abbrev pub is_wanted : Shelf → List ℕ → List ℕ → Bool
is_wanted s hash path = not (is_closed s.plain.rules path) && not (has_hash s hash path)

-- the desk was read and not changed
pub record HasRead (tells : Bool) (old new : House) : Type 0 where
  pub plain : new.plain ≡ old.plain
  pub stored_is : tells ≡ true → stored new.kept ≡ stored old.kept
  pub loose : tells ≡ true → new.kept.loose ≡ old.kept.loose

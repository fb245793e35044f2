-- What a row unfolds, to tell a path's class from its bytes.
use Rattle.std.specs.Bool.{⊤}
use Rattle.acng_class.specs.Classes.{class_of, is_by_hash, is_difference, is_index, has_solid_ending, is_found}

unfoldable pub class_on_literals : ⊤
unfolding class_of is_by_hash is_difference is_index has_solid_ending is_found
class_on_literals = tt

-- The patterns that name further files, by their texts.
use Rattle.std.specs.Prelude.{ℕ, Bool, false, not, List, Option, Some, None, cond, is_some, chars}
use Rattle.std.specs.Option.{option_map_or, option_or}
use Rattle.regex_syntax.specs.Grammar.{read}
use Rattle.regex.specs.Patterns.{default_config, find_str}
use Rattle.acng_conf.specs.Readings.{is_pattern}
use Rattle.acng_class.specs.declared.fault.ClassFault.{ClassFault}
use Rattle.acng_class.specs.declared.fault.ClassFault.TheVariants.{BadSolid, BadVolatile}

-- whether the pattern that the first text writes is found in the second
abbrev pub found_by : List ℕ → List ℕ → Bool
found_by source text = option_map_or (λ x. is_some (find_str x.0.value text 0)) (read default_config (chars source)) false

-- the texts of the two patterns; None where there is none
pub record Patterns : Type 0 where
  pub solid : Option (List ℕ)
  pub volatile : Option (List ℕ)

abbrev refused : Option (List ℕ) → ClassFault → Option ClassFault
refused pattern fault = cond (option_map_or (λ source. not (is_pattern source)) pattern false) (Some fault) None

-- which of the two texts is no pattern, the one of solid files first; None where neither is refused
abbrev pub pattern_refusal : Option (List ℕ) → Option (List ℕ) → Option ClassFault
pattern_refusal solid volatile = option_or (refused solid BadSolid) (refused volatile BadVolatile)

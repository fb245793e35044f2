-- What a taker of stanzas makes of those that may follow.
use Rattle.std.specs.Prelude.{Bool, List, ◌++◌, cond, Option, Some, None, Result, Ok, Err}
use Rattle.std.specs.Option.{option_to_list}
use Rattle.acng_stanza.specs.Stanzas.{Field}
use Rattle.acng_index.specs.Texts.{and_then}
use Rattle.acng_index.specs.Releases.{Listed, only}
use Rattle.acng_index.specs.Packages.{names_of}
use Rattle.acng_index.specs.declared.name.Named.{Named}
use Rattle.acng_index.specs.declared.fault.IndexFault.{IndexFault}
use Rattle.acng_index.specs.declared.fault.IndexFault.TheVariants.{NotOneStanza}

-- what stanzas come to, by the kind of their taker
pub data Made : Type 0 where
  Names : (names : Result (List Named) IndexFault) → Made
  Release : (release : Result Listed IndexFault) → Made

-- the names so far, or the first refusal, with those of the stanzas that follow
abbrev pub more_names : Result (List Named) IndexFault → List (List Field) → Result (List Named) IndexFault
more_names acc ss = and_then acc (λ ns. and_then (names_of ss) (λ ms. Ok (ns ++ ms)))

abbrev pub so_far : List Named → Option IndexFault → Result (List Named) IndexFault
so_far ns None = Ok ns
so_far ns (Some f) = Err f

-- the first stanza, and whether there were several
abbrev pub one_of : Option (List Field) → Bool → List (List Field) → Result Listed IndexFault
one_of first several ss = cond several (Err NotOneStanza) (only (option_to_list first ++ ss))

-- What takers of stanzas make of one more stanza.
use Rattle.std.proofs.Common.{◌≡◌, List, [], ◌∷◌, ◌++◌, Result, Ok, Err, Some, None, refl, ap, sym, ◌∙◌, append_assoc}
use Rattle.std.specs.Option.{option_map_or}
use Rattle.std.proofs.lemmas.List.{append-nil}
use Rattle.acng_stanza.specs.declared.fault.StanzaFault.{StanzaFault}
use Rattle.acng_stanza.specs.Stanzas.{Field, Reading}
use Rattle.acng_index.specs.Texts.{and_then}
use Rattle.acng_index.specs.Packages.{named_of, names_of, packages_by}
use Rattle.acng_index.specs.Releases.{Listed, only, release_by}
use Rattle.acng_index.specs.Makes.{more_names}
use Rattle.acng_index.specs.declared.name.Named.{Named}
use Rattle.acng_index.specs.declared.fault.IndexFault.{IndexFault}
use Rattle.acng_index.specs.declared.fault.IndexFault.TheVariants.{Stanza}

-- ---- names

abbrev pub add_to : Result (List Named) IndexFault → Result Named IndexFault → Result (List Named) IndexFault
add_to acc named = and_then acc (λ ns. and_then named (λ n. Ok (ns ++ n ∷ [])))

by_parts : (acc : Result (List Named) IndexFault) (named : Result Named IndexFault) (more : Result (List Named) IndexFault)
    → and_then (add_to acc named) (λ ns. and_then more (λ ms. Ok (ns ++ ms)))
    ≡ and_then acc (λ ns. and_then (and_then named (λ n. and_then more (λ ms. Ok (n ∷ ms)))) (λ ms. Ok (ns ++ ms)))
by_parts (Err e) named more = refl
by_parts (Ok ns) (Err e) more = refl
by_parts (Ok ns) (Ok n) (Err e) = refl
by_parts (Ok ns) (Ok n) (Ok ms) = ap (λ xs. Ok xs) (append_assoc ns (n ∷ []) ms)

pub takes : (acc : Result (List Named) IndexFault) (s : List Field) (ss : List (List Field))
    → more_names (add_to acc (named_of s)) ss ≡ more_names acc (s ∷ ss)
takes acc s ss = by_parts acc (named_of s) (names_of ss)

whole : (r : Result (List Named) IndexFault) → and_then r (λ ms. Ok ms) ≡ r
whole (Ok ms) = refl
whole (Err e) = refl

made_end : (acc : Result (List Named) IndexFault) → more_names acc [] ≡ acc
made_end (Ok ns) = ap (λ xs. Ok xs) (append-nil ns)
made_end (Err e) = refl

-- the names after the last stanza
pub all_names : (acc : Result (List Named) IndexFault) (r : Reading) → r.fault ≡ None
    → more_names acc [] ≡ more_names (Ok []) r.stanzas → packages_by r ≡ acc
all_names acc r none made =
    ap (λ f. option_map_or (λ x. Err (Stanza x)) f (names_of r.stanzas)) none ∙ sym (whole (names_of r.stanzas)) ∙ sym made ∙ made_end acc

pub names_refused : (r : Reading) (f : StanzaFault) → r.fault ≡ Some f → packages_by r ≡ Err (Stanza f)
names_refused r f e = ap (λ o. option_map_or (λ x. Err (Stanza x)) o (names_of r.stanzas)) e

-- ---- the one stanza

pub all_listed : (made : Result Listed IndexFault) (r : Reading) → r.fault ≡ None → made ≡ only r.stanzas → release_by r ≡ made
all_listed made r none e = ap (λ f. option_map_or (λ x. Err (Stanza x)) f (only r.stanzas)) none ∙ sym e

pub release_refused : (r : Reading) (f : StanzaFault) → r.fault ≡ Some f → release_by r ≡ Err (Stanza f)
release_refused r f e = ap (λ o. option_map_or (λ x. Err (Stanza x)) o (only r.stanzas)) e

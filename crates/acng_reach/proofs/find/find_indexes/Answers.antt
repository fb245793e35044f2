use Rattle.std.proofs.Common.{◌≡◌, ◌∙◌, true, List, ℕ, ap, sym, subst}
use Rattle.acng_reach.specs.Sets.{among}
use Rattle.acng_reach.proofs.Fronts.{among_at}
use Rattle.acng_reach.proofs.find.find_indexes.Goals as goal

pub add_index-requires-clause-held : goal.add_index-requires-clause-held
add_index-requires-clause-held g c =
    let path = c.index-held-i.result in
    let paths = c.requires.held ∙ sym (ap (λ k. k.paths) c.loop-i.invariant.same) in
    subst (λ (ps : List (List ℕ)). among path ps ≡ true) paths
    (among_at path c.args.held.now c.loop-i.i c.loop-i-test.true c.index-held-i.is)

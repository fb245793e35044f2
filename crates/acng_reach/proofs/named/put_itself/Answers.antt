use Rattle.std.proofs.Common.{◌≡◌, ◌∙◌, ◌||◌, true, Some, List, ℕ, sym, ap}
use Rattle.acng_reach.specs.Names.{place_of}
use Rattle.acng_reach.specs.Reaches.{is_file}
use Rattle.acng_reach.specs.Sets.{same, among}
use Rattle.acng_reach.proofs.Tests.{on_ok, with_test}
use Rattle.acng_reach.proofs.named.put_itself.Goals as goal

pub returns-clause-named : goal.returns-clause-named
returns-clause-named c =
    let entry = c.args.listed.now.entry in
    let place = place_of c.args.folder.now entry in
    let file = is_file c.args.hash.now.0 c.args.size (Some entry.hash) (Some entry.size) in
    let is : file ≡ true = sym c.is_file.ensures ∙ c.if-not-is_file.false in
    on_ok c.put_path.result
    (λ h q path.
    h q path ∙ ap (λ t. same q t || among q c.args.paths.now) c.in_ok-place_of.ensures
    ∙ with_test (same q place) file (among q c.args.paths.now) is)
    c.put_path.ensures.named

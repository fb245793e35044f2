use Rattle.std.proofs.Common.{◌≡◌, ◌∙◌, ◌||◌, true, List, ℕ, sym, ap}
use Rattle.acng_reach.specs.Names.{joined}
use Rattle.acng_reach.specs.Reaches.{is_file}
use Rattle.acng_reach.specs.Sets.{same, among}
use Rattle.acng_reach.proofs.Tests.{on_ok, with_test}
use Rattle.acng_reach.proofs.named.put_name.Goals as goal

pub returns-clause-named : goal.returns-clause-named
returns-clause-named c =
    let name = c.args.name.now in
    let base = c.args.base.now in
    let file = is_file c.args.hash.now.0 c.args.size name.hash name.size in
    let is : file ≡ true = sym c.is_file.ensures ∙ c.if-not-is_file.false in
    on_ok c.put_path.result
    (λ h q path.
    h q path
    ∙ ap (λ t. same q t || among q c.args.paths.now) (c.in_ok-joined.ensures ∙ ap (joined base) c.as_bytes.ensures.bytes)
    ∙ with_test (same q (joined base name.path)) file (among q c.args.paths.now) is)
    c.put_path.ensures.named

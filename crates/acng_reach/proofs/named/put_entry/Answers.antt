use Rattle.std.proofs.Common.{◌≡◌, ◌∙◌, ◌||◌, ◌&&◌, Bool, Some, List, ℕ, ap}
use Rattle.acng_reach.specs.Names.{place_of, base_of}
use Rattle.acng_reach.specs.Reaches.{is_file, names_file, some}
use Rattle.acng_reach.specs.Sets.{same, among}
use Rattle.acng_reach.proofs.Tests.{on_ok, push_by}
use Rattle.acng_reach.proofs.named.put_entry.Goals as goal

pub returns-clause-named : goal.returns-clause-named
returns-clause-named c =
    let listed = c.args.listed.now in
    let folder = c.args.folder.now in
    let hash = c.args.hash.now.0 in
    let size = c.args.size in
    on_ok c.put_listed.result
    (λ h q path.
    let names : Bool = some (names_file (base_of folder) hash size q) listed.names in
    let itself : Bool = same q (place_of folder listed.entry) && is_file hash size (Some listed.entry.hash) (Some listed.entry.size) in
    h q path ∙ ap (λ b. names || b) (c.in_ok-put_itself.ensures.named q path) ∙ push_by names itself (among q c.args.paths.now))
    c.put_listed.ensures.named

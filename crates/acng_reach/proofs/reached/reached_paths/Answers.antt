use Rattle.std.proofs.Common.{◌≡◌, ◌≤◌, ◌∙◌, List, ℕ, length, take, ap, arith}
use Rattle.std.specs.List.{list_any}
use Rattle.std.proofs.lemmas.Grind.{common_steps}
use Rattle.acng_base.specs.Names.{folder_of}
use Rattle.acng_reach.specs.Reaches.{given_by, has_folder}
use Rattle.acng_reach.specs.declared.index.Index.{Index}
use Rattle.acng_reach.proofs.Tests.{all_reached}
use Rattle.acng_reach.proofs.reached.reached_paths.Goals as goal

pub returns : goal.returns
returns c = λ q.
    let xs : List Index = c.args.indexes.now in
    let past : length xs ≤ c.loop-i.i = c.loop-i-test.false in
    let all : take c.loop-i.i xs ≡ xs = grind (arith, common_steps) in
    all_reached c.args.held.now c.loop-i.folders xs q _ _ (c.in_ok-put_beside.ensures q)
    (c.loop-i.invariant.paths q ∙ ap (list_any (given_by q)) all)
    (c.loop-i.invariant.folders (folder_of q) ∙ ap (list_any (has_folder (folder_of q))) all)

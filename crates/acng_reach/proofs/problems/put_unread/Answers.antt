use Rattle.std.proofs.Common.{◌≡◌, ◌∙◌, ◌||◌, Bool, List, ℕ, ap}
use Rattle.acng_reach.specs.Sets.{among}
use Rattle.acng_reach.proofs.Tests.{on_ok, unread_same}
use Rattle.acng_reach.proofs.problems.put_unread.Goals as goal

pub returns : goal.returns
returns g c =
    on_ok c.put_others.result
    (λ h q.
    h q
    ∙ ap (λ b. b || among q c.args.folders.now)
    (unread_same (g.B.Bodies.cache c.args.bodies.now).paths q c.args.folder.now _ c.args.list.now c.in_ok-read.ensures))
    c.put_others.ensures

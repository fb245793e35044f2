use Rattle.acng_grow.proofs.Looked.{looked}
use Rattle.acng_grow.proofs.finding.find_head.Goals as goal

pub returns : goal.returns
returns g c =
    looked g.S.Site g.F.BodyFile.tells c.args.asked.now c.args.body.now c.in_ok-look.look c.keeps.ensures c.in_ok-look.ensures.opened
    c.in_ok-look.ensures.asked c.in_ok-look.ensures.told

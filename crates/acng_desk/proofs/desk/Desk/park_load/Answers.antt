use Rattle.acng_desk.proofs.Owns.{apart_if}
use Rattle.acng_desk.proofs.desk.Desk.park_load.Goals as goal

pub other_than-other-requires : goal.other_than-other-requires
other_than-other-requires g c = record {
  apart = apart_if g.S.Site g.K.Keeper.tells c.args.self.now.plain c.args.info.now.path c.args.info.now
      c.keeps.ensures.plain c.requires.out;
}

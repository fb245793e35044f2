use Rattle.std.proofs.Common.{refl, sym, subst}
use Rattle.acng_grow.specs.Faithful.{IsFaithful}
use Rattle.acng_cli.proofs.single.run_over.Goals as goal

pub returns : goal.returns
returns g c = record {
  ran = record {
    once = c.run_once-once.result;
    told = refl;
    status = c.status_of.ensures;
    quiet = refl;
    left = c.run_once-once.new.desk;
    ran = c.run_once-once.ensures.ran;
    keeper = let kept = c.into_keeper.ensures.kept in let next = c.into_keeper.ensures.next in let faults = c.into_keeper.ensures.faults in cc;
    still = λ t. subst (IsFaithful g.S.Site) (sym c.into_keeper.ensures.kept) (c.keeps.ensures.kept t).faithful;
  };
}

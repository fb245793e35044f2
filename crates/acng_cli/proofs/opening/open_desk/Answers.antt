use Rattle.std.proofs.Common.{◌≡◌, Result, Ok, Err, ap, refl, sym, subst, inl, inr}
use Rattle.acng_cli.specs.Opens.{OpensAs, idle}
use Rattle.acng_cli.specs.declared.opening.Opened.TheVariants.{Ended}
use Rattle.acng_cli.proofs.Starts.{lacks}
use Rattle.acng_cli.proofs.opening.open_desk.Goals as goal

-- memory was refused before the words were read
pub returns-in-Err-NoMemory-clause-opened : goal.returns-in-Err-NoMemory-clause-opened
returns-in-Err-NoMemory-clause-opened g c =
    lacks _ _ g.S.Site g.K.Keeper.tells (λ k. record { kept = g.K.Keeper.kept k; next_id = g.K.Keeper.next k; faults = g.K.Keeper.faults k }) _
    (g.I.Source.faults c.args.conf.now) (g.I.Source.faults c.args.conf.now) c.args.keeper refl c.requires.faithful _ c.ended.result c.ended.ensures

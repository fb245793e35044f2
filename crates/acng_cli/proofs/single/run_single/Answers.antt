use Rattle.acng_cli.specs.Words.{words_of}
use Rattle.acng_cli.specs.Single.{once_in}
use Rattle.std.proofs.Common.{refl}
use Rattle.acng_cli.proofs.Singles.{ran_idle, ran_over, ran_ended, still}
use Rattle.acng_cli.proofs.single.run_single.Goals as goal

pub returns-in-Err-clause-ran : goal.returns-in-Err-clause-ran
returns-in-Err-clause-ran g c =
    ran_idle g.S.Site g.K.Keeper.tells g.L.Link
    (λ k. record { kept = g.K.Keeper.kept k; next_id = g.K.Keeper.next k; faults = g.K.Keeper.faults k }) _ _ _ c.args.keeper refl
    c.requires.faithful _ (once_in (words_of c.args.words.now)) c.in-Err.status c.never_ran.result c.in-Err.ensures.refused c.never_ran.ensures

pub returns-in-Ready-clause-ran : goal.returns-in-Ready-clause-ran
returns-in-Ready-clause-ran g c =
    ran_over g.S.Site g.K.Keeper.tells g.L.Link
    (λ k. record { kept = g.K.Keeper.kept k; next_id = g.K.Keeper.next k; faults = g.K.Keeper.faults k }) _ _ _ c.args.keeper refl
    c.requires.faithful _ (once_in (words_of c.args.words.now)) c.in-Ok.words _ c.in-Ready.conf c.in-Ready.desk _ c.run_over.result
    c.in-Ok.ensures.words c.in-Ready.ensures.opened c.run_over.ensures.ran

pub returns-in-Ended-clause-ran : goal.returns-in-Ended-clause-ran
returns-in-Ended-clause-ran g c =
    ran_ended g.S.Site g.K.Keeper.tells g.L.Link
    (λ k. record { kept = g.K.Keeper.kept k; next_id = g.K.Keeper.next k; faults = g.K.Keeper.faults k }) _ _ _ c.args.keeper refl
    c.requires.faithful _ (once_in (words_of c.args.words.now)) c.in-Ok.words c.in-Ended.ended c.never_ran-in-Ended.result c.in-Ok.ensures.words
    c.in-Ended.ensures.opened c.never_ran-in-Ended.ensures

pub returns-in-Err-clause-still : goal.returns-in-Err-clause-still
returns-in-Err-clause-still g c =
    still g.S.Site g.K.Keeper.tells g.L.Link
    (λ k. record { kept = g.K.Keeper.kept k; next_id = g.K.Keeper.next k; faults = g.K.Keeper.faults k }) _ _ _ c.args.keeper refl
    c.requires.faithful _ _ (once_in (words_of c.args.words.now)) c.never_ran.result (returns-in-Err-clause-ran g c)

pub returns-in-Ready-clause-still : goal.returns-in-Ready-clause-still
returns-in-Ready-clause-still g c =
    still g.S.Site g.K.Keeper.tells g.L.Link
    (λ k. record { kept = g.K.Keeper.kept k; next_id = g.K.Keeper.next k; faults = g.K.Keeper.faults k }) _ _ _ c.args.keeper refl
    c.requires.faithful _ _ (once_in (words_of c.args.words.now)) c.run_over.result (returns-in-Ready-clause-ran g c)

pub returns-in-Ended-clause-still : goal.returns-in-Ended-clause-still
returns-in-Ended-clause-still g c =
    still g.S.Site g.K.Keeper.tells g.L.Link
    (λ k. record { kept = g.K.Keeper.kept k; next_id = g.K.Keeper.next k; faults = g.K.Keeper.faults k }) _ _ _ c.args.keeper refl
    c.requires.faithful _ _ (once_in (words_of c.args.words.now)) c.never_ran-in-Ended.result (returns-in-Ended-clause-ran g c)

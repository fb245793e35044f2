use Rattle.std.proofs.Common.{inl, inr, None, refl, arith, subst}
use Rattle.acng_keeper.specs.Slips.{Faults, Later}
use Rattle.acng_reply.specs.Replies.{sent_by}
use Rattle.acng_serve.specs.Answers.{AnswersAt}
use Rattle.acng_serve.specs.Notes.{Gives, lined}
use Rattle.acng_serve.proofs.Answerings.{lacks, refused, filed}
use Rattle.acng_serve.proofs.Visiting.{shown_at, ran_at}
use Rattle.acng_serve.proofs.answer.answer_at.Goals as goal

same_faults : (f : Faults) → Later f f
same_faults f = record { count = omega arith; may_fail = refl }

pub returns-in-File-clause-answers : goal.returns-in-File-clause-answers
returns-in-File-clause-answers g c =
    filed g.S.Site g.K.Keeper.tells c.args.conf.now c.args.manner c.args.request.now c.args.now c.args.desk.now c.answer_file.new.desk
    c.answer_file.result
    (sent_by g.L.Link c.args.client.now c.answer_file.new.client) c.in-File.path c.in-File.origins c.in-File.class c.in-File.ensures.way
    c.answer_file.ensures.answers
    c.keeps.ensures.told

pub returns-clause-answers : goal.returns-clause-answers
returns-clause-answers g c =
    let s = g.S.Site in
    let io = sent_by g.L.Link c.args.client.now c.refuse-in-Refusal.new.client in
    let note = c.refuse-in-Refusal.result in
    let house = c.args.desk.now in
    let cause = c.in-Refusal.cause in
    elim c.in-Refusal.ensures.way as
    (λ _. AnswersAt s g.K.Keeper.tells c.args.conf.now c.args.manner c.args.request.now c.args.now house house note io) [
      | inl k ↦ lacks s g.K.Keeper.tells c.args.conf.now c.args.manner c.args.request.now c.args.now house house note io
          (subst (λ x. Gives (lined c.args.manner x None None) note io) k c.refuse-in-Refusal.ensures.gives) refl (same_faults house.faults)
      | inr k ↦ refused s g.K.Keeper.tells c.args.conf.now c.args.manner c.args.request.now c.args.now house house note io
          cause k c.refuse-in-Refusal.ensures.gives refl (same_faults house.faults)
    ]

pub returns-in-Page-clause-answers : goal.returns-in-Page-clause-answers
returns-in-Page-clause-answers g c =
    shown_at g.S.Site g.K.Keeper.tells c.args.conf.now c.args.manner c.args.request.now c.args.now c.answer_page.result
    (sent_by g.L.Link c.args.client.now c.answer_page.new.client) c.in-Page.ensures.way c.args.desk.now c.answer_page.new.desk
    c.answer_page.ensures.shows

pub returns-in-Run-clause-answers : goal.returns-in-Run-clause-answers
returns-in-Run-clause-answers g c =
    ran_at g.S.Site g.K.Keeper.tells c.args.conf.now c.args.manner c.args.request.now c.args.now c.answer_run.result
    (sent_by g.L.Link c.args.client.now c.answer_run.new.client) c.in-Run.ensures.way c.args.desk.now c.answer_run.new.desk
    c.answer_run.ensures.runs

pub returns-in_default-clause-answers : goal.returns-in_default-clause-answers
returns-in_default-clause-answers g c =
    let house = c.args.desk.now in
    lacks g.S.Site g.K.Keeper.tells c.args.conf.now c.args.manner c.args.request.now c.args.now house house c.refuse.result
    (sent_by g.L.Link c.args.client.now c.refuse.new.client) c.refuse.ensures.gives refl (same_faults house.faults)

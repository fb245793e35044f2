use Rattle.std.proofs.Common.{◌≡◌, inl, inr, None, Some, subst}
use Rattle.acng_reply.specs.Replies.{sent_by}
use Rattle.acng_serve.specs.Among.{LawfulAt}
use Rattle.acng_remap.specs.Readings.{reading}
use Rattle.acng_serve.specs.Notes.{Gives, lined}
use Rattle.acng_serve.specs.Pages.{Shows, Runs}
use Rattle.acng_serve.specs.Ways.{LeadsToFile, LeadsToPage, refusal_of}
use Rattle.acng_serve.proofs.Lawfuls.{file_at, lacks_at, refused_at}
use Rattle.acng_serve.proofs.Visiting.{shown_among, ran_among}
use Rattle.acng_serve.proofs.among.answer_among_at.Goals as goal

pub returns-in-File-clause-answers : goal.returns-in-File-clause-answers
returns-in-File-clause-answers g c =
    file_at g.S.Site g.K.Keeper.tells c.args.house.now c.args.manner c.args.request.now c.args.now c.answer_file_among.result
    (sent_by g.L.Link c.args.client.now c.answer_file_among.new.client) c.in-File.path c.in-File.origins c.in-File.class
    (subst (λ k. LeadsToFile k c.args.request.now c.in-File.path c.in-File.origins c.in-File.class) c.conf-2.ensures c.in-File.ensures.way)
    c.answer_file_among.ensures.answers

pub returns-clause-answers : goal.returns-clause-answers
returns-clause-answers g c =
    let s = g.S.Site in
    let io = sent_by g.L.Link c.args.client.now c.refuse-in-Refusal.new.client in
    let note = c.refuse-in-Refusal.result in
    let cause = c.in-Refusal.cause in
    let conf = c.args.house.now in
    let r = c.args.request.now in
    elim c.in-Refusal.ensures.way as
    (λ _. LawfulAt s g.K.Keeper.tells conf c.args.manner c.args.request.now c.args.now note io) [
      | inl k ↦ lacks_at s g.K.Keeper.tells conf c.args.manner c.args.request.now c.args.now note io
          (subst (λ x. Gives (lined c.args.manner x None None) note io) k c.refuse-in-Refusal.ensures.gives)
      | inr k ↦ refused_at s g.K.Keeper.tells conf c.args.manner c.args.request.now c.args.now note io cause
          (subst (λ z. refusal_of z (reading z r.method r.target) ≡ Some cause) c.conf-2.ensures k) c.refuse-in-Refusal.ensures.gives
    ]

pub returns-in-Page-clause-answers : goal.returns-in-Page-clause-answers
returns-in-Page-clause-answers g c =
    shown_among g.S.Site g.K.Keeper.tells c.args.house.now c.args.manner c.args.request.now c.args.now c.answer_page_among.result
    (sent_by g.L.Link c.args.client.now c.answer_page_among.new.client)
    (subst (λ k. LeadsToPage k c.args.request.now Shows) c.conf-2.ensures c.in-Page.ensures.way) c.answer_page_among.ensures.note

pub returns-in-Run-clause-answers : goal.returns-in-Run-clause-answers
returns-in-Run-clause-answers g c =
    ran_among g.S.Site g.K.Keeper.tells c.args.house.now c.args.manner c.args.request.now c.args.now c.answer_run_among.result
    (sent_by g.L.Link c.args.client.now c.answer_run_among.new.client)
    (subst (λ k. LeadsToPage k c.args.request.now Runs) c.conf-2.ensures c.in-Run.ensures.way) c.answer_run_among.ensures.note

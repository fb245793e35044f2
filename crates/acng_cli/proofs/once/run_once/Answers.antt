use Rattle.std.proofs.Common.{◌≡◌, ◌++◌, List, ℕ, Bool, true, IfSome, Some, ap, ◌∙◌, refl, sym, subst, inl, inr}
use Rattle.std.proofs.KnownBytes.{Keeps-refl}
use Rattle.acng_request.specs.Gots.{GivesRequest}
use Rattle.acng_request.specs.Nexts.{next, Asks, Ends, Refuses}
use Rattle.acng_reply.specs.Replies.{sent_by}
use Rattle.acng_serve.specs.declared.note.Cause.TheVariants.{Head, NoMemory}
use Rattle.acng_cli.specs.Once.{Outside}
use Rattle.acng_cli.proofs.Cases.{if_also}
use Rattle.acng_cli.proofs.Ran.{replied_since, ran_hindered, ran_ended, ran_refused, ran_answered}
use Rattle.acng_cli.proofs.once.run_once.Goals as goal

pub returns-in_default-clause-ran : goal.returns-in_default-clause-ran
returns-in_default-clause-ran g c =
    let l = g.L.Link in
    let client = c.args.client.now in
    let new = c.answer_unread.new.client in
    let coming = g.C.Clock.coming c.args.clock.now in
    ran_hindered g.S.Site g.K.Keeper.tells l c.args.conf.now (record { client = client; coming = coming; desk = c.args.desk.now })
    (record { client = new; coming = coming; desk = c.args.desk.now }) c.replied.result
    (inr (record {
      note = c.answer_unread.result;
      io = sent_by l client new;
      replied = replied_since l client client new c.replied.result c.answer_unread.result c.replied.ensures (Keeps-refl (l.written client)) refl
          c.answer_unread.ensures.fault;
      gives = c.answer_unread.ensures.gives;
      untouched = record { desk = refl; coming = refl };
    }))

pub returns-in-Request-clause-ran : goal.returns-in-Request-clause-ran
returns-in-Request-clause-ran g c =
    let l = g.L.Link in
    let coming = g.C.Clock.coming in
    let client = c.args.client.now in
    let link = c.read_request.new.link in
    let new = c.answer_one.new.client in
    let left = l.left client in
    let r = c.in-Request.request in
    let gives = subst (λ t. IfSome left (λ b. GivesRequest (t ++ b) c.read_request.new.buf (l.left link) r)) c.in-Ok.ensures
    c.in-Request.ensures.request in
    let asked = if_also (λ b. GivesRequest b c.read_request.new.buf (l.left link) r) (λ b. (rest : List ℕ) × (next b ≡ Asks r rest))
    (λ b k. (c.read_request.new.buf ++ k.0, k.2)) left gives in
    ran_answered g.S.Site g.K.Keeper.tells l c.args.conf.now (record { client = client; coming = coming c.args.clock.now; desk = c.args.desk.now })
    (record { client = new; coming = coming c.answer_one.new.clock; desk = c.answer_one.new.desk }) c.replied-in-Request.result r
    (record {
      note = c.answer_one.result;
      io = sent_by l link new;
      replied = replied_since l client link new c.replied-in-Request.result c.answer_one.result c.replied-in-Request.ensures
          c.read_request.ensures.written c.in-Request.ensures.worked c.answer_one.ensures.fault;
      answers = c.answer_one.ensures.answers;
    })
    asked

pub returns-in-Ended-clause-ran : goal.returns-in-Ended-clause-ran
returns-in-Ended-clause-ran g c =
    let l = g.L.Link in
    let coming = g.C.Clock.coming c.args.clock.now in
    let client = c.args.client.now in
    let left = l.left client in
    let is = c.unanswered.ensures in
    ran_ended g.S.Site g.K.Keeper.tells l c.args.conf.now (record { client = client; coming = coming; desk = c.args.desk.now })
    (record { client = c.read_request.new.link; coming = coming; desk = c.args.desk.now }) c.unanswered.result
    (record {
      unanswered = record { stop = ap (λ o. o.stop) is; noted = ap (λ o. o.note) is; kept = c.read_request.ensures.written };
      at_end = c.in-Ended.ensures.at_end;
      untouched = record { desk = refl; coming = refl };
    })
    (subst (λ t. IfSome left (λ b. next (t ++ b) ≡ Ends)) c.in-Ok.ensures c.in-Ended.ensures.ended)

pub returns-in-ClientFault-clause-ran : goal.returns-in-ClientFault-clause-ran
returns-in-ClientFault-clause-ran g c =
    let coming = g.C.Clock.coming c.args.clock.now in
    let is = c.unanswered-in-ClientFault.ensures in
    ran_hindered g.S.Site g.K.Keeper.tells g.L.Link c.args.conf.now (record { client = c.args.client.now; coming = coming; desk = c.args.desk.now })
    (record { client = c.read_request.new.link; coming = coming; desk = c.args.desk.now }) c.unanswered-in-ClientFault.result
    (inl (record {
      unanswered = record { stop = ap (λ o. o.stop) is; noted = ap (λ o. o.note) is; kept = c.read_request.ensures.written };
      rose = c.in-ClientFault.ensures.client_fault;
      untouched = record { desk = refl; coming = refl };
    }))

pub returns-in-Refused-clause-ran : goal.returns-in-Refused-clause-ran
returns-in-Refused-clause-ran g c =
    let l = g.L.Link in
    let coming = g.C.Clock.coming c.args.clock.now in
    let client = c.args.client.now in
    let link = c.read_request.new.link in
    let new = c.answer_unread-in-Refused.new.client in
    let left = l.left client in
    let fault = c.in-Refused.fault in
    ran_refused g.S.Site g.K.Keeper.tells l c.args.conf.now (record { client = client; coming = coming; desk = c.args.desk.now })
    (record { client = new; coming = coming; desk = c.args.desk.now }) c.replied-in-Refused.result fault
    (record {
      note = c.answer_unread-in-Refused.result;
      io = sent_by l link new;
      replied = replied_since l client link new c.replied-in-Refused.result c.answer_unread-in-Refused.result c.replied-in-Refused.ensures
          c.read_request.ensures.written c.in-Refused.ensures.worked c.answer_unread-in-Refused.ensures.fault;
      gives = c.answer_unread-in-Refused.ensures.gives;
      untouched = record { desk = refl; coming = refl };
    })
    (subst (λ t. IfSome left (λ b. next (t ++ b) ≡ Refuses fault)) c.in-Ok.ensures c.in-Refused.ensures.refused)

pub returns-clause-ran : goal.returns-clause-ran
returns-clause-ran g c =
    let l = g.L.Link in
    let coming = g.C.Clock.coming c.args.clock.now in
    let client = c.args.client.now in
    let link = c.read_request.new.link in
    let new = c.answer_unread-in-NoMemory.new.client in
    ran_hindered g.S.Site g.K.Keeper.tells l c.args.conf.now (record { client = client; coming = coming; desk = c.args.desk.now })
    (record { client = new; coming = coming; desk = c.args.desk.now }) c.replied-in-NoMemory.result
    (inr (record {
      note = c.answer_unread-in-NoMemory.result;
      io = sent_by l link new;
      replied = replied_since l client link new c.replied-in-NoMemory.result c.answer_unread-in-NoMemory.result c.replied-in-NoMemory.ensures
          c.read_request.ensures.written c.in-NoMemory.ensures.worked c.answer_unread-in-NoMemory.ensures.fault;
      gives = c.answer_unread-in-NoMemory.ensures.gives;
      untouched = record { desk = refl; coming = refl };
    }))

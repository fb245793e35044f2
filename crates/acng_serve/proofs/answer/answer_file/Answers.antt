use Rattle.std.proofs.Common.{subst}
use Rattle.acng_reply.specs.Replies.{sent_by}
use Rattle.acng_serve.specs.Notes.{SendsFound}
use Rattle.acng_serve.specs.Files.{held_grown}
use Rattle.acng_serve.proofs.Filing.{held_file, loaded_file, later_trans}
use Rattle.acng_serve.proofs.Filing.{led_plain, loaded_idle}
use Rattle.acng_serve.proofs.answer.answer_file.Goals as goal

pub returns-in-Kept-clause-answers : goal.returns-in-Kept-clause-answers
returns-in-Kept-clause-answers g c =
    let io = sent_by g.L.Link c.args.client.now c.answer_held.new.client in
    let handle = g.K.Body.BodyFile.handle in
    let faults = g.K.Body.BodyFile.faults in
    let held = c.in-Kept.held in
    let begun = c.in-Kept.ensures.begun in
    held_file handle faults g.S.Site g.K.Keeper.tells c.args.manner c.args.request.now c.args.path c.args.class c.args.origins.now
    c.args.now c.args.desk.now
    c.begin.new.self held c.in-Kept.entry c.answer_held.result io begun.0 c.in-Kept.ensures.held c.in-Kept.ensures.plain
    c.in-Kept.ensures.later
    (subst (λ b. SendsFound b c.args.manner c.args.request.now c.in-Kept.entry
    (held_grown handle faults c.args.path held) c.answer_held.result io)
    g.met.K.Keeper.body_tells c.answer_held.ensures.sends)
    begun.1

pub returns-in-Lead-clause-answers : goal.returns-in-Lead-clause-answers
returns-in-Lead-clause-answers g c =
    let begun = c.in-Lead.ensures.begun in
    loaded_file g.S.Site g.K.Keeper.tells c.args.manner c.args.request.now c.args.path c.args.class c.args.origins.now c.args.now
    c.args.desk.now
    c.begin.new.self c.answer_loaded.new.desk c.in-Lead.ticket c.in-Lead.entry c.answer_loaded.result
    (sent_by g.L.Link c.args.client.now c.answer_loaded.new.client)
    begun.0 begun.1 begun.2 c.in-Lead.ensures.plain
    (later_trans c.args.desk.now.faults c.begin.new.self.faults c.answer_loaded.new.desk.faults c.in-Lead.ensures.later
    c.answer_loaded.ensures.later)
    c.answer_loaded.ensures.loads

pub returns-in-Lead-clause-idle : goal.returns-in-Lead-clause-idle
returns-in-Lead-clause-idle g c =
    let begun = c.in-Lead.ensures.begun in
    let p = c.args.desk.now.plain in
    loaded_idle g.S.Site g.K.Keeper.tells c.args.desk.now.kept c.args.manner c.args.request.now c.in-Lead.entry c.args.path c.args.class
    c.args.origins.now c.args.now p c.begin.new.self c.answer_loaded.new.desk c.in-Lead.ticket c.answer_loaded.result
    (sent_by g.L.Link c.args.client.now c.answer_loaded.new.client) c.requires.idle begun.1
    (led_plain c.args.path c.args.class c.args.now p c.begin.new.self.plain c.in-Lead.ensures.plain begun.0) c.answer_loaded.ensures.loads

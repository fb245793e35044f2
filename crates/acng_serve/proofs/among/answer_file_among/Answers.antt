use Rattle.std.proofs.Common.{None, subst}
use Rattle.acng_desk.specs.declared.entry.BrimKind.TheVariants as brim
use Rattle.acng_reply.specs.Replies.{sent_by}
use Rattle.acng_serve.specs.declared.note.Cause.TheVariants as cause
use Rattle.acng_serve.specs.Files.{held_grown}
use Rattle.acng_serve.specs.Lawful.{FileNote}
use Rattle.acng_serve.specs.Notes.{Gives, SendsFound, lined}
use Rattle.acng_serve.proofs.Filing.{held_file}
use Rattle.acng_serve.proofs.Lawfuls.{alone_file, brim_file, joined_path, led_file}
use Rattle.acng_serve.proofs.among.answer_file_among.Goals as goal

pub returns-in-Kept-clause-answers : goal.returns-in-Kept-clause-answers
returns-in-Kept-clause-answers g c =
    let s = g.S.Site in
    let tells = g.K.Keeper.tells in
    let m = c.args.manner in
    let r = c.args.request.now in
    let io = sent_by g.L.Link c.args.client.now c.answer_held.new.client in
    let handle = g.K.Body.BodyFile.handle in
    let faults = g.K.Body.BodyFile.faults in
    let held = c.in-Kept.held in
    let begun = c.in-Kept.ensures.begun in
    let old = c.deref_mut.result.now in
    let new = c.begin-begun.new.self in
    alone_file s tells m r c.args.path c.args.now c.answer_held.result io c.args.class c.args.origins.now old new
    (held_file handle faults s tells m r c.args.path c.args.class c.args.origins.now c.args.now old new held c.in-Kept.entry
    c.answer_held.result io begun.0 c.in-Kept.ensures.held c.in-Kept.ensures.plain c.in-Kept.ensures.later
    (subst (λ b. SendsFound b m r c.in-Kept.entry (held_grown handle faults c.args.path held) c.answer_held.result io)
    g.met.K.Keeper.body_tells c.answer_held.ensures.sends)
    begun.1)

pub returns-in-Join-clause-answers : goal.returns-in-Join-clause-answers
returns-in-Join-clause-answers g c =
    let s = g.S.Site in
    let io = sent_by g.L.Link c.args.client.now c.send_joined.new.client in
    let e = joined_path c.args.path c.args.now _ c.in-Join.entry c.in-Join.ensures.begun.1 in
    led_file s g.K.Keeper.tells c.args.manner c.args.request.now c.args.path c.args.now c.send_joined.result io c.in-Join.entry e.0 e.2
    c.send_joined.ensures.entry
    (subst (λ b. FileNote s b c.args.manner c.args.request.now c.in-Join.entry.asked.path c.send_joined.result io)
    g.met.K.Keeper.body_tells c.send_joined.ensures.note)

pub returns-in-Full-clause-answers : goal.returns-in-Full-clause-answers
returns-in-Full-clause-answers g c =
    let io = sent_by g.L.Link c.args.client.now c.refuse-in-Full.new.client in
    let note = c.refuse-in-Full.result in
    brim_file g.S.Site g.K.Keeper.tells c.args.manner c.args.request.now c.args.path c.args.now note io brim.Full
    (subst (λ b. Gives (lined c.args.manner (cause.Full b) None None) note io) c.in-Full.ensures.begun.1 c.refuse-in-Full.ensures.gives)

pub returns-in-Worn-clause-answers : goal.returns-in-Worn-clause-answers
returns-in-Worn-clause-answers g c =
    let io = sent_by g.L.Link c.args.client.now c.refuse-in-Worn.new.client in
    let note = c.refuse-in-Worn.result in
    brim_file g.S.Site g.K.Keeper.tells c.args.manner c.args.request.now c.args.path c.args.now note io brim.Worn
    (subst (λ b. Gives (lined c.args.manner (cause.Worn b) None None) note io) c.in-Worn.ensures.begun.1 c.refuse-in-Worn.ensures.gives)

use Rattle.std.proofs.Common.{◌≤◌, length, take, subst}
use Rattle.std.specs.Io.KnownBytes.{Appends}
use Rattle.acng_reply.proofs.Texts.{on_err}
use Rattle.acng_reply.proofs.send.send_head.Goals as goal

pub returns-clause-broke : goal.returns-clause-broke
returns-clause-broke g c =
    let text = c.reply_head-len.ensures.text in
    let sent = c.send_counted-outcome in
    on_err sent.result.1
    (λ rose. record {
      date = text.0;
      dated = text.1;
      k = sent.result.0;
      few = subst (λ t. sent.result.0 ≤ length t) text.2 sent.ensures.within;
      bytes = subst (λ t. Appends (g.L.Link.written c.args.client.now) (g.L.Link.written sent.new.link) (take sent.result.0 t)) text.2
          sent.ensures.bytes;
      rose = rose;
    })
    sent.ensures.cause.failed

-- each status of the proxy is one that `http` knows, and its reason is short
use Rattle.std.proofs.Common.{◌≡◌, [], unwrap_or, rules}
use Rattle.http.specs.StatusCode.{reason_phrase}
use Rattle.acng_request.proofs.ReplyLemmas.{are_short}
use Rattle.acng_request.proofs.reply.reason.Goals as goal

pub returns-in_default-clause-text : goal.returns-in_default-clause-text
returns-in_default-clause-text c =
    let short = are_short c.args.status c.requires in
    absurd (c.in_default.ensures (short.low, short.high))

pub returns-in-Some-clause-short : goal.returns-in-Some-clause-short
returns-in-Some-clause-short c =
    let e : c.as_bytes.result.now ≡ unwrap_or (reason_phrase c.args.status) [] = search rules in
    rw e (are_short c.args.status c.requires).brief

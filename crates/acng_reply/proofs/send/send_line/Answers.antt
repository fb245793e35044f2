use Rattle.std.proofs.Common.{◌≡◌, ◌≤◌, ◌-◌, ◌++◌, length, take, ap, sym, subst, ◌∙◌, arith}
use Rattle.std.specs.Io.KnownBytes.{Appends}
use Rattle.std.proofs.lemmas.List.{take_all, length-take-le}
use Rattle.acng_request.specs.ReplyHeads.{head_text, IsDateOf}
use Rattle.acng_reply.specs.Heads.{line_head}
use Rattle.acng_reply.specs.Lines.{line_text}
use Rattle.acng_reply.specs.Manners.{unless_bare}
use Rattle.acng_reply.specs.Replies.{sent_by}
use Rattle.acng_reply.proofs.Texts.{sent_all, sent_front, on_ok, on_err}
use Rattle.acng_reply.proofs.send.send_line.Goals as goal

-- the bytes of head and line
pub returns-clause-all : goal.returns-clause-all
returns-clause-all g c =
    let sent = c.send_counted-taken in
    let w = g.L.Link.written in
    let old = c.args.client.now in
    let new = sent.new.link in
    let head = line_head c.args.manner c.args.line in
    let body = unless_bare c.args.manner (line_text c.args.line) in
    let text = c.reply_head-len.ensures.text in
    let dated = subst (λ h. IsDateOf h.modified text.0) c.line_head.ensures.head text.1 in
    let front : take c.reply_head-len.result c.reply_head-len.new.out ≡ head_text head text.0 =
    text.2 ∙ ap (λ h. head_text h text.0) c.line_head.ensures.head in
    let line : c.unless_bare.result.now ≡ body = c.unless_bare.ensures ∙ ap (unless_bare c.args.manner) c.text.ensures.text in
    let both : take c.put_behind-stop.result c.put_behind-stop.new.out ≡ head_text head text.0 ++ body =
    c.put_behind-stop.ensures.text ∙ ap (λ t. t ++ c.unless_bare.result.now) front ∙ ap (λ t. head_text head text.0 ++ t) line in
    on_ok sent.result.1
    (λ count.
    let all : take sent.result.0 (take c.put_behind-stop.result c.put_behind-stop.new.out) ≡ head_text head text.0 ++ body =
    take_all sent.result.0 (take c.put_behind-stop.result c.put_behind-stop.new.out) (omega arith) ∙ both in
    sent_all head body text.0 dated (sent_by g.L.Link old new) (subst (Appends (w old) (w new)) all sent.ensures.bytes))
    sent.ensures.all

pub returns-clause-broke : goal.returns-clause-broke
returns-clause-broke g c =
    let sent = c.send_counted-taken in
    let w = g.L.Link.written in
    let old = c.args.client.now in
    let new = sent.new.link in
    let head = line_head c.args.manner c.args.line in
    let body = unless_bare c.args.manner (line_text c.args.line) in
    let text = c.reply_head-len.ensures.text in
    let dated = subst (λ h. IsDateOf h.modified text.0) c.line_head.ensures.head text.1 in
    let front : take c.reply_head-len.result c.reply_head-len.new.out ≡ head_text head text.0 =
    text.2 ∙ ap (λ h. head_text h text.0) c.line_head.ensures.head in
    let line : c.unless_bare.result.now ≡ body = c.unless_bare.ensures ∙ ap (unless_bare c.args.manner) c.text.ensures.text in
    let both : take c.put_behind-stop.result c.put_behind-stop.new.out ≡ head_text head text.0 ++ body =
    c.put_behind-stop.ensures.text ∙ ap (λ t. t ++ c.unless_bare.result.now) front ∙ ap (λ t. head_text head text.0 ++ t) line in
    let fits : c.reply_head-len.result ≤ length c.reply_head-len.new.out =
    omega (arith, c.reply_head-len.ensures.fits, c.reply_head-len.array_long) in
    let size : length (head_text head text.0) ≡ c.reply_head-len.result =
    sym (ap length front) ∙ length-take-le c.reply_head-len.result c.reply_head-len.new.out fits in
    let count : c.saturating_sub.result ≡ sent.result.0 - length (head_text head text.0) =
    c.saturating_sub.ensures ∙ ap (λ n. sent.result.0 - n) (sym size) in
    on_err sent.result.1
    (sent_front head body text.0 dated (sent_by g.L.Link old new) sent.result.0 c.saturating_sub.result
    (subst (λ t. sent.result.0 ≤ length t) both sent.ensures.within) count
    (subst (λ t. Appends (w old) (w new) (take sent.result.0 t)) both sent.ensures.bytes))
    sent.ensures.cause.failed

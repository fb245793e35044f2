use Rattle.std.proofs.Common.{◌≡◌, false, ap, sym, ◌∙◌, drop}
use Rattle.acng_base.proofs.Ranges.{rest_is_drop}
use Rattle.acng_conf.specs.Lines.{is_text_end}
use Rattle.acng_conf.proofs.Comments.{comment_goes_on}
use Rattle.acng_conf.proofs.lines.without_comment.Goals as goal

pub loop-end-preserved : goal.loop-end-preserved
loop-end-preserved c =
    let line = c.args.line.now in
    let end = c.loop-end.end in
    let goes : is_text_end (drop end line) ≡ false = ap is_text_end (sym (rest_is_drop end line)) ∙ sym c.is_end.ensures ∙ c.loop-end-test.true in
    let s = comment_goes_on line end c.loop-end.invariant.within goes in
    record { within = s.0; same = c.loop-end.invariant.same ∙ s.1 }

use Rattle.std.proofs.Common.{◌+◌, ◌∷◌, ◌++◌, sym, ap, ◌∙◌, take}
use Rattle.acng_base.proofs.Ranges.{rest_is_drop}
use Rattle.acng_head.proofs.Cuts.{cut_at, no_cut}
use Rattle.acng_head.proofs.lines.split_at.Goals as goal

pub returns-in_err-at : goal.returns-in_err-at
returns-in_err-at c =
    rw c.from_residual.ensures (no_cut c.args.byte c.args.text.now (sym c.find_byte.ensures ∙ c.in_err-at.was))

pub returns : goal.returns
returns c =
    let i = c.in_ok-at.at in
    let text = c.args.text.now in
    let cut = cut_at c.args.byte i text (sym c.find_byte.ensures ∙ c.in_ok-at.was) in
    (cut.1, cut.2 ∙ ap (λ t. take i text ++ c.args.byte ∷ t) (sym (rest_is_drop (i + 1) text)))

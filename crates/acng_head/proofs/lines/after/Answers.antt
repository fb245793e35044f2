use Rattle.std.proofs.Common.{◌≡◌, length, take, ap, ◌∙◌, sym}
use Rattle.std.proofs.Math.Seq.{take-append_seam}
use Rattle.std.proofs.lemmas.Slice.Eq.{bytes_eq-Decides}
use Rattle.acng_head.proofs.lines.after.Goals as goal

pub returns-else-eq : goal.returns-else-eq
returns-else-eq c = λ rest e.
    let front = c.args.front.now in
    let same : take (length front) c.args.text.now ≡ front = ap (take (length front)) e ∙ take-append_seam front rest in
    let is = (bytes_eq-Decides c.split_at.result.0.now front).1 (c.split_at.ensures.front ∙ same) in
    cc (sym c.if-eq.false ∙ c.eq.ensures, is)

-- The line that is held when it ends is what was held before and the front of the piece.
use Rattle.std.proofs.Common.{rules, arith, ◌≡◌, ◌+◌, ◌-◌, ◌++◌, length, sym, ap, ◌∙◌, take, subst, refl, Some, None, length-append}
use Rattle.std.proofs.lemmas.List.{length-take}
use Rattle.acng_base.specs.SizeLines.{first_line_len, size_of}
use Rattle.acng_answer.specs.Sizes.{IsSized}
use Rattle.acng_answer.proofs.SizeSteps.{sized_tells, same_line, line_full, line_append}
use Rattle.acng_answer.proofs.chunked.size_step.Goals as goal

pub returns-in-Some-clause-tells : goal.returns-in-Some-clause-tells
returns-in-Some-clause-tells c =
    let part = c.first_bytes-mine.result.now in
    let held = c.args.held.now.items in
    let n = c.in-Some.count in
    let room : 1024 - c.len.result ≡ 1024 - length held = omega arith in
    let front : part ≡ take (1024 - length held) c.args.piece.now = c.first_bytes-mine.ensures ∙ ap (λ k. take k c.args.piece.now) room in
    let next = c.args.start + (c.len-in-Some.result + n) in
    let next_is : next ≡ c.args.start + (length held + n) = omega arith in
    let place : (c.args.start + length held) + n ≡ next = omega arith in
    let size : c.join_size.result ≡ size_of (held ++ take n c.args.piece.now) =
    c.join_size.ensures.size ∙ ap size_of (ap (λ t. held ++ take n t) (search rules) ∙ same_line (1024 - length held) n held c.args.piece.now part front c.in-Some.ensures.within.1) in
    let sized = subst (λ o. IsSized c.args.part c.args.start next o c.sized-step.result.0 c.sized-step.result.1) size c.sized-step.ensures.sized in
    rw place (λ told location. sized_tells c.args.part c.args.start held c.args.piece.now c.requires.fits.0 c.requires.fits.2 n (ap first_line_len (sym front) ∙ sym c.in-Some.ensures.len)
    c.sized-step.result.0 c.sized-step.result.1 next 0 told location c.join_size.new.held.items next_is c.join_size.ensures.clear sized)

pub returns-then-len-lt-MOST_LINE-clause-fits : goal.returns-then-len-lt-MOST_LINE-clause-fits
returns-then-len-lt-MOST_LINE-clause-fits c =
    let part = c.first_bytes-mine.result.now in
    let held = c.args.held.now.items in
    let size = ap length c.hold.ensures.items ∙ length-append held part in
    (ap first_line_len c.hold.ensures.items ∙ line_append held part c.requires.fits.0 ∙ rw (sym c.in-None.ensures.len) refl, omega arith, omega arith)

pub returns-else-len-lt-MOST_LINE-clause-tells : goal.returns-else-len-lt-MOST_LINE-clause-tells
returns-else-len-lt-MOST_LINE-clause-tells c =
    let part = c.first_bytes-mine.result.now in
    let held = c.args.held.now.items in
    let room : 1024 - c.len.result ≡ 1024 - length held = omega arith in
    let front : part ≡ take (1024 - length held) c.args.piece.now = c.first_bytes-mine.ensures ∙ ap (λ k. take k c.args.piece.now) room in
    let size = ap length c.hold.ensures.items ∙ length-append held part in
    rw c.bad.ensures (λ told location ended more. (
      line_full c.args.part c.args.start held c.args.piece.now c.requires.fits.0 c.requires.fits.2 (ap first_line_len (sym front) ∙ sym c.in-None.ensures.len) (omega (arith, ap length front, length-take (1024 - length held) c.args.piece.now)) ended more,
      refl,
    ))

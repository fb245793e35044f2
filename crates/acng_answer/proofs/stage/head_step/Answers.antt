-- The block that is whole is what was held before and the front of the piece.
use Rattle.std.proofs.Common.{rules, arith, ◌≡◌, ◌+◌, ◌-◌, ◌≤◌, ◌++◌, length, ap, sym, ◌∙◌, take, subst, length-append, Some, None, [], refl}
use Rattle.std.proofs.lemmas.List.{length-take}
use Rattle.acng_base.specs.declared.block.LineState.TheVariants.{Before}
use Rattle.acng_base.specs.Lines.{state_after}
use Rattle.acng_base.specs.Heads.{head_of}
use Rattle.acng_base.proofs.Scans.{state_append}
use Rattle.acng_answer.specs.declared.head.Judged.TheVariants as judged
use Rattle.acng_answer.specs.Blocks.{IsJudged}
use Rattle.acng_answer.specs.Stages.{due_at}
use Rattle.acng_answer.proofs.HeadSteps.{refused_tells, interim_tells, final_tells, full_tells, final_due, final_bounds}
use Rattle.acng_answer.proofs.stage.head_step.Goals as goal

pub returns-in-Refused-clause-tells : goal.returns-in-Refused-clause-tells
returns-in-Refused-clause-tells c =
    let part = c.first_bytes-part.result.now in
    let held = c.args.held.now.items in
    let room : 16384 - c.len.result ≡ 16384 - length held = omega arith in
    let front : part ≡ take (16384 - length held) c.args.piece.now = c.first_bytes-part.ensures ∙ ap (λ k. take k c.args.piece.now) room in
    let n = c.in-End.count in
    let judged : IsJudged c.judge_joined.new.location (judged.Refused) (head_of (held ++ take n part)) = subst (λ b. IsJudged c.judge_joined.new.location (judged.Refused) (head_of b)) (ap (λ t. held ++ take n t) (search rules)) c.in-Refused.ensures.judged in
    rw c.bad.ensures (refused_tells c.args.start c.args.state held c.args.piece.now part c.requires.fits.0 c.requires.fits.2 front n c.in-End.ensures.scans.0 c.in-End.ensures.scans.2
    c.judge_joined.new.location judged (c.args.start + length held) None None [])

pub returns-in-Interim-clause-tells : goal.returns-in-Interim-clause-tells
returns-in-Interim-clause-tells c =
    let part = c.first_bytes-part.result.now in
    let held = c.args.held.now.items in
    let room : 16384 - c.len.result ≡ 16384 - length held = omega arith in
    let front : part ≡ take (16384 - length held) c.args.piece.now = c.first_bytes-part.ensures ∙ ap (λ k. take k c.args.piece.now) room in
    let n = c.in-End.count in
    let judged : IsJudged c.judge_joined.new.location (judged.Interim) (head_of (held ++ take n part)) = subst (λ b. IsJudged c.judge_joined.new.location (judged.Interim) (head_of b)) (ap (λ t. held ++ take n t) (search rules)) c.in-Interim.ensures.judged in
    let next = c.args.start + (c.len-in-End.result + n) in
    let next_is : next ≡ c.args.start + (length held + n) = omega arith in
    interim_tells c.args.start c.args.state held c.args.piece.now part c.requires.fits.0 c.requires.fits.2 front n c.in-End.ensures.scans.0 c.in-End.ensures.scans.2
    c.judge_joined.new.location judged (c.args.start + length held) next next_is c.judge_joined.new.held.items c.judge_joined.ensures.clear None None

pub returns-in-Final-clause-tells : goal.returns-in-Final-clause-tells
returns-in-Final-clause-tells c =
    let part = c.first_bytes-part.result.now in
    let held = c.args.held.now.items in
    let room : 16384 - c.len.result ≡ 16384 - length held = omega arith in
    let front : part ≡ take (16384 - length held) c.args.piece.now = c.first_bytes-part.ensures ∙ ap (λ k. take k c.args.piece.now) room in
    let n = c.in-End.count in
    let judged : IsJudged c.judge_joined.new.location (judged.Final c.in-Final.framed c.in-Final.told) (head_of (held ++ take n part)) = subst (λ b. IsJudged c.judge_joined.new.location (judged.Final c.in-Final.framed c.in-Final.told) (head_of b)) (ap (λ t. held ++ take n t) (search rules)) c.in-Final.ensures.judged in
    let next = c.args.start + (c.len-in-End.result + n) in
    let next_is : next ≡ c.args.start + (length held + n) = omega arith in
    let place : (c.args.start + length held) + n ≡ next = omega arith in
    rw place (final_tells c.args.start c.args.state held c.args.piece.now part c.requires.fits.0 c.requires.fits.2 front n c.in-End.ensures.scans.0 c.in-End.ensures.scans.2
    c.in-Final.framed c.first_stage.result c.in-Final.told c.judge_joined.new.location judged (c.args.start + length held) next next_is c.judge_joined.new.held.items c.judge_joined.ensures.clear c.first_stage.ensures.reads)

pub returns-in-Final-clause-due : goal.returns-in-Final-clause-due
returns-in-Final-clause-due c =
    let part = c.first_bytes-part.result.now in
    let held = c.args.held.now.items in
    let n = c.in-End.count in
    let judged : IsJudged c.judge_joined.new.location (judged.Final c.in-Final.framed c.in-Final.told) (head_of (held ++ take n part)) = subst (λ b. IsJudged c.judge_joined.new.location (judged.Final c.in-Final.framed c.in-Final.told) (head_of b)) (ap (λ t. held ++ take n t) (search rules)) c.in-Final.ensures.judged in
    final_due c.judge_joined.new.location c.in-Final.framed c.in-Final.told (head_of (held ++ take n part)) judged (due_at c.first_stage.result) c.first_stage.ensures.due

pub returns-in-Final-clause-bounds : goal.returns-in-Final-clause-bounds
returns-in-Final-clause-bounds c =
    let part = c.first_bytes-part.result.now in
    let held = c.args.held.now.items in
    let n = c.in-End.count in
    let judged : IsJudged c.judge_joined.new.location (judged.Final c.in-Final.framed c.in-Final.told) (head_of (held ++ take n part)) = subst (λ b. IsJudged c.judge_joined.new.location (judged.Final c.in-Final.framed c.in-Final.told) (head_of b)) (ap (λ t. held ++ take n t) (search rules)) c.in-Final.ensures.judged in
    final_bounds c.judge_joined.new.location c.in-Final.framed c.in-Final.told (head_of (held ++ take n part)) judged

pub returns-then-len-lt-ROOM-clause-fits : goal.returns-then-len-lt-ROOM-clause-fits
returns-then-len-lt-ROOM-clause-fits c =
    let whole = c.hold.ensures.items in
    let size = ap length whole ∙ length-append c.args.held.now.items c.first_bytes-part.result.now in
    (ap (state_after Before) whole ∙ state_append Before c.args.state c.args.held.now.items c.first_bytes-part.result.now c.requires.fits.0 ∙ c.in-Incomplete.ensures.scans, omega arith, omega arith)

pub returns-else-len-lt-ROOM-clause-tells : goal.returns-else-len-lt-ROOM-clause-tells
returns-else-len-lt-ROOM-clause-tells c =
    let part = c.first_bytes-part.result.now in
    let held = c.args.held.now.items in
    let room : 16384 - c.len.result ≡ 16384 - length held = omega arith in
    let front : part ≡ take (16384 - length held) c.args.piece.now = c.first_bytes-part.ensures ∙ ap (λ k. take k c.args.piece.now) room in
    let most = ap length front ∙ length-take (16384 - length held) c.args.piece.now in
    let full : length (held ++ part) ≡ 16384 = omega (arith, ap length c.hold.ensures.items, length-append held part, most) in
    rw c.bad-else-len-lt-ROOM.ensures (full_tells c.args.start c.args.state held c.args.piece.now part c.requires.fits.0 c.requires.fits.2 front c.in-Incomplete.state c.in-Incomplete.ensures.scans full (c.args.start + length held) [] 0 None None)

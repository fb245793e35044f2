use Rattle.std.proofs.Common.{◌≡◌, ◌+◌, ◌-◌, take, drop, arith, sym, ap, ◌∙◌}
use Rattle.acng_base.proofs.Ranges.{rest_is_drop}
use Rattle.acng_base.specs.Cuts.{pieces, without_cr}
use Rattle.acng_conf.specs.Remaps.{Listing, after_list_line, after_list_lines}
use Rattle.acng_conf.proofs.LineSteps.{list_step, list_last}
use Rattle.acng_conf.proofs.remap_line.RemapLine.add_file.Goals as goal

pub loop-len-preserved : goal.loop-len-preserved
loop-len-preserved c =
    let section = c.args.section in
    let bytes = c.args.bytes.now in
    let start = c.loop-len.start in
    let len = c.in-Some.len in
    let l : Listing = record { brought = c.loop-len.self; bad = c.loop-len.bad } in
    let s = list_step section l bytes start len c.loop-len.invariant.within (sym c.in-Some.ensures) in
    let k : (start + len) - start ≡ len = omega arith in
    let line : c.without_cr.result.now ≡ without_cr (take len (drop start bytes)) = c.without_cr.ensures ∙ ap (λ j. without_cr (take j (drop start bytes))) k in
    let after : after_list_line section l (without_cr (take len (drop start bytes))) ≡ record { brought = c.add_line.new.self; bad = c.in_ok-bad.bad } =
    ap (after_list_line section l) (sym line) ∙ sym c.in_ok-bad.ensures in
    record {
      within = s.0;
      same = c.loop-len.invariant.same ∙ s.1 ∙ ap (λ (m : Listing). after_list_lines section m (pieces (drop (start + (len + 1)) bytes))) after;
    }

pub returns : goal.returns
returns c =
    let section = c.args.section in
    let bytes = c.args.bytes.now in
    let start = c.loop-len.start in
    let l : Listing = record { brought = c.loop-len.self; bad = c.loop-len.bad } in
    let after : after_list_line section l (drop start bytes) ≡ record { brought = c.add_line-2.new.self; bad = c.in_ok-add_line.field-0 } =
    ap (after_list_line section l) (sym (rest_is_drop start bytes)) ∙ sym c.in_ok-add_line.ensures in
    sym (ap (λ (m : Listing). m.brought) (c.loop-len.invariant.same ∙ list_last section l bytes start (sym c.in_default.ensures) ∙ after))

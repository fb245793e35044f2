use Rattle.std.proofs.Common.{◌≤◌, ℕ, List, drop, ap, sym, ◌∙◌, arith}
use Rattle.acng_stanza.specs.Readers.{all_of}
use Rattle.acng_stanza.proofs.Pieces.{piece_rest}
use Rattle.acng_index.proofs.drive.read_stanzas.Goals as goal

pub returns-in-Err-clause-refused : goal.returns-in-Err-clause-refused
returns-in-Err-clause-refused g c = λ real.
    let text = c.args.text.now in
    let start = c.loop-start.start in
    let stop = c.next_stop-stop.result in
    let r = c.loop-start.reader in
    let within : start ≤ stop = omega arith in
    sym (ap (λ (t : List ℕ). (all_of r t).fault) (piece_rest text start stop within) ∙ c.loop-start.invariant.fault)
    ∙ c.in-Err.ensures real (drop stop text)

pub loop-start-preserved : goal.loop-start-preserved
loop-start-preserved g c =
    let text = c.args.text.now in
    let start = c.loop-start.start in
    let stop = c.next_stop-stop.result in
    let r = c.loop-start.reader in
    let within : start ≤ stop = omega arith in
    let cut = piece_rest text start stop within in
    let on = c.in_default.ensures in
    record {
      within = c.next_stop-stop.ensures.within;
      made = on.made (drop stop text) ∙ ap (λ (t : List ℕ). g.T.Takes.makes c.loop-start.taker (all_of r t).stanzas) cut
          ∙ c.loop-start.invariant.made;
      fault = on.fault (drop stop text) ∙ ap (λ (t : List ℕ). (all_of r t).fault) cut ∙ c.loop-start.invariant.fault;
    }

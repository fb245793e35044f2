use Rattle.std.proofs.Common.{◌≡◌, ◌+◌, ◌-◌, ◌++◌, sym, ap, ◌∙◌, take, drop, arith, append_assoc}
use Rattle.acng_base.proofs.Ranges.{rest_is_drop}
use Rattle.acng_base.specs.Cuts.{words_by, some_word}
use Rattle.acng_base.proofs.WordSteps.{words_step, words_last}
use Rattle.acng_base.proofs.line.words_by.Goals as goal

pub loop-len-preserved : goal.loop-len-preserved
loop-len-preserved g c =
    let line = c.args.line.now in
    let start = c.loop-len.start in
    let len = c.in-Some.len in
    let found = c.loop-len.found.items in
    let rest = words_by g.K.Kind.passes (drop (start + (len + 1)) line) in
    let s = words_step g.K.Kind.passes line start len c.loop-len.invariant.within (sym c.in-Some.ensures) in
    let k : (start + len) - start ≡ len = omega arith in
    let pushed : c.push_word.new.found.items ≡ found ++ some_word (take len (drop start line)) =
    c.in_ok-push_word.ensures ∙ ap (λ j. found ++ some_word (take j (drop start line))) k in
    record {
      within = s.0;
      same = c.loop-len.invariant.same ∙ ap (λ t. found ++ t) s.1 ∙ sym (append_assoc found (some_word (take len (drop start line))) rest) ∙ ap (λ t. t ++ rest) (sym pushed);
    }

pub returns : goal.returns
returns g c =
    let line = c.args.line.now in
    let start = c.loop-len.start in
    let found = c.loop-len.found.items in
    c.in_ok-push_word-2.ensures ∙ ap (λ t. found ++ some_word t) (rest_is_drop start line)
    ∙ sym (c.loop-len.invariant.same ∙ ap (λ t. found ++ t) (words_last g.K.Kind.passes line start (sym c.in_default.ensures)))

use Rattle.std.proofs.Common.{◌≡◌, drop}
use Rattle.acng_conf.specs.Remaps.{after_words}
use Rattle.acng_conf.proofs.remap_line.RemapLine.add_words.Given as goal

abbrev pub invariant-loop-word : goal.invariant-loop-word
invariant-loop-word l = after_words l.section l.lists l.fn.self l.words ≡ after_words l.section l.lists l.self (drop l.word-index l.words)

use Rattle.std.proofs.Common.{◌≡◌, drop}
use Rattle.acng_conf.specs.Remaps.{after_files}
use Rattle.acng_conf.proofs.remap_line.RemapLine.add_files.Given as goal

abbrev pub invariant-loop-file : goal.invariant-loop-file
invariant-loop-file l = after_files l.section l.pattern l.fn.self l.lists ≡ after_files l.section l.pattern l.self (drop l.file-index l.lists)

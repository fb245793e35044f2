use Rattle.std.proofs.Common.{◌≡◌, drop}
use Rattle.std.specs.List.{list_any}
use Rattle.acng_conf.specs.Lines.{first_is}
use Rattle.acng_conf.proofs.warn.has_prefix.Given as goal

abbrev pub invariant-loop-i : goal.invariant-loop-i
invariant-loop-i l = list_any (λ e. first_is 47 e) l.entries ≡ list_any (λ e. first_is 47 e) (drop l.i l.entries)

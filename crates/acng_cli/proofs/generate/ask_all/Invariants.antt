use Rattle.std.proofs.Common.{◌≡◌, take}
use Rattle.acng_conf.specs.Settings.{rules_of}
use Rattle.acng_desk.specs.Keeps.{IsIdle}
use Rattle.acng_cli.specs.Generated.{AreAsked}
use Rattle.acng_cli.proofs.generate.ask_all.Given as goal

abbrev pub invariant-loop-i : goal.invariant-loop-i
invariant-loop-i g l = record {
  asked : AreAsked g.S.Site l.conf (take l.i l.files) l.fn.cache l.cache;
  idle : IsIdle l.cache.plain;
  rules : l.cache.plain.rules ≡ rules_of l.conf;
}

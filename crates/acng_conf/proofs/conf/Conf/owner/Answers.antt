use Rattle.std.proofs.Common.{◌≡◌, ◌<◌, ℕ, Option, IfSome, length, sym, subst, rules}
use Rattle.acng_conf.specs.Readings.{has_entry, owner}
use Rattle.acng_conf.proofs.Owners.{found_within}
use Rattle.acng_conf.proofs.conf.Conf.owner.Goals as goal

pub returns-clause-within : goal.returns-clause-within
returns-clause-within c =
    let entry = c.args.entry.now in
    let groups = c.args.self.now.groups in
    let is : c.copied.result ≡ owner entry groups = search rules in
    subst (λ (o : Option ℕ). IfSome o (λ k. k < length groups)) (sym is) (found_within (has_entry entry) groups)

use Rattle.std.proofs.Common.{◌+◌, List, ℕ, Option, take, drop, subst}
use Rattle.acng_base.specs.Cuts.{trim}
use Rattle.acng_conf.specs.Readings.{Gives, after_colon, after_key}
use Rattle.acng_conf.proofs.read.Reading.read_said.Goals as goal

pub returns-in-Some : goal.returns-in-Some
returns-in-Some c =
    let a = c.args in
    let text = a.text.now in
    let k = c.in-Some.k in
    let by_key : Gives (after_key a.self.lists.now a.self.line a.self.conf (take k text) c.after.result.now) c.read_pair.result =
    subst (λ (key : List ℕ). Gives (after_key a.self.lists.now a.self.line a.self.conf key c.after.result.now) c.read_pair.result) c.up_to.ensures c.read_pair.ensures in
    let by_value : Gives (after_key a.self.lists.now a.self.line a.self.conf (take k text) (trim (drop (k + 1) text))) c.read_pair.result =
    subst (λ (value : List ℕ). Gives (after_key a.self.lists.now a.self.line a.self.conf (take k text) value) c.read_pair.result) c.after.ensures by_key in
    subst (λ (o : Option ℕ). Gives (after_colon a.self.lists.now a.self.line a.self.conf text o) c.read_pair.result) c.in-Some.ensures.at by_value

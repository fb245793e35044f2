use Rattle.std.proofs.Common.{List, ℕ, subst}
use Rattle.acng_conf.specs.Keys.{group_name}
use Rattle.acng_conf.specs.Readings.{Gives, add_remap, after_value}
use Rattle.acng_conf.specs.declared.key.Key.{Key}
use Rattle.acng_conf.proofs.read.Reading.read_value.Goals as goal

pub returns-in-Group : goal.returns-in-Group
returns-in-Group c =
    let a = c.args in
    let named : Gives (add_remap a.self.lists.now a.self.line a.self.conf (group_name a.key.now) a.value.now) c.add_remap.result =
    subst (λ (name : List ℕ). Gives (add_remap a.self.lists.now a.self.line a.self.conf name a.value.now) c.add_remap.result) c.group_name.ensures c.add_remap.ensures in
    subst (λ (key : Key). Gives (after_value a.self.lists.now a.self.line a.self.conf a.key.now a.value.now key) c.add_remap.result) c.in-Group.ensures.key named

use Rattle.std.proofs.Common.{◌≡◌, ◌∙◌, rules}
use Rattle.std.specs.Map.Iter.{deref_pair}
use Rattle.std.proofs.lemmas.Map.Iter.{rest_more, rest_all}
use Rattle.acng_keeper.proofs.Listed.{moved_id, none_left, all_left}
use Rattle.acng_keeper.proofs.id_map.IdMap.add_ids.Goals as goal

pub loop-entry-preserved : goal.loop-entry-preserved
loop-entry-preserved g c = λ q.
    let before = c.loop-entry.entry-iterator in
    let first = rest_more deref_pair _ _ _ c.in-Some.entry c.in-Some.is c.next.ensures.steps in
    moved_id c.loop-entry.all c.put.new.self c.in-Some.entry.0.now c.in-Some.entry.1.now before c.next.new.self
    c.in_ok-put.ensures.ok first q
    ∙ c.loop-entry.invariant q

pub returns : goal.returns
returns g c = λ q.
    let start : c.into_iter-entry-iterator.result ≡ c.self.inside.rows.entries = search rules in
    let entries = c.self.inside.rows.entries in
    none_left c.loop-entry.all c.loop-entry.entry-iterator (rest_all deref_pair _ _ _ c.in-None.is c.next.ensures.steps) q
    ∙ c.loop-entry.invariant q
    ∙ all_left c.args.all.now c.into_iter-entry-iterator.result entries c.args.self.now start c.self.view_is q

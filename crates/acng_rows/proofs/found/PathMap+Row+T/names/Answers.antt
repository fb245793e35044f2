use Rattle.std.proofs.Common.{◌≡◌, ap, sym, subst, rules}
use Rattle.std.specs.Map.Iter.{deref_pair}
use Rattle.std.proofs.lemmas.Map.Iter.{rest_more, rest_all}
use Rattle.std.specs.Option.{IfSome}
use Rattle.acng_rows.specs.Rows.{Row}
use Rattle.acng_rows.specs.Starts.{IsSmall}
use Rattle.acng_rows.proofs.Names.{walk_begins, walked, first_small, walk_ids, walk_free}
use Rattle.acng_rows.proofs.found.PathMap+Row+T.names.Goals as goal

pub loop-entry-init : goal.loop-entry-init
loop-entry-init g c =
    let start : c.into_iter-entry-iterator.result ≡ c.self.inside.list.entries = search rules in
    walk_begins c.args.self.now c.self.inside.list.entries c.into_iter-entry-iterator.result c.new-ids.result c.self.view_is start
    c.new-ids.ensures
    c.iter-entry-items.ensures.found

pub note-requires : goal.note-requires
note-requires g c =
    subst (λ o. IfSome o (λ w. IsSmall w.label)) (sym (ap (λ (r : Row). r.whole) c.row.view_is))
    (first_small c.args.self.now c.in-Some.entry.0.now c.in-Some.entry.1.now c.loop-entry.entry-iterator c.next.new.self
    c.loop-entry.ids c.loop-entry.next_try
    (rest_more deref_pair _ _ _ c.in-Some.entry c.in-Some.is c.next.ensures.steps) c.requires.small c.loop-entry.invariant)

pub loop-entry-preserved : goal.loop-entry-preserved
loop-entry-preserved g c =
    walked c.args.self.now c.in-Some.entry.0.now c.in-Some.entry.1.now c.loop-entry.entry-iterator c.next.new.self c.loop-entry.ids
    c.note.new.ids
    c.loop-entry.next_try c.in_ok-next_try.next_try (rest_more deref_pair _ _ _ c.in-Some.entry c.in-Some.is c.next.ensures.steps)
    (search rules) (search rules) c.loop-entry.invariant

pub returns-clause-ids : goal.returns-clause-ids
returns-clause-ids g c =
    walk_ids c.args.self.now c.loop-entry.entry-iterator c.loop-entry.ids c.loop-entry.next_try
    (rest_all deref_pair _ _ _ c.in-None.is c.next.ensures.steps)
    c.loop-entry.invariant

pub returns-clause-next_try : goal.returns-clause-next_try
returns-clause-next_try g c =
    walk_free c.args.self.now c.loop-entry.entry-iterator c.loop-entry.ids c.loop-entry.next_try
    (rest_all deref_pair _ _ _ c.in-None.is c.next.ensures.steps)
    c.loop-entry.invariant

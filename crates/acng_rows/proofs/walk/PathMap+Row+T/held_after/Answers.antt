use Rattle.std.proofs.Common.{◌≡◌, ◌∙◌, ap, sym, subst, rules, Some, List, ℕ, is_some}
use Rattle.std.specs.Option.{option_copied}
use Rattle.std.specs.Ordering.{nat_cmp}
use Rattle.std.specs.Cmp.Lexicographic.{slice_cmp}
use Rattle.std.specs.List.{All}
use Rattle.std.specs.FinMap.{find}
use Rattle.std.specs.declared.ops.Bound.{Bound}
use Rattle.std.specs.declared.ops.Bound.TheVariants.{Unbounded}
use Rattle.std.specs.BTreeMap.Range.{IsInRange, entries_between}
use Rattle.std.specs.Map.Iter.{deref_pair}
use Rattle.std.proofs.lemmas.Map.Iter.{rest_more}
use Rattle.acng_rows.specs.Rows.{Row}
use Rattle.acng_rows.proofs.Walks.{Passes, walk_from, walk_past, walk_least}
use Rattle.acng_rows.proofs.walk.PathMap+Row+T.held_after.Goals as goal

pub loop-entry-init : goal.loop-entry-init
loop-entry-init g c =
    let after = option_copied c.args.after in
    let es = c.self.inside.list.entries in
    let rest = c.range-entry-items.result in
    let P : Bound (List ℕ) → Type 0 = λ b. All (λ (e : List ℕ × Row). IsInRange (slice_cmp nat_cmp) b Unbounded e.0 ×
    (find (slice_cmp nat_cmp) e.0 es ≡ Some e.1)) rest in
    let same : c.into_iter-entry-iterator.result ≡ rest = search rules in
    subst (Passes c.args.self.now after) (sym same)
    (walk_from c.args.self.now after es rest c.self.view_is c.range-entry-items.ensures.ordered
    (subst P c.start.ensures (c.range-entry-items.ensures.in_range tt).0)
    (c.range-entry-items.ensures.between tt ∙ ap (λ b. entries_between (slice_cmp nat_cmp) b Unbounded es) c.start.ensures))

pub returns-then-is_some-clause-least : goal.returns-then-is_some-clause-least
returns-then-is_some-clause-least g c =
    walk_least c.args.self.now (option_copied c.args.after) c.in-Some.entry.0.now c.in-Some.entry.1.now c.loop-entry.entry-iterator
    c.next.new.self
    (rest_more deref_pair _ _ _ c.in-Some.entry c.in-Some.is c.next.ensures.steps) c.loop-entry.invariant

pub loop-entry-preserved : goal.loop-entry-preserved
loop-entry-preserved g c =
    walk_past c.args.self.now (option_copied c.args.after) c.in-Some.entry.0.now c.in-Some.entry.1.now c.loop-entry.entry-iterator
    c.next.new.self
    (rest_more deref_pair _ _ _ c.in-Some.entry c.in-Some.is c.next.ensures.steps) c.loop-entry.invariant
    (ap (λ (r : Row). is_some r.whole) (sym c.row.view_is) ∙ sym c.is_some.ensures ∙ c.if-is_some.false)

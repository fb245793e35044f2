use Rattle.std.proofs.Common.{◌≡◌, ◌∙◌, ◌++◌, ◌∷◌, [], List, ap, sym, map, take}
use Rattle.acng_reach.specs.Caches.{listed_by}
use Rattle.acng_reach.specs.declared.index.Listed.{Listed}
use Rattle.acng_reach.proofs.Fronts.{map_push}
use Rattle.acng_reach.proofs.find.list_of.Goals as goal

pub loop-i-preserved : goal.loop-i-preserved
loop-i-preserved g c =
    let cache = g.B.Bodies.cache c.args.bodies.now in
    let folder = c.args.folder.now in
    let entries = c.entries-entries.result.now in
    let i = c.loop-i.i in
    let entry = c.index-entries-i.result in
    let old = c.loop-i.invariant in
    let front : List Listed = map (listed_by cache folder) (take i entries) in
    record {
      items = λ t.
          let listed = c.in-Ok.ensures.listed t ∙ ap (λ k. listed_by k folder entry) old.same in
          c.in-Ok-push.ensures.items
          ∙ ap (λ (xs : List Listed). xs ++ c.in-Ok.listed ∷ []) (old.items t)
          ∙ ap (λ (x : Listed). front ++ x ∷ []) listed
          ∙ sym (map_push (listed_by cache folder) entries i entry c.loop-i-test.true c.index-entries-i.is);
      same = c.in-Ok.ensures.same ∙ old.same;
      rests = c.in-Ok.ensures.rests ∙ old.rests;
    }

use Rattle.std.proofs.Common.{◌≡◌, ◌∙◌, sym, subst}
use Rattle.acng_keeper.specs.Kept.{Kept, stored}
use Rattle.acng_keeper.specs.Lists.{ListsBodies}
use Rattle.std.specs.Map.{keys_of}
use Rattle.acng_rows.specs.Rows.{Rows}
use Rattle.acng_rows.specs.Goods.{StandsFor}
use Rattle.acng_rows.specs.Starts.{Covers, Lists}
use Rattle.acng_rows.proofs.Starts.{stands_held}
use Rattle.acng_rows.proofs.Lists.{covered}
use Rattle.acng_rows.proofs.Names.{found_small}
use Rattle.acng_rows.proofs.find.find_rows.Goals as goal

pub sorted_out-requires : goal.sorted_out-requires
sorted_out-requires g c = record {
  small = found_small (g.K.Keeper.next c.list_bodies.new.self) c.in_ok-rows.rows
      c.in_ok-rows.ensures.found;
}

pub returns-clause-covers : goal.returns-clause-covers
returns-clause-covers g c = λ tells.
    let kept = g.K.Keeper.kept c.args.keeper.now in
    let rows = c.in_ok-rows.rows in
    let gone = c.in_ok-sorted_out.field-0.gone.items in
    let heads = c.in_ok-heads.heads in
    let bodies = c.in_ok-bodies.bodies in
    let same : g.K.Keeper.kept c.list_bodies.new.self ≡ kept = c.list_bodies.ensures.same ∙ c.list_heads.ensures.same in
    let all : ListsBodies kept.bodies kept.loose bodies = subst (λ (k : Kept). ListsBodies k.bodies k.loose bodies)
    c.list_heads.ensures.same (c.in_ok-bodies.ensures.listed tells) in
    let stands : StandsFor rows (stored kept) = subst (λ (k : Kept). StandsFor rows (stored k)) same (c.in_ok-rows.ensures.stands tells) in
    let lists : Lists rows gone (keys_of heads) bodies = c.in_ok-sorted_out.ensures.gone in
    subst (λ (r : Rows). Covers r gone kept) (sym c.in_ok-sorted_out.ensures.rows)
    (covered rows gone heads bodies kept lists (c.in_ok-heads.ensures.listed tells) all (stands_held rows (stored kept) stands)
    (g.met.K.Keeper.sound c.args.keeper.now tells).apart)

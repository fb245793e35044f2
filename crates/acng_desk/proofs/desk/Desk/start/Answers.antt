use Rattle.std.proofs.Common.{◌≡◌, ◌≤◌, List, refl, sym, subst, ap, ◌∙◌, true, arith}
use Rattle.std.specs.FinMap as map
use Rattle.std.specs.Ordering.{nat_cmp}
use Rattle.std.specs.Cmp.Lexicographic.{slice_cmp}
use Rattle.acng_keeper.specs.Kept.{stored}
use Rattle.acng_rows.specs.declared.removal.Removal.{Removal}
use Rattle.acng_rows.specs.Rows.{Rows}
use Rattle.acng_rows.specs.Goods.{StandsFor, IsAll}
use Rattle.acng_rows.proofs.Changes.{all_exact}
use Rattle.acng_rows.specs.Removals.{AreUnnamed}
use Rattle.acng_rows.specs.Starts.{Covers}
use Rattle.acng_rows.proofs.Lists.{all_left}
use Rattle.acng_desk.specs.House.{Parts, Parked, most_parts}
use Rattle.acng_desk.proofs.Startings.{covers_same, read_faithful, gone_faithful, still_stands, start_sound, read_clears, gone_clears}
use Rattle.acng_desk.proofs.Startings.{rest_clears}
use Rattle.acng_desk.proofs.desk.Desk.start.Goals as goal

pub returns-in-Err-clause-still : goal.returns-in-Err-clause-still
returns-in-Err-clause-still g c = λ told. read_faithful g.S.Site (g.K.Keeper.kept c.args.keeper) (g.K.Keeper.kept c.find_rows.new.keeper)
    (c.find_rows.ensures.same told) (c.requires.faithful told)

pub returns-then-count-from-clause-cause : goal.returns-then-count-from-clause-cause
returns-then-count-from-clause-cause g c = record {
  rows = c.in-Ok-find_rows.found.rows;
  stands = c.in-Ok-find_rows.ensures.stands;
  len = c.len-count.ensures.len;
  more = omega (arith, c.from.ensures, c.if-count-from.true);
}

pub returns-then-count-from-clause-still : goal.returns-then-count-from-clause-still
returns-then-count-from-clause-still g c = λ told. read_faithful g.S.Site (g.K.Keeper.kept c.args.keeper)
    (g.K.Keeper.kept c.find_rows.new.keeper)
    (c.find_rows.ensures.same told) (c.requires.faithful told)

pub returns-in-Err-remove_all-clause-still : goal.returns-in-Err-remove_all-clause-still
returns-in-Err-remove_all-clause-still g c = λ told. gone_faithful g.S.Site c.as_slice.result.now (g.K.Keeper.kept c.find_rows.new.keeper)
    (g.K.Keeper.kept c.remove_all.new.keeper)
    (c.remove_all.ensures.stops told) (c.remove_all.ensures.others told)
    (read_faithful g.S.Site (g.K.Keeper.kept c.args.keeper) (g.K.Keeper.kept c.find_rows.new.keeper) (c.find_rows.ensures.same told)
    (c.requires.faithful told))

pub returns-in-Err-clause-stops : goal.returns-in-Err-clause-stops
returns-in-Err-clause-stops g c = λ told.
    read_clears (g.K.Keeper.kept c.args.keeper) (g.K.Keeper.kept c.find_rows.new.keeper) (c.find_rows.ensures.same told)

pub returns-then-count-from-clause-stops : goal.returns-then-count-from-clause-stops
returns-then-count-from-clause-stops g c = λ told.
    read_clears (g.K.Keeper.kept c.args.keeper) (g.K.Keeper.kept c.find_rows.new.keeper) (c.find_rows.ensures.same told)

pub returns-in-Err-remove_all-clause-stops : goal.returns-in-Err-remove_all-clause-stops
returns-in-Err-remove_all-clause-stops g c = λ told.
    let rows : Rows = c.in-Ok-find_rows.found.rows in
    let e = c.in-Ok-find_rows.ensures in
    let none : AreUnnamed rows c.as_slice.result.now = subst (AreUnnamed rows) (sym c.as_slice.ensures.value) e.unnamed in
    gone_clears rows c.as_slice.result.now (g.K.Keeper.kept c.args.keeper) (g.K.Keeper.kept c.find_rows.new.keeper)
    (g.K.Keeper.kept c.remove_all.new.keeper) (c.find_rows.ensures.same told) (e.stands told) none (c.remove_all.ensures.stops told)

pub returns-in_default-clause-stops : goal.returns-in_default-clause-stops
returns-in_default-clause-stops g c = λ told rows stands. rest_clears (g.K.Keeper.kept c.args.keeper) rows stands

pub invariant_of-result : goal.invariant_of-result
invariant_of-result g c =
    let rows : Rows = c.in-Ok-find_rows.found.rows in
    let parts : Parts = c.new.result in
    let k = g.K.Keeper.kept c.find_rows.new.keeper in
    let l = g.K.Keeper.kept c.remove_all.new.keeper in
    let e = c.in-Ok-find_rows.ensures in
    let none : AreUnnamed rows c.as_slice.result.now = subst (AreUnnamed rows) (sym c.as_slice.ensures.value) e.unnamed in
    let empty : ◌≡◌ {A = Parts} parts map.empty = c.new.ensures in
    start_sound g.S.Site g.K.Keeper.tells (g.K.Keeper.next c.args.keeper) rows parts c.in-Ok-find_rows.found.next_try
    c.skip_past.new.right.next c.args.rows c.in-Ok.rules
    c.as_slice.result.now k l (g.K.Keeper.faults c.remove_all.new.keeper) (g.K.Keeper.next c.remove_all.new.keeper)
    (c.remove_all.ensures.same_next ∙ c.find_rows.ensures.same_next) c.requires.told e.found
    (λ q. ap (λ (m : Parts). map.get m q) empty ∙ map.get-empty {X = Parked} (slice_cmp nat_cmp) q)
    (subst (λ (m : Parts). map.len m ≤ most_parts) (sym empty) (omega (arith, map.len-empty (slice_cmp nat_cmp) Parked)))
    e.next_try (omega (arith, c.skip_past.ensures)) (omega (arith, c.from.ensures, c.len-count.ensures.len, c.if-count-from.false)) none
    (λ told. subst (StandsFor rows) (sym (c.find_rows.ensures.same told).stored_is) (e.stands told))
    c.remove_all.ensures.stops c.remove_all.ensures.others
    (λ told. read_faithful g.S.Site (g.K.Keeper.kept c.args.keeper) k (c.find_rows.ensures.same told) (c.requires.faithful told))

pub returns-clause-started : goal.returns-clause-started
returns-clause-started g c =
    let rows : Rows = c.in-Ok-find_rows.found.rows in
    let k = g.K.Keeper.kept c.find_rows.new.keeper in
    let l = g.K.Keeper.kept c.remove_all.new.keeper in
    let e = c.in-Ok-find_rows.ensures in
    let none : AreUnnamed rows c.as_slice.result.now = subst (AreUnnamed rows) (sym c.as_slice.ensures.value) e.unnamed in
    let still : (told : g.K.Keeper.tells ≡ true) → StandsFor rows (stored l) = λ told.
    still_stands rows c.as_slice.result.now k l none
    (subst (StandsFor rows) (sym (c.find_rows.ensures.same told).stored_is) (e.stands told)) (c.remove_all.ensures.stops told) in
    let all : (told : g.K.Keeper.tells ≡ true) → IsAll rows l = λ told.
    all_left rows c.as_slice.result.now k l
    (subst (λ (x : List Removal). Covers rows x k) (sym c.as_slice.ensures.value)
    (covers_same rows c.in-Ok-find_rows.found.gone.items (g.K.Keeper.kept c.args.keeper) k (c.find_rows.ensures.same told) (e.covers told)))
    (c.in_default-remove_all.ensures.stored told) (c.in_default-remove_all.ensures.loose told) in
    record {
      stands = e.stands;
      still = still;
      all = all;
      found = λ told. all_exact rows l (still told) (all told);
      stops = λ told. gone_clears rows c.as_slice.result.now (g.K.Keeper.kept c.args.keeper) k l (c.find_rows.ensures.same told)
          (e.stands told) none (c.remove_all.ensures.stops told);
      idle = record { each = e.found.outs };
      parts = c.new.ensures;
      free = c.in-Ok-find_rows.found.next_try;
      above = e.next_try;
      next_try = c.skip_past.ensures;
      next = c.remove_all.ensures.same_next ∙ c.find_rows.ensures.same_next;
      limit_is = refl;
      rules_are = c.in-Ok.ensures;
    }

-- What a run makes of the bodies of a desk is what the law says of a run.
use Rattle.std.proofs.Common.{◌≡◌, ℕ, Bool, true, false, Option, Some, None, option_map, cond, refl, ap, ◌∙◌}
use Rattle.std.specs.FinMap as map
use Rattle.acng_rows.specs.declared.row.Whole.{Whole}
use Rattle.acng_rows.specs.Rows.{Row, whole_in}
use Rattle.acng_desk.specs.House.{Plain}
use Rattle.acng_expire.specs.Runs.{new_mark, is_over, after_held, IsDone}
use Rattle.acng_expire.specs.Places.{Place, place_at, whole_of, seconds, remarked, is_due, emptied, expired}
use Rattle.acng_expire.specs.Rounds.{Run}
use Rattle.acng_expire.specs.Expirations.{IsFinished}
use Rattle.acng_expire.specs.Laws.{body_of, bodies_of, AreRuns}
use Rattle.acng_expire.proofs.Rounds.{seconds_of, emptied_bare}
use Rattle.acng_expire.proofs.Ends.{plain_is}

module _ (limit now : ℕ) (reached : Bool) where
  module _ (row : Row) (w : Whole) where
    abbrev after : Option Row
    after = Some (record { whole = Some (remarked now reached w); out = row.out })

    held : (b : Bool) → Some (body_of (remarked now reached w)) ≡ Some (record { id = w.id; mark = new_mark reached now (seconds w.mark) })
    held b = ap (λ m. Some (record { id = w.id; mark = m })) (seconds_of (new_mark reached now (seconds w.mark)))

    by_due : (b : Bool) (part : Place)
        → option_map body_of (whole_of (cond b (emptied (record part { row = after })) (record part { row = after })))
        ≡ cond b None (Some (record { id = w.id; mark = new_mark reached now (seconds w.mark) }))
    by_due true part = ap (option_map body_of) (emptied_bare after)
    by_due false part = held false

    due_is : is_due limit now (Some (remarked now reached w)) ≡ is_over limit now (new_mark reached now (seconds w.mark))
    due_is = ap (is_over limit now) (seconds_of (new_mark reached now (seconds w.mark)))

  by_whole : (row : Row) (o : Option Whole) (part : Place)
      → option_map body_of (whole_of (expired limit now reached (record part { row = Some (record { whole = o; out = row.out }) })))
      ≡ after_held limit now reached (option_map body_of o)
  by_whole row None part = refl
  by_whole row (Some w) part =
      by_due row w (is_due limit now (Some (remarked now reached w))) part
      ∙ ap (λ b. cond b None (Some (record { id = w.id; mark = new_mark reached now (seconds w.mark) }))) (due_is row w)

  by_row : (o : Option Row) (part : Place)
      → option_map body_of (whole_of (expired limit now reached (record part { row = o })))
      ≡ after_held limit now reached (option_map body_of (whole_in o))
  by_row None part = refl
  by_row (Some r) part = by_whole r r.whole part

done : (r : Run) (old new : Plain) (removed marked : ℕ) → IsFinished r old new removed marked
    → IsDone r.limit r.now r.reached (bodies_of old) (bodies_of new)
done r old new removed marked f = record {
  each = λ q. ap (λ p. option_map body_of (whole_of p)) (f.places.each q)
      ∙ by_row r.limit r.now (r.reached q) (map.get old.rows q) (place_at old q);
  next = ap (λ (p : Plain). p.next_id) f.places.others;
}

pub are_runs : AreRuns
are_runs = record { done = done; aborted = λ tells old new same. ap bodies_of (plain_is tells old new same) }

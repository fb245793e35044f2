-- The worked rows: a threshold of four days is 345,600 seconds.
use Rattle.std.proofs.Common.{◌≡◌, ℕ, Bool, true, false, List, [], ◌∷◌, Option, Some, None, codes, take, refl}
use Rattle.acng_base.specs.declared.clock.Moment.{Moment}
use Rattle.acng_head.specs.declared.head.Label.TheVariants.{Fetched}
use Rattle.acng_rows.specs.declared.row.Whole.{Whole}
use Rattle.acng_expire.specs.Runs.{Row, after_held}
use Rattle.acng_expire.specs.Places.{Place, whole_of, is_due, expired}
use Rattle.acng_expire.specs.Rounds.{Run, with_marks, with_removals, how_many}
use Rattle.acng_expire.specs.Expirations.{is_broken}

-- the row after runs at these moments, at which the path was reached or not
abbrev after_runs : ℕ → Option Row → List (ℕ × Bool) → Option Row
after_runs limit row [] = row
after_runs limit row (e ∷ es) = after_runs limit (after_held limit e.0 e.1 row) es

abbrev new : Option Row
new = Some (record { id = 1; mark = None })

row_stays : after_runs 345600 new ((1000000, false) ∷ (1345600, false) ∷ []) ≡ Some (record { id = 1; mark = Some 1000000 })
row_stays = refl

row_goes : after_runs 345600 new ((1000000, false) ∷ (1345600, false) ∷ (1345601, false) ∷ []) ≡ None
row_goes = refl

row_again : after_runs 345600 new ((0, false) ∷ (100, true) ∷ (200, false) ∷ (345701, false) ∷ [])
    ≡ Some (record { id = 1; mark = Some 200 })
row_again = refl

row_again_goes : after_runs 345600 new ((0, false) ∷ (100, true) ∷ (200, false) ∷ (345701, false) ∷ (345801, false) ∷ [])
    ≡ None
row_again_goes = refl

-- a clock that went back: the lesser moment counts from then on
row_back : after_runs 345600 new ((1000, false) ∷ (10, false) ∷ (345611, false) ∷ []) ≡ None
row_back = refl

-- ---- the places of a desk

abbrev at : ℕ → Moment
at n = record { 0 = n }

abbrev held : Option Moment → Place
held mark = record {
  row = Some (record {
    whole = Some (record { id = 1; label = Fetched 0 0; size = 3; tag = None; modified = None; checked = at 5; mark = mark });
    out = None;
  });
  part = None;
}

abbrev nothing : Place
nothing = record { row = None; part = None }

place_stays : expired 345600 1345600 false (held (Some (at 1000000))) ≡ held (Some (at 1000000))
place_stays = refl

place_goes : expired 345600 1345601 false (held (Some (at 1000000))) ≡ nothing
place_goes = refl

place_marked : expired 345600 1000000 false (held None) ≡ held (Some (at 1000000))
place_marked = refl

place_reached : expired 345600 1345601 true (held (Some (at 1000000))) ≡ held None
place_reached = refl

place_free : expired 345600 1345601 false nothing ≡ nothing
place_free = refl

-- a ticket that is out keeps its row, without the body
abbrev led : Option Whole → Place
led whole = record {
  row = Some (record { whole = whole; out = Some (record { first = 16; fresh = 2; part = None; was = None }) });
  part = None;
}

abbrev marked : Whole
marked = record { id = 1; label = Fetched 0 0; size = 3; tag = None; modified = None; checked = at 5; mark = Some (at 0) }

place_led : expired 345600 1345601 false (led (Some marked)) ≡ led None
place_led = refl

-- ---- three bodies that are due, and the second removal is refused

abbrev paths : List (List ℕ)
paths = codes "a" ∷ codes "b" ∷ codes "c" ∷ []

abbrev due : List ℕ → Place
due path = held (Some (at 0))

lost_first : with_removals 345600 345601 due (take 2 paths) (codes "a") ≡ nothing
lost_first = refl

lost_second : with_removals 345600 345601 due (take 2 paths) (codes "b") ≡ nothing
lost_second = refl

lost_third : with_removals 345600 345601 due (take 2 paths) (codes "c") ≡ held (Some (at 0))
lost_third = refl

lost_count : how_many (λ path. is_due 345600 345601 (whole_of (due path))) (take 1 paths) ≡ 1
lost_count = refl

-- the second mark is refused: the first path has its own
abbrev run : Run
run = record { limit = 345600; now = 7; reached = λ path. false; paths = paths }

marked_first : with_marks run (λ path. held None) (take 1 paths) (codes "a") ≡ held (Some (at 7))
marked_first = refl

marked_second : with_marks run (λ path. held None) (take 1 paths) (codes "b") ≡ held None
marked_second = refl

-- ---- problems

no_limit : is_broken 0 9 ≡ false
no_limit = refl

at_limit : is_broken 2 2 ≡ true
at_limit = refl

below_limit : is_broken 2 1 ≡ false
below_limit = refl

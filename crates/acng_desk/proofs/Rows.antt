-- Worked rows: what a desk answers and what a ticket leaves, on literals.
use Rattle.std.proofs.Common.{◌≡◌, ℕ, ◌-◌, ◌^◌, true, false, [], ◌∷◌, Some, None, Option, refl}
use Rattle.acng_base.specs.declared.clock.Moment.{Moment}
use Rattle.acng_class.specs.declared.class.Class.TheVariants.{Solid, Volatile}
use Rattle.acng_conf.specs.Settings.{Rules}
use Rattle.acng_head.specs.declared.head.Label.TheVariants.{Fetched}
use Rattle.acng_grow.specs.declared.facts.Facts.{Facts}
use Rattle.acng_grow.specs.declared.facts.Stage.{Stage}
use Rattle.acng_grow.specs.declared.facts.Stage.TheVariants as stage
use Rattle.acng_grow.specs.declared.why.Shown.{Shown}
use Rattle.acng_grow.specs.declared.why.Shown.TheVariants as shown
use Rattle.acng_grow.specs.Grown.{Grown}
use Rattle.acng_rows.specs.declared.row.Whole.{Whole}
use Rattle.acng_rows.specs.Rows.{Row}
use Rattle.acng_desk.specs.declared.case.Case.TheVariants as case
use Rattle.acng_desk.specs.declared.ending.Ending.TheVariants as ending
use Rattle.acng_desk.specs.House.{Parked, Spot}
use Rattle.acng_desk.specs.Tickets.{Ticketed}
use Rattle.acng_desk.specs.Begins.{begin_case, info_of, load_of}
use Rattle.acng_desk.specs.Settles.{end_of, whole_after, part_after}

abbrev at : ℕ → Moment
at n = record { 0 = n }

abbrev rules : Rules
rules = record {
  threshold_days = 4;
  abort_limit = 1;
  offline = false;
  fresh_age = 27;
  redir_max = 5;
  pfile_pattern = None;
  vfile_pattern = None;
}

-- ---- how a call is let in

-- a whole body that was last checked then
abbrev checked : ℕ → Whole
checked now = record {
  id = 0;
  label = Fetched 0 0;
  size = 3;
  tag = None;
  modified = Some (at 1000);
  checked = at now;
  mark = None;
}

abbrev holding : Whole → Option Row
holding w = Some (record { whole = Some w; out = None })

abbrev spot : Option Row → Spot
spot row = record { row = row; part = None; crowded = false; roomy = true; next_try = 16; next_id = 1; rules = rules }

first_use : begin_case (spot None) Solid 1000 ≡ case.Lead
first_use = refl

second_use : begin_case (spot (holding (checked 1000))) Solid 9999 ≡ case.Keep
second_use = refl

-- a volatile file is fresh for 27 seconds, and not at a moment before it was checked
as_old_as_it_may_be : begin_case (spot (holding (checked 1000))) Volatile 1027 ≡ case.Keep
as_old_as_it_may_be = refl

a_second_older : begin_case (spot (holding (checked 1000))) Volatile 1028 ≡ case.Lead
a_second_older = refl

a_clock_gone_back : begin_case (spot (holding (checked 1000))) Volatile 999 ≡ case.Lead
a_clock_gone_back = refl

-- the rows are at their limit
no_room : begin_case (record (spot None) { crowded = true }) Solid 1000 ≡ case.Full
no_room = refl

room_for_what_has_a_row : begin_case (record (spot (holding (checked 1000))) { crowded = true }) Volatile 1028 ≡ case.Lead
room_for_what_has_a_row = refl

-- no numbers are left
worn_tries : begin_case (record (spot None) { next_try = 2 ^ 63 }) Solid 1000 ≡ case.Worn
worn_tries = refl

last_tries : begin_case (record (spot None) { next_try = 2 ^ 63 - 16 }) Solid 1000 ≡ case.Lead
last_tries = refl

worn_ids : begin_case (record (spot None) { next_id = 2 ^ 63 }) Solid 1000 ≡ case.Worn
worn_ids = refl

held_though_worn : begin_case (record (spot (holding (checked 1000))) { next_try = 2 ^ 63 }) Solid 1000 ≡ case.Keep
held_though_worn = refl

-- no origin is asked
offline_and_not_held : begin_case (record (spot None) { rules = record rules { offline = true } }) Solid 1000 ≡ case.Offline
offline_and_not_held = refl

offline_at_any_age : begin_case (record (spot (holding (checked 1000))) { rules = record rules { offline = true } }) Volatile 999999 ≡
    case.Keep
offline_at_any_age = refl

offline_before_full : begin_case (record (spot None) { crowded = true; rules = record rules { offline = true } }) Solid 1000 ≡ case.Offline
offline_before_full = refl

-- a ticket is out
joined : begin_case (spot (Some (record { whole = Some (checked 1000); out = Some (load_of (spot None)) }))) Solid 1000 ≡ case.Join
joined = refl

-- ---- how a ticket ends

-- a ticket of sixteen tries from 0 on, with this whole and this partial body
abbrev ticket : Option Whole → Option Parked → Ticketed
ticket w part = record {
  info = info_of [] ([] ∷ []) (at 1028) (record {
    row = Some (record { whole = w; out = None });
    part = part;
    crowded = false;
    roomy =
        true;
    next_try = 0;
    next_id = 5;
    rules = rules;
  });
  left = 15;
  fresh = None;
  old_body = None;
  part_body = part;
}

-- the house with that ticket out
abbrev out : Option Whole → Option Parked → Spot
out w part = record {
  row = Some (record {
    whole = w;
    out = Some (load_of (record {
      row = Some (record { whole = w; out = None });
      part = part;
      crowded = false;
      roomy = true;
      next_try =
          0;
      next_id = 5;
      rules = rules;
    }));
  });
  part = None;
  crowded = false;
  roomy = true;
  next_try = 16;
  next_id = 6;
  rules = rules;
}

abbrev tagged : Facts
tagged = record { total = Some 3; modified = None; tag = Some (34 ∷ 120 ∷ 34 ∷ []) }

abbrev untagged : Facts
untagged = record { total = Some 3; modified = None; tag = None }

abbrev body : Stage → Facts → ℕ → Option Shown → Grown
body stage facts size shown = record {
  path = [];
  seen = record { url = Some []; stage = stage; label = Some (Fetched 0 0); facts = facts; size = size; shown = shown };
  file = Some (record { number = 5; size = size; bytes = []; writable = true }, record { count = 0; may_fail = false });
}

kept : end_of (out None None) (ticket None None) (body stage.Whole untagged 3 None) ≡ ending.Keep
kept = refl

kept_as : whole_after ending.Keep (out None None) (ticket None None) (body stage.Whole untagged 3 None)
    ≡ Some (record { id = 5; label = Fetched 0 0; size = 3; tag = None; modified = None; checked = at 1028; mark = None })
kept_as = refl

-- a cut body waits only with a strong tag, a known total, a byte, room and no fault of the keeper
parks : end_of (out None None) (ticket None None) (body stage.Cut tagged 2 (Some (shown.Origin 0))) ≡ ending.Park
parks = refl

parks_as : part_after ending.Park (ticket None None) (body stage.Cut tagged 2 (Some (shown.Origin 0)))
    ≡ Some (record { handle = record { number = 5; size = 2; bytes = []; writable = true }; url = []; label = Fetched 0 0; facts = tagged })
parks_as = refl

without_a_tag : end_of (out None None) (ticket None None) (body stage.Cut untagged 2 (Some (shown.Origin 0))) ≡ ending.Drop
without_a_tag = refl

without_a_byte : end_of (out None None) (ticket None None) (body stage.Cut tagged 0 (Some (shown.Origin 0))) ≡ ending.Drop
without_a_byte = refl

after_a_slip : end_of (out None None) (ticket None None) (body stage.Cut tagged 2 (Some (shown.Keeper (record { call = 7; attempt = 0 }))))
    ≡ ending.Drop
after_a_slip = refl

the_65th : end_of (record (out None None) { roomy = false }) (ticket None None) (body stage.Cut tagged 2 (Some (shown.Origin 0))) ≡
    ending.Drop
the_65th = refl

-- an old body that is still the file
abbrev same_body : Grown
same_body = record {
  path = [];
  seen = record { url = None; stage = stage.Same; label = Some (Fetched 0 0); facts = untagged; size = 3; shown = None };
  file = Some (record { number = 0; size = 3; bytes = []; writable = false }, record { count = 0; may_fail = false });
}

same : end_of (out (Some (checked 1000)) None) (ticket (Some (checked 1000)) None) same_body ≡ ending.Same
same = refl

same_as : whole_after ending.Same (out (Some (checked 1000)) None) (ticket (Some (checked 1000)) None) same_body ≡ Some (checked 1028)
same_as = refl

-- an import came meanwhile
same_of_another : end_of (record (out (Some (checked 1000)) None) {
  row =
      Some (record {
        whole = Some (record (checked 1010) { id = 9 });
        out =
            Some (load_of (record {
              row = holding (checked 1000);
              part = None;
              crowded = false;
              roomy = true;
              next_try = 0;
              next_id = 5;
              rules =
                  rules;
            }));
      });
})
    (ticket (Some (checked 1000)) None) same_body ≡ ending.Drop
same_of_another = refl

-- a refused body leaves the partial body as it was
abbrev waiting : Parked
waiting = record { handle = record { number = 3; size = 2; bytes = []; writable = true }; url = []; label = Fetched 0 0; facts = tagged }

abbrev refused : Grown
refused = record {
  path = [];
  seen = record { url = None; stage = stage.Refused; label = None; facts = untagged; size = 0; shown = Some (shown.Gone 0) };
  file = None;
}

goes_back : end_of (out None (Some waiting)) (ticket None (Some waiting)) refused ≡ ending.Back
goes_back = refl

nothing_to_go_back : end_of (out None None) (ticket None None) refused ≡ ending.Drop
nothing_to_go_back = refl

-- another ticket than the one that is out, and none
another : end_of (record (out None None) {
  row =
      Some (record { whole = None; out = Some (record { first = 16; fresh = 5; part = None; was = None }) });
})
    (ticket None None) (body stage.Whole untagged 3 None) ≡ ending.Unknown
another = refl

none : end_of (spot None) (ticket None None) (body stage.Whole untagged 3 None) ≡ ending.Unknown
none = refl

-- Of a ticket as a desk gives it out, nothing was taken.
use Rattle.std.proofs.Common.{◌≡◌, ℕ, Bool, List, Option, Some, None, is_some, option_map, refl, ap, sym, ◌∙◌}
use Rattle.acng_base.specs.declared.clock.Moment.{Moment}
use Rattle.acng_keeper.specs.Handles.{Handle}
use Rattle.acng_keeper.specs.Kept.{Kept}
use Rattle.acng_rows.specs.declared.row.Whole.{Whole}
use Rattle.acng_rows.specs.Rows.{whole_in}
use Rattle.acng_desk.specs.House.{Parked, Spot}
use Rattle.acng_desk.specs.declared.ticket.Info.{Info}
use Rattle.acng_desk.specs.Tickets.{Ticketed, old_of, file_of, IsUnused}
use Rattle.acng_desk.specs.Begins.{OldBodyAs, TicketAs}

old_there : (tells : Bool) (k : Kept) (w : Option Whole) (h : Option Handle) → OldBodyAs tells k w h
    → is_some h ≡ is_some (option_map old_of w)
old_there tells k None None o = refl
old_there tells k None (Some h) o = absurd o
old_there tells k (Some w) None o = absurd o
old_there tells k (Some w) (Some h) o = refl

part_there : (o : Option Parked) → is_some o ≡ is_some (option_map file_of o)
part_there None = refl
part_there (Some p) = refl

pub given_unused : (tells : Bool) (k : Kept) (spot : Spot) (path : List ℕ) (origins : List (List ℕ)) (now : Moment) (t : Ticketed)
    → TicketAs tells k spot path origins now t → IsUnused t
given_unused tells k spot path origins now t given = record {
  left = given.left;
  fresh = ap is_some given.fresh_body;
  old_body = old_there tells k (whole_in spot.row) t.old_body given.old_body ∙ ap (λ (i : Info). is_some i.was) (sym given.info);
  part_body = ap is_some given.part_body ∙ part_there spot.part ∙ ap (λ (i : Info). is_some i.part) (sym given.info);
}

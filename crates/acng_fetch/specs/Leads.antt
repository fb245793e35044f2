-- A ticket and the body that is loaded by it.
use Rattle.std.specs.Prelude.{◌≡◌, ◌≢◌, ◌+◌, ◌-◌, Bool, true, false, not, ◌&&◌, Option, None, Some, is_some, IfSome, option_map}
use Rattle.acng_grow.specs.declared.facts.Stage.TheVariants as stage
use Rattle.acng_keeper.specs.declared.body.BodyId.{BodyId}
use Rattle.acng_grow.specs.declared.facts.Seen.{Seen}
use Rattle.acng_grow.specs.Grown.{Grown, number_of}
use Rattle.acng_desk.specs.Tickets.{Ticketed, errand_of}
use Rattle.acng_desk.specs.Settles.{Ends, IsOwn, part_id, was_id}
use Rattle.acng_fetch.specs.Stocks.{Stock}

pub record Lead : Type 0 where
  pub ticket : Ticketed
  pub grown : Grown

abbrev pub stock_of : Lead → Stock
stock_of l = record {
  path = l.grown.path;
  errand = errand_of l.ticket.info;
  first = l.ticket.info.first;
  next = l.ticket.info.first + 16 - l.ticket.left;
  left = l.ticket.left;
  info = l.ticket.info;
}

abbrev pub same_some : Bool → Bool → Bool
same_some true b = b
same_some false b = not b

-- no file was taken from the ticket
abbrev pub is_full : Ticketed → Bool
is_full t = is_some t.fresh && same_some (is_some t.info.was) (is_some t.old_body) && same_some (is_some t.info.part) (is_some t.part_body)

-- the body is for the ticket's path, its file is one of the ticket's, and each file that was taken is it
pub record IsLed (l : Lead) : Type 0 where
  pub path : l.grown.path ≡ l.ticket.info.path
  pub file : l.grown.seen.stage ≢ stage.Same → IfSome (number_of l.grown) (IsOwn l.ticket.info)
  pub file_same : l.grown.seen.stage ≡ stage.Same → number_of l.grown ≡ was_id l.ticket.info
  pub taken_new : l.ticket.fresh ≡ None → number_of l.grown ≡ Some l.ticket.info.fresh
  pub taken_part : l.ticket.part_body ≡ None → IfSome (part_id l.ticket.info) (λ id. number_of l.grown ≡ Some id)
  pub taken_old : l.ticket.old_body ≡ None → IfSome (was_id l.ticket.info) (λ id. number_of l.grown ≡ Some id)

-- ---- behind a lock

-- the body has this file
abbrev pub IsFiled : Option BodyId → Grown → Type 0
IsFiled file g = number_of g ≡ option_map (λ (id : BodyId). id.0) file

-- a body that a look under its lock finds with the ticket's path, with this file and to be seen so is one that a desk settles
abbrev pub EndsAs : Ticketed → Option BodyId → Seen → Type 0
EndsAs t file plan = (g : Grown) → g.path ≡ t.info.path → IsFiled file g → g.seen ≡ plan → Ends t g

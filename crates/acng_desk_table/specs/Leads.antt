-- What is said of a ticket that is given out, and of a body that is loaded by it.
use Rattle.std.specs.Prelude.{◌≡◌, ◌⊎◌, None, Some, IfSome, ⊤}
use Rattle.acng_desk.specs.declared.begin.Begun.{Begun}
use Rattle.acng_desk.specs.declared.begin.Begun.TheVariants as begun
use Rattle.acng_desk.specs.Settles.{IsAmong, IsOwn, part_id, was_id}
use Rattle.acng_desk.specs.Tickets.{Ticketed}
use Rattle.acng_grow.specs.declared.facts.Stage.{Stage}
use Rattle.acng_grow.specs.declared.facts.Stage.TheVariants as stage
use Rattle.acng_grow.specs.Grown.{Grown, number_of}

-- where a ticket is given out, it is so
abbrev pub IfLead : {S F P T X : Type 0} → Begun S F P T X → (Ticketed → Type 0) → Type 0
IfLead (begun.Kept held e) A = ⊤
IfLead (begun.Join token e) A = ⊤
IfLead (begun.Lead ticket e) A = A ticket
IfLead (begun.Offline b) A = ⊤
IfLead (begun.Full b) A = ⊤
IfLead (begun.Worn b) A = ⊤
IfLead (begun.KeeperFault p) A = ⊤
IfLead begun.NoMemory A = ⊤

-- the body is for the ticket's path, its file is the new or the partial one, and each file that was taken is it
pub record IsLoading (t : Ticketed) (g : Grown) : Type 0 where
  pub path : g.path ≡ t.info.path
  pub file : IfSome (number_of g) (IsOwn t.info)
  pub taken_new : t.fresh ≡ None → number_of g ≡ Some t.info.fresh
  pub taken_part : t.part_body ≡ None → IfSome (part_id t.info) (λ id. number_of g ≡ Some id)
  pub taken_old : t.old_body ≡ None → IfSome (was_id t.info) (λ id. number_of g ≡ Some id)
  pub label : IfSome g.seen.label (IsAmong t.info.first)

-- it ended, whole or cut
abbrev pub IsOver : Stage → Type 0
IsOver st = (st ≡ stage.Whole) ⊎ (st ≡ stage.Cut)

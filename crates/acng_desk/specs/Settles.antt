-- How a desk settles a ticket.
use Rattle.std.specs.Prelude.{◌≡◌, ◌≢◌, ◌⊎◌, ◌==◌, ◌≤◌, ◌<◌, ◌+◌, ℕ, Bool, true, false, not, ◌&&◌, ◌||◌, cond, nat_lt, List}
use Rattle.std.specs.Prelude.{is_some, Option, None, Some, option_map, IfSome, ⊤}
use Rattle.std.specs.FinMap as map
use Rattle.acng_base.specs.declared.clock.Moment.{Moment}
use Rattle.acng_head.specs.declared.head.Label.{Label}
use Rattle.acng_head.specs.declared.head.Label.TheVariants.{Fetched, Imported}
use Rattle.acng_keeper.specs.Slips.{Faults, HasFailed}
use Rattle.acng_site.specs.declared.site.Site.{Ghosts as SiteGhosts}
use Rattle.acng_site.specs.Honest.{heard}
use Rattle.acng_grow.specs.declared.facts.Facts.{Facts}
use Rattle.acng_grow.specs.declared.facts.Seen.{Seen}
use Rattle.acng_grow.specs.declared.facts.Stage.{Stage}
use Rattle.acng_grow.specs.declared.facts.Stage.TheVariants as stage
use Rattle.acng_grow.specs.declared.why.Shown.{Shown}
use Rattle.acng_grow.specs.declared.why.Shown.TheVariants as shown
use Rattle.acng_grow.specs.Grown.{Grown, File, number_of, closed_file}
use Rattle.acng_grow.specs.Effects.{opening, runs}
use Rattle.acng_grow.specs.Download.{download, left_of, begins}
use Rattle.acng_rows.specs.declared.row.Whole.{Whole}
use Rattle.acng_rows.specs.declared.stamp.Stamp.TheVariants.{Checked}
use Rattle.acng_rows.specs.Rows.{Rows, Load, whole_in, out_in, stamped_in}
use Rattle.acng_desk.specs.declared.ending.Ending.{Ending}
use Rattle.acng_desk.specs.declared.ending.Ending.TheVariants as ending
use Rattle.acng_desk.specs.declared.settle.Settled.{Settled}
use Rattle.acng_desk.specs.declared.settle.Settled.TheVariants as settled
use Rattle.acng_desk.specs.declared.ticket.OldFile.{OldFile}
use Rattle.acng_desk.specs.declared.ticket.PartFile.{PartFile}
use Rattle.acng_desk.specs.House.{Parked, Parts, Plain, Spot, spot_at}
use Rattle.acng_desk.specs.declared.ticket.Info.{Info}
use Rattle.acng_desk.specs.Tickets.{Ticketed, errand_of}

-- ---- what is asked of a ticket and the body that was loaded by it

abbrev pub part_id : Info → Option ℕ
part_id i = option_map (λ (p : PartFile). p.id) i.part

abbrev pub was_id : Info → Option ℕ
was_id i = option_map (λ (o : OldFile). o.id) i.was

abbrev pub was_label : Info → Option Label
was_label i = option_map (λ (o : OldFile). o.label) i.was

-- what the row of its path says of a ticket
abbrev pub load_in : Info → Load
load_in i = record { first = i.first; fresh = i.fresh; part = part_id i; was = was_label i }

-- a label of downloads, the last of them among the sixteen
abbrev pub IsAmong : ℕ → Label → Type 0
IsAmong first (Fetched a b) = (first ≤ b) × (b < first + 16)
IsAmong first (Imported hash size) = ⊥

-- the id of the ticket's new or partial body
abbrev pub IsOwn : Info → ℕ → Type 0
IsOwn i id = (id ≡ i.fresh) ⊎ (Some id ≡ part_id i)

-- the body ended, and is made of the ticket's bodies
pub record Ends (t : Ticketed) (g : Grown) : Type 0 where
  pub path : g.path ≡ t.info.path
  pub opened : g.seen.stage ≢ stage.Opening
  pub ended : g.seen.stage ≢ stage.Running
  -- its file is the old body where that is still the file, else the new or the partial one
  pub file : g.seen.stage ≢ stage.Same → IfSome (number_of g) (IsOwn t.info)
  pub file_same : g.seen.stage ≡ stage.Same → number_of g ≡ was_id t.info
  -- each body that was taken is the file
  pub taken_new : t.fresh ≡ None → number_of g ≡ Some t.info.fresh
  pub taken_part : t.part_body ≡ None → IfSome (part_id t.info) (λ id. number_of g ≡ Some id)
  pub taken_old : t.old_body ≡ None → IfSome (was_id t.info) (λ id. number_of g ≡ Some id)
  -- its label is the old one, or ends among the sixteen attempts
  pub label : g.seen.stage ≢ stage.Same → IfSome g.seen.label (IsAmong t.info.first)
  pub label_same : g.seen.stage ≡ stage.Same → g.seen.label ≡ was_label t.info

-- the download of a ticket, with so many tries, ends with this to be seen and so many tries left
pub record IsDownload {S : Type 0} (s : SiteGhosts S) (tries : ℕ) (i : Info) (left : ℕ) (g : Seen) : Type 0 where
  pub seen : runs (errand_of i) (download (heard s) (errand_of i) tries i.first) opening ≡ g
  pub rest : left_of (heard s) (errand_of i) tries i.first (begins i.origins (errand_of i).part) ≡ left

-- a keeper's slip or want of memory closed the body
abbrev pub IsFault : Option Shown → Type 0
IsFault None = ⊥
IsFault (Some (shown.Origin n)) = ⊥
IsFault (Some (shown.Early n)) = ⊥
IsFault (Some (shown.Bad n at)) = ⊥
IsFault (Some (shown.Status n status)) = ⊥
IsFault (Some (shown.TlsRedirect n)) = ⊥
IsFault (Some (shown.Redirects n)) = ⊥
IsFault (Some (shown.Gone n)) = ⊥
IsFault (Some (shown.Keeper mark)) = ⊤
IsFault (Some shown.NoMemory) = ⊤

-- the body ended as the ticket's download does, or by such a fault
abbrev pub IsLoaded : {S : Type 0} → SiteGhosts S → Ticketed → Seen → Type 0
IsLoaded s t g = IsDownload s 16 t.info t.left g ⊎ IsFault g.shown

-- ---- which case fits

abbrev pub same_id : Option ℕ → Option ℕ → Bool
same_id None None = true
same_id None (Some n) = false
same_id (Some m) None = false
same_id (Some m) (Some n) = m == n

-- the ticket that is out is this one
abbrev pub is_out : Option Load → Info → Bool
is_out None i = false
is_out (Some o) i = (o.first == i.first) && (o.fresh == i.fresh) && same_id o.part (part_id i)

abbrev pub id_of : Option Whole → Option ℕ
id_of w = option_map (λ (x : Whole). x.id) w

abbrev pub is_keepers : Option Shown → Bool
is_keepers None = false
is_keepers (Some (shown.Origin n)) = false
is_keepers (Some (shown.Early n)) = false
is_keepers (Some (shown.Bad n at)) = false
is_keepers (Some (shown.Status n status)) = false
is_keepers (Some (shown.TlsRedirect n)) = false
is_keepers (Some (shown.Redirects n)) = false
is_keepers (Some (shown.Gone n)) = false
is_keepers (Some (shown.Keeper mark)) = true
is_keepers (Some shown.NoMemory) = false

-- a later download can go on with the cut body
abbrev pub can_park : Spot → Grown → Bool
can_park s g =
    is_some g.file && is_some g.seen.facts.tag && is_some g.seen.facts.total && nat_lt 0 g.seen.size && not (is_keepers g.seen.shown)
    && s.roomy

abbrev pub by_stage : Spot → Ticketed → Grown → Stage → Ending
by_stage s t g stage.Opening = ending.Drop
by_stage s t g stage.Running = ending.Drop
by_stage s t g stage.Whole = ending.Keep
by_stage s t g stage.Same = cond (same_id (id_of (whole_in s.row)) (was_id t.info)) ending.Same ending.Drop
by_stage s t g stage.Cut = cond (can_park s g) ending.Park ending.Drop
by_stage s t g stage.Refused = cond (is_some t.part_body && s.roomy) ending.Back ending.Drop

-- the first case that fits
abbrev pub end_of : Spot → Ticketed → Grown → Ending
end_of s t g = cond (is_out (out_in s.row) t.info) (by_stage s t g g.seen.stage) ending.Unknown

-- ---- what each end leaves at the path

-- the whole body that the download gave
abbrev pub new_whole : Moment → ℕ → Label → Seen → Whole
new_whole now id label g = record {
  id = id;
  label = label;
  size = g.size;
  tag = g.facts.tag;
  modified = g.facts.modified;
  checked = now;
  mark = None;
}

abbrev pub new_in : Moment → Option ℕ → Option Label → Seen → Option Whole
new_in now None label g = None
new_in now (Some id) None g = None
new_in now (Some id) (Some label) g = Some (new_whole now id label g)

abbrev pub whole_after : Ending → Spot → Ticketed → Grown → Option Whole
whole_after ending.Unknown s t g = whole_in s.row
whole_after ending.Keep s t g = new_in t.info.moment (number_of g) g.seen.label g.seen
whole_after ending.Same s t g = stamped_in (Checked t.info.moment) (whole_in s.row)
whole_after ending.Park s t g = whole_in s.row
whole_after ending.Back s t g = whole_in s.row
whole_after ending.Drop s t g = whole_in s.row

abbrev pub parked_in : Option File → Option (List ℕ) → Option Label → Facts → Option Parked
parked_in None url label facts = None
parked_in (Some f) None label facts = None
parked_in (Some f) (Some url) None facts = None
parked_in (Some f) (Some url) (Some label) facts = Some (record { handle = f.0; url = url; label = label; facts = facts })

abbrev pub part_after : Ending → Ticketed → Grown → Option Parked
part_after ending.Unknown t g = None
part_after ending.Keep t g = None
part_after ending.Same t g = None
part_after ending.Park t g = parked_in g.file g.seen.url g.seen.label g.seen.facts
part_after ending.Back t g = t.part_body
part_after ending.Drop t g = None

-- the row of a path of which no ticket is out any more: with this whole body, and none where there is nothing
abbrev pub left_rows : Rows → List ℕ → Option Whole → Bool → Rows
left_rows rows path w stays = cond (stays || is_some w) (map.insert rows path (record { whole = w; out = None })) (map.remove rows path)

abbrev pub left_parts : Parts → List ℕ → Option Parked → Parts
left_parts parts path None = parts
left_parts parts path (Some p) = map.insert parts path p

-- the ticket of the path came in, and left these bodies
abbrev pub left_with : List ℕ → Option Whole → Option Parked → Plain → Plain
left_with path w part p = record {
  rows = left_rows p.rows path w (is_some part);
  parts = left_parts p.parts path part;
  next_try = p.next_try;
  next_id = p.next_id;
  limit = p.limit;
  rules = p.rules;
}

-- so it is, or nothing happened but that the ticket came in
abbrev pub FellTo : List ℕ → Option Whole → Option Parked → Plain → Plain → Type 0
FellTo path w part p q = (q ≡ left_with path w part p) ⊎ (q ≡ left_with path (whole_in (map.get p.rows path)) None p)

-- the ticket that is out has this id for its new or its partial body
abbrev pub HasOwn : Option Load → ℕ → Type 0
HasOwn None id = ⊥
HasOwn (Some o) id = (o.fresh ≡ id) ⊎ (o.part ≡ Some id)

-- what an end makes of what a desk knows
abbrev pub ended : Ending → Ticketed → Grown → Plain → Plain
ended ending.Unknown t g p = p
ended ending.Keep t g p = left_with g.path (whole_after ending.Keep (spot_at p g.path) t g) None p
ended ending.Same t g p = left_with g.path (whole_after ending.Same (spot_at p g.path) t g) None p
ended ending.Park t g p = left_with g.path (whole_in (map.get p.rows g.path)) (part_after ending.Park t g) p
ended ending.Back t g p = left_with g.path (whole_in (map.get p.rows g.path)) (part_after ending.Back t g) p
ended ending.Drop t g p = left_with g.path (whole_in (map.get p.rows g.path)) None p

-- and of the body: the file of a whole one is sealed, that of one at rest moved out
abbrev pub grown_after : Ending → Grown → Grown
grown_after ending.Unknown g = g
grown_after ending.Keep g = closed_file g
grown_after ending.Same g = g
grown_after ending.Park g = record { path = g.path; seen = record g.seen { url = None; size = 0 }; file = None }
grown_after ending.Back g = g
grown_after ending.Drop g = g

-- ---- after a refusal: as after the end, or nothing but that no ticket of the path is out any more

abbrev pub Falls : Ending → Ticketed → Grown → Plain → Plain → Type 0
Falls e t g p q = (q ≡ ended e t g p) ⊎ (q ≡ left_with g.path (whole_in (map.get p.rows g.path)) None p)

-- ---- the answers

-- the answer is that of the end; a refusal comes with a failed call, and want of memory is free
abbrev pub SettledAs : {P : Type 0} → Ending → Faults → Faults → Settled P → Type 0
SettledAs e old new settled.Kept = e ≡ ending.Keep
SettledAs e old new settled.Same = e ≡ ending.Same
SettledAs e old new settled.Partial = e ≡ ending.Park
SettledAs e old new settled.Dropped = (e ≡ ending.Unknown) ⊎ (e ≡ ending.Back) ⊎ (e ≡ ending.Drop)
SettledAs e old new (settled.KeeperFault p) = HasFailed old new × (e ≢ ending.Unknown)
SettledAs e old new settled.NoMemory = e ≢ ending.Unknown

-- it was answered, or refused for a failed call or for want of memory
abbrev pub IfSettled : {P : Type 0} → Settled P → Type 0 → Type 0 → Type 0
IfSettled settled.Kept A B = A
IfSettled settled.Same A B = A
IfSettled settled.Partial A B = A
IfSettled settled.Dropped A B = A
IfSettled (settled.KeeperFault p) A B = B
IfSettled settled.NoMemory A B = B

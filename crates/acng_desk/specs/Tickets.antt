-- A ticket, as contracts see it, and what it keeps.
use Rattle.std.specs.Prelude.{◌≡◌, ℕ, ◌-◌, ◌<◌, ◌≤◌, ◌^◌, Bool, true, false, List, [], length, All, Option, None, Some, option_map}
use Rattle.std.specs.Prelude.{is_some, IfSome, IsSomeAnd}
use Rattle.acng_head.specs.declared.head.Label.{Label}
use Rattle.acng_head.specs.declared.head.Label.TheVariants.{Fetched, Imported}
use Rattle.acng_keeper.specs.Handles.{Handle}
use Rattle.acng_site.specs.declared.site.Site.{Ghosts as SiteGhosts}
use Rattle.acng_grow.specs.declared.settling.PartialBody.{PartialBody}
use Rattle.acng_grow.specs.Effects.{Part, Old, Errand}
use Rattle.acng_grow.specs.Keeps.{IsBounded, IsDated, IsFetched, HasRoom, most_bytes}
use Rattle.acng_grow.specs.Stands.{StandsFor, StandsWhole, FactsStand}
use Rattle.acng_rows.specs.declared.row.Whole.{Whole}
use Rattle.acng_rows.specs.Starts.{NamesBelow}
use Rattle.acng_desk.specs.declared.ticket.Info.{Info}
use Rattle.acng_desk.specs.declared.ticket.OldFile.{OldFile}
use Rattle.acng_desk.specs.declared.ticket.PartFile.{PartFile}
use Rattle.acng_desk.specs.House.{Parked, parked_of, facts_of}

pub record Ticketed : Type 0 where
  pub info : Info
  -- how many tries are left
  pub left : ℕ
  -- the bodies that weren't taken
  pub fresh : Option Handle
  pub old_body : Option Handle
  pub part_body : Option Parked

-- the value of a ticket's fields
abbrev pub ticketed : {F : Type 0} → (F → Handle) → Info → ℕ → Option F → Option F → Option (PartialBody F) → Ticketed
ticketed handle info left fresh old_body part_body = record {
  info = info;
  left = left;
  fresh = option_map handle fresh;
  old_body = option_map handle old_body;
  part_body = option_map (parked_of handle) part_body;
}

-- ---- what the download is for

abbrev pub first_in : Label → ℕ
first_in (Fetched first last) = first
first_in (Imported hash size) = 0

abbrev pub last_in : Label → ℕ
last_in (Fetched first last) = last
last_in (Imported hash size) = 0

abbrev pub part_of : PartFile → Part
part_of p = record { url = p.url; first = first_in p.label; last = last_in p.label; facts = p.facts; size = p.len }

abbrev pub held_of : OldFile → Old
held_of o = record { label = o.label; facts = o.facts; size = o.size }

abbrev pub errand_of : Info → Errand
errand_of i = record {
  origins = i.origins;
  redir_max = i.redir_max;
  part = option_map part_of i.part;
  old = option_map held_of i.was;
}

-- ---- what a ticket says of the bodies of its row

abbrev pub old_of : Whole → OldFile
old_of w = record { id = w.id; label = w.label; facts = facts_of w; size = w.size }

abbrev pub file_of : Parked → PartFile
file_of p = record { id = p.handle.number; url = p.url; label = p.label; facts = p.facts; len = p.handle.size }

-- ---- what bodies keep

-- a new body
pub record IsFresh (tells : Bool) (id : ℕ) (h : Handle) : Type 0 where
  pub number : h.number ≡ id
  pub size : h.size ≡ 0
  pub writable : h.writable ≡ true
  pub bytes : tells ≡ true → h.bytes ≡ []

-- what is said of a whole body
pub record IsOld {S : Type 0} (s : SiteGhosts S) (path : List ℕ) (o : OldFile) : Type 0 where
  pub small : o.size ≤ most_bytes
  pub total : o.facts.total ≡ Some o.size
  pub bounded : IsBounded o.label
  pub dated : IsDated o.facts
  pub stand : FactsStand s path None o.label o.facts

-- and its handle
pub record IsOldBody {S : Type 0} (s : SiteGhosts S) (tells : Bool) (path : List ℕ) (o : OldFile) (h : Handle) : Type 0 where
  pub number : h.number ≡ o.id
  pub size : h.size ≡ o.size
  pub sealed : h.writable ≡ false
  pub stands : tells ≡ true → StandsWhole s path o.label h.bytes

-- what is said of a partial body
pub record IsPart {S : Type 0} (s : SiteGhosts S) (path : List ℕ) (p : PartFile) : Type 0 where
  pub small : p.len ≤ most_bytes
  pub room : HasRoom p.facts p.len
  pub dated : IsDated p.facts
  pub bounded : IsBounded p.label
  pub fetched : IsFetched p.label
  pub place : s.tells ≡ true → s.serves p.url path ≡ true
  pub stand : FactsStand s path (Some p.url) p.label p.facts
  pub within : s.tells ≡ true → p.len ≤ length (s.instance (first_in p.label) path)

-- and its file
pub record IsPartBody {S : Type 0} (s : SiteGhosts S) (tells : Bool) (path : List ℕ) (p : PartFile) (b : Parked) : Type 0 where
  pub of : file_of b ≡ p
  pub writable : b.handle.writable ≡ true
  pub stands : tells ≡ true → StandsFor s path p.label b.handle.bytes

-- ---- what a ticket keeps

pub record IsTicket {S : Type 0} (s : SiteGhosts S) (tells : Bool) (t : Ticketed) : Type 0 where
  pub some : 0 < length t.info.origins
  pub serve : s.tells ≡ true → All (λ u. s.serves u t.info.path ≡ true) t.info.origins
  pub first : t.info.first ≤ 2 ^ 63 - 16
  pub few : t.left ≤ 16
  pub old_file : IfSome t.info.was (IsOld s t.info.path)
  pub old_below : IfSome t.info.was (λ o. NamesBelow t.info.first o.label)
  pub part_file : IfSome t.info.part (IsPart s t.info.path)
  pub part_below : IfSome t.info.part (λ p. NamesBelow t.info.first p.label)
  -- the bodies, while they are there
  pub fresh : IfSome t.fresh (IsFresh tells t.info.fresh)
  pub old_body : IfSome t.old_body (λ h. IsSomeAnd t.info.was (λ o. IsOldBody s tells t.info.path o h))
  pub part_body : IfSome t.part_body (λ b. IsSomeAnd t.info.part (λ p. IsPartBody s tells t.info.path p b))

-- no try and no body was taken
pub record IsUnused (t : Ticketed) : Type 0 where
  pub left : t.left ≡ 16
  pub fresh : is_some t.fresh ≡ true
  pub old_body : is_some t.old_body ≡ is_some t.info.was
  pub part_body : is_some t.part_body ≡ is_some t.info.part

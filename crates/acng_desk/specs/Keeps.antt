-- What a desk keeps.
use Rattle.std.specs.Prelude.{◌≡◌, ◌≢◌, ℕ, ◌+◌, ◌<◌, ◌≤◌, Bool, true, List, [], ◌∷◌, Option, None, Some, option_map, ⊤}
use Rattle.std.specs.FinMap as map
use Rattle.acng_site.specs.declared.site.Site.{Ghosts as SiteGhosts}
use Rattle.acng_head.specs.Records.{IsHead}
use Rattle.acng_keeper.specs.Kept.{Kept, stored}
use Rattle.acng_grow.specs.Faithful.{IsFaithful}
use Rattle.acng_rows.specs.declared.row.Whole.{Whole}
use Rattle.acng_rows.specs.Rows.{Rows, Load, head_of, whole_at, out_at}
use Rattle.acng_rows.specs.declared.removal.Removal.{Removal}
use Rattle.acng_rows.specs.Removals.{id_in}
use Rattle.acng_rows.specs.Goods.{Holds}
use Rattle.acng_rows.specs.Starts.{NamesBelow}
use Rattle.acng_desk.specs.House.{Parked, Parts, Plain, House, most_parts}
use Rattle.acng_desk.specs.Tickets.{IsPart, IsPartBody, file_of}

-- ---- ids

-- what an id may be to a path: its whole body's, a new or a partial one's of the ticket that is out, or that of a partial
-- body at rest
pub data Role : Type 0 where
  Held Fresh Carried Resting : Role

abbrev pub join : {A B : Type 0} → Option A → (A → Option B) → Option B
join None f = None
join (Some a) f = f a

abbrev pub id_at : Rows → Parts → List ℕ → Role → Option ℕ
id_at rows parts path Held = option_map (λ (w : Whole). w.id) (whole_at rows path)
id_at rows parts path Fresh = option_map (λ (o : Load). o.fresh) (out_at rows path)
id_at rows parts path Carried = join (out_at rows path) (λ o. o.part)
id_at rows parts path Resting = option_map (λ (p : Parked). p.handle.number) (map.get parts path)

-- each id is below the next
pub record IdsBelow (next : ℕ) (rows : Rows) (parts : Parts) : Type 0 where
  pub each : (path : List ℕ) (r : Role) (id : ℕ) → id_at rows parts path r ≡ Some id → id < next

-- no two are the same
pub record IdsApart (rows : Rows) (parts : Parts) : Type 0 where
  pub each : (path other : List ℕ) (r t : Role) (id : ℕ) → id_at rows parts path r ≡ Some id → id_at rows parts other t ≡ Some id
      → (path ≡ other) × (r ≡ t)

-- those of unsealed bodies are loose
pub record AreLoose (k : Kept) (rows : Rows) (parts : Parts) : Type 0 where
  pub each : (path : List ℕ) (r : Role) (id : ℕ) → r ≢ Held → id_at rows parts path r ≡ Some id → map.contains_key k.loose id ≡ true

-- no row, no ticket that is out and no partial body has this id
pub record IsNobodys (rows : Rows) (parts : Parts) (id : ℕ) : Type 0 where
  pub each : (path : List ℕ) (r : Role) → id_at rows parts path r ≢ Some id

-- none of the removals is of an id that somebody has
abbrev pub AreNobodys : Rows → Parts → List Removal → Type 0
AreNobodys rows parts [] = ⊤
AreNobodys rows parts (r ∷ rs) = IsNobodys rows parts (id_in r) × AreNobodys rows parts rs

-- ---- rows and partial bodies

-- each whole body has a head that can be written
pub record HeadsRead (rows : Rows) : Type 0 where
  pub each : (path : List ℕ) (w : Whole) → whole_at rows path ≡ Some w → IsHead (head_of path w)

-- the next try is above each attempt that is named, and above the sixteen of each ticket that is out
pub record TriesBelow (next : ℕ) (rows : Rows) (parts : Parts) : Type 0 where
  pub whole : (path : List ℕ) (w : Whole) → whole_at rows path ≡ Some w → NamesBelow next w.label
  pub part : (path : List ℕ) (p : Parked) → map.get parts path ≡ Some p → NamesBelow next p.label
  pub out : (path : List ℕ) (o : Load) → out_at rows path ≡ Some o → o.first + 16 ≤ next

-- a partial body at rest
pub record IsParked {S : Type 0} (s : SiteGhosts S) (tells : Bool) (path : List ℕ) (p : Parked) : Type 0 where
  pub file : IsPart s path (file_of p)
  pub body : IsPartBody s tells path (file_of p) p

-- each stands for its path, which has a row of which no ticket is out
pub record PartsStand {S : Type 0} (s : SiteGhosts S) (tells : Bool) (rows : Rows) (parts : Parts) : Type 0 where
  pub parked : (path : List ℕ) (p : Parked) → map.get parts path ≡ Some p → IsParked s tells path p
  pub rowed : (path : List ℕ) (p : Parked) → map.get parts path ≡ Some p → map.contains_key rows path ≡ true
  pub free : (path : List ℕ) (p : Parked) → map.get parts path ≡ Some p → out_at rows path ≡ None

-- no ticket is out
pub record IsIdle (p : Plain) : Type 0 where
  pub each : (path : List ℕ) → out_at p.rows path ≡ None

-- ---- all of it

-- what is kept of what a desk knows
pub record IsPlain {S : Type 0} (s : SiteGhosts S) (tells : Bool) (p : Plain) : Type 0 where
  pub heads : HeadsRead p.rows
  pub tries : TriesBelow p.next_try p.rows p.parts
  pub below : IdsBelow p.next_id p.rows p.parts
  pub apart : IdsApart p.rows p.parts
  pub stand : PartsStand s tells p.rows p.parts
  pub few : map.len p.rows ≤ p.limit
  pub few_parts : map.len p.parts ≤ most_parts

-- what the keeper has of it
pub record IsKept {S : Type 0} (s : SiteGhosts S) (p : Plain) (k : Kept) : Type 0 where
  pub holds : Holds p.rows (stored k)
  pub loose : AreLoose k p.rows p.parts
  pub faithful : IsFaithful s k

-- what is told of the site is told of a keeper that tells
pub record IsSound {S : Type 0} (s : SiteGhosts S) (tells : Bool) (h : House) : Type 0 where
  pub told : s.tells ≡ true → tells ≡ true
  pub plain : IsPlain s tells h.plain
  pub kept : tells ≡ true → IsKept s h.plain h.kept

-- A desk as contracts see it: what it knows, and what its keeper has.
use Rattle.std.specs.Prelude.{ℕ, Bool, nat_le, nat_lt, List, Option, None, Some}
use Rattle.std.specs.FinMap as map
use Rattle.acng_head.specs.declared.head.Label.{Label}
use Rattle.acng_head.specs.declared.head.Label.TheVariants.{Fetched, Imported}
use Rattle.acng_keeper.specs.Kept.{Kept}
use Rattle.acng_keeper.specs.Handles.{Handle}
use Rattle.acng_keeper.specs.Slips.{Faults}
use Rattle.acng_conf.specs.Settings.{Rules}
use Rattle.acng_grow.specs.declared.facts.Facts.{Facts}
use Rattle.acng_grow.specs.declared.settling.PartialBody.{PartialBody}
use Rattle.acng_rows.specs.declared.row.Whole.{Whole}
use Rattle.acng_rows.specs.Paths.{PathsTo}
use Rattle.acng_rows.specs.Rows.{Rows, Row}

-- a partial body at rest
pub record Parked : Type 0 where
  pub handle : Handle
  pub url : List ℕ
  pub label : Label
  pub facts : Facts

abbrev pub parked_of : {F : Type 0} → (F → Handle) → PartialBody F → Parked
parked_of handle p = record { handle = handle p.body; url = p.url; label = p.label; facts = p.facts }

abbrev pub Parts : Type 0
Parts = PathsTo Parked

-- what a desk knows, by which it decides
pub record Plain : Type 0 where
  pub rows : Rows
  pub parts : Parts
  pub next_try : ℕ
  pub next_id : ℕ
  pub limit : ℕ
  pub rules : Rules

pub record House : Type 0 where
  pub plain : Plain
  pub kept : Kept
  pub faults : Faults

-- ---- one path of it

-- how many partial bodies a desk has at most
abbrev pub most_parts : ℕ
most_parts = 64

-- what one path has, and what else counts for it
pub record Spot : Type 0 where
  pub row : Option Row
  pub part : Option Parked
  -- the rows are at their limit
  pub crowded : Bool
  -- one more partial body may rest
  pub roomy : Bool
  pub next_try : ℕ
  pub next_id : ℕ
  pub rules : Rules

abbrev pub spot_at : Plain → List ℕ → Spot
spot_at p path = record {
  row = map.get p.rows path;
  part = map.get p.parts path;
  crowded = nat_le p.limit (map.len p.rows);
  roomy = nat_lt (map.len p.parts) most_parts;
  next_try = p.next_try;
  next_id = p.next_id;
  rules = p.rules;
}

-- ---- what is known of a whole body beside its bytes

-- its size is the known total; an import has no tag and no date
abbrev pub facts_by : Label → Whole → Facts
facts_by (Fetched first last) w = record { total = Some w.size; modified = w.modified; tag = w.tag }
facts_by (Imported hash size) w = record { total = Some w.size; modified = None; tag = None }

abbrev pub facts_of : Whole → Facts
facts_of w = facts_by w.label w

-- When what a keeper has may be served.
use Rattle.std.specs.Prelude.{◌≡◌, ℕ, false, List, length, None, Some}
use Rattle.std.specs.FinMap as map
use Rattle.acng_site.specs.declared.site.Site.{Ghosts as SiteGhosts}
use Rattle.acng_head.specs.declared.head.Head.{Head}
use Rattle.acng_head.specs.Records.{record_text, IsHead}
use Rattle.acng_keeper.specs.Kept.{Kept}
use Rattle.acng_grow.specs.declared.facts.Facts.{Facts}
use Rattle.acng_grow.specs.Stands.{StandsWhole, FactsStand}

-- the facts of a held file: its size is known
abbrev pub held_facts : Head → Facts
held_facts h = record { total = Some h.size; modified = h.modified; tag = h.tag }

-- the id has the head's record, and a sealed body of the head's size
pub record IsHeldAs (k : Kept) (id : ℕ) (h : Head) (text : List ℕ) : Type 0 where
  pub head : map.get k.heads id ≡ Some (record_text h)
  pub reads : IsHead h
  pub body : map.get k.bodies id ≡ Some text
  pub size : length text ≡ h.size

-- the body is the head's file, and no head that reads is of an unsealed body
pub record IsFaithful {S : Type 0} (s : SiteGhosts S) (k : Kept) : Type 0 where
  pub body : (id : ℕ) (h : Head) (text : List ℕ) → IsHeldAs k id h text → StandsWhole s h.path h.label text
  pub facts : (id : ℕ) (h : Head) (text : List ℕ) → IsHeldAs k id h text → FactsStand s h.path None h.label (held_facts h)
  pub sealed : (id : ℕ) (h : Head) → map.get k.heads id ≡ Some (record_text h) → IsHead h → map.contains_key k.loose id ≡ false

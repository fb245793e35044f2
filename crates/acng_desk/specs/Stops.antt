-- What a call may leave of heads and bodies where the program is stopped in it, and what a start finds after it.
use Rattle.std.specs.Prelude.{List, ℕ, None, Some}
use Rattle.acng_site.specs.declared.site.Site.{Ghosts as SiteGhosts}
use Rattle.acng_keeper.specs.Kept.{stored}
use Rattle.acng_keeper.specs.Images.{LeavesOnly}
use Rattle.acng_grow.specs.Stands.{StandsWhole, FactsStand}
use Rattle.acng_rows.specs.Rows.{Rows}
use Rattle.acng_rows.specs.Goods.{Core, IsExact, IsBetween}
use Rattle.acng_desk.specs.House.{House}

-- what a head says is so of the text: it stands whole for path and label, and the facts stand for the label
abbrev pub IsFile : {S : Type 0} → SiteGhosts S → Core → List ℕ → Type 0
IsFile s c text = StandsWhole s c.path c.label text
    × FactsStand s c.path None c.label (record { total = Some c.size; modified = c.modified; tag = c.tag })

-- a stop at any moment leaves what lies between the old rows and these; no file came but as the site has it
abbrev pub StopsAt : {S : Type 0} → SiteGhosts S → Rows → House → House → Type 0
StopsAt s rows old new = LeavesOnly (IsBetween (IsFile s) old.plain.rows rows (stored old.kept)) old.kept new.kept

-- a start over what the keeper has would find exactly the rows
abbrev pub IsFound : House → Type 0
IsFound h = IsExact h.plain.rows (stored h.kept)

-- it may be stopped at any moment, and a start still finds the rows
abbrev pub KeepsFiles : {S : Type 0} → SiteGhosts S → House → House → Type 0
KeepsFiles s old new = StopsAt s old.plain.rows old new × (IsFound old → IsFound new)

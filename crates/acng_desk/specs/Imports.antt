-- How an import is put.
use Rattle.std.specs.Prelude.{◌≡◌, ℕ, true, List, Some, ⊤}
use Rattle.std.specs.FinMap as map
use Rattle.acng_base.specs.declared.hash.Hash.{Hash}
use Rattle.acng_keeper.specs.Kept.{Kept}
use Rattle.acng_keeper.specs.Slips.{Faults, HasFailed}
use Rattle.acng_grow.specs.Stands.{IsImport}
use Rattle.acng_desk.specs.declared.calls.PutFault.{PutFault}
use Rattle.acng_desk.specs.declared.calls.PutFault.TheVariants as put
use Rattle.acng_desk.specs.House.{Plain, spot_at}
use Rattle.acng_desk.specs.Begins.{is_full}

-- the keeper has the sealed body of an import
pub record HasImport (k : Kept) (id : ℕ) (hash : Hash) (size : ℕ) : Type 0 where
  pub text : List ℕ
  pub body : map.get k.bodies id ≡ Some text
  pub file : IsImport hash size text

-- there is no room for a row of the path, or a call of the keeper failed; want of memory is free. Ids are never short.
abbrev pub ImportRose : {P : Type 0} → PutFault P → Plain → List ℕ → Faults → Faults → Type 0
ImportRose put.Full p path old new = is_full (spot_at p path) ≡ true
ImportRose put.Worn p path old new = ⊥
ImportRose (put.KeeperFault q) p path old new = HasFailed old new
ImportRose put.NoMemory p path old new = ⊤

-- What a desk knows after a file entered it at the paths that want it.
use Rattle.std.specs.Prelude.{◌≡◌, ℕ, Bool, true, false, List, [], ◌∷◌, ◌++◌, cond, Option, None, Some, Result, Ok, Err, ⊤}
use Rattle.acng_keeper.specs.Handles.{Handle}
use Rattle.acng_grow.specs.Stands.{IsImport}
use Rattle.acng_rows.specs.declared.row.Whole.{Whole}
use Rattle.acng_rows.specs.Rows.{Rows, whole_at}
use Rattle.acng_desk.specs.House.{Plain, spot_at}
use Rattle.acng_desk.specs.Begins.{is_full}
use Rattle.acng_desk.specs.Commands.{is_out_of_ids, made, imported, put_in}
use Rattle.acng_import.specs.declared.ending.FileEnd.{FileEnd}
use Rattle.acng_import.specs.declared.ending.FileEnd.TheVariants.{Held, Full, Kept}
use Rattle.acng_import.specs.declared.ending.Halt.{Halt}
use Rattle.acng_import.specs.declared.ending.Halt.TheVariants as halt
use Rattle.acng_import.specs.declared.put.Arrival.{Arrival}

-- what came of a file: its end, or none where no id was left for a body; and what the desk knows then
pub record Did : Type 0 where
  pub ended : Option FileEnd
  pub plain : Plain

abbrev pub ends : FileEnd → Plain → Did
ends e p = record { ended = Some e; plain = p }

abbrev pub worn : Plain → Did
worn p = record { ended = None; plain = p }

-- the whole body of a path that it entered
abbrev pub whole_of : Arrival → ℕ → Whole
whole_of a id = imported id a.hash a.size a.now

-- it enters a path with the body of this id, and goes on; where there is room for no row of the path, it ends there
abbrev pub put_at : Arrival → List ℕ → ℕ → Plain → (Plain → Did) → Did
put_at a path id p next = cond (is_full (spot_at p path)) (ends Full p) (next (put_in path (whole_of a id) p))

-- further paths one after the other, each with a new body
abbrev pub put_rest : Arrival → List (List ℕ) → Plain → List (List ℕ) → Did
put_rest a done p [] = ends (Kept done) p
put_rest a done p (path ∷ paths) =
    cond (is_out_of_ids p) (worn p) (put_at a path p.next_id (made p) (λ q. put_rest a (done ++ path ∷ []) q paths))

-- the paths that want it: the first gets the body that was filled
abbrev pub put_all : Arrival → ℕ → Plain → List (List ℕ) → Did
put_all a id p [] = ends Held p
put_all a id p (path ∷ paths) = put_at a path id p (λ q. put_rest a (path ∷ []) q paths)

-- ---- what calls answer

-- so it is, unless the call was refused
abbrev pub IfDid : {P : Type 0} → (Did → Type 0) → Result FileEnd (Halt P) → Plain → Type 0
IfDid A (Ok e) p = A (ends e p)
IfDid A (Err halt.Worn) p = A (worn p)
IfDid A (Err (halt.Slip s)) p = ⊤
IfDid A (Err halt.NoMemory) p = ⊤

-- it entered the path, or there was no room for a row
abbrev pub PutAs : Bool → Arrival → List ℕ → ℕ → Plain → Plain → Type 0
PutAs true a path id old new = (is_full (spot_at old path) ≡ false) × (new ≡ put_in path (whole_of a id) old)
PutAs false a path id old new = (is_full (spot_at old path) ≡ true) × (new ≡ old)

-- the same with a new body
pub record NextAs (put : Bool) (a : Arrival) (path : List ℕ) (old new : Plain) : Type 0 where
  pub ids : is_out_of_ids old ≡ false
  pub put_as : PutAs put a path old.next_id (made old) new

-- no id was left
pub record WasWorn (old new : Plain) : Type 0 where
  pub ids : is_out_of_ids old ≡ true
  pub same : new ≡ old

abbrev pub IfWorn : {P : Type 0} → Halt P → Type 0 → Type 0
IfWorn halt.Worn A = A
IfWorn (halt.Slip s) A = ⊤
IfWorn halt.NoMemory A = ⊤

-- the file has entered this path
pub record HasArrived (a : Arrival) (rows : Rows) (path : List ℕ) : Type 0 where
  pub id : ℕ
  pub whole : whole_at rows path ≡ Some (whole_of a id)

-- a body with all of the file
pub record IsArrival (tells : Bool) (a : Arrival) (h : Handle) : Type 0 where
  pub size : h.size ≡ a.size
  pub file : tells ≡ true → IsImport a.hash a.size h.bytes

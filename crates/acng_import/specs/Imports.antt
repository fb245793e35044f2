-- The import of found files, one after the other.
use Rattle.std.specs.Prelude.{◌≡◌, ℕ, zero, suc, ◌<◌, ◌≤◌, ◌^◌, Bool, true, false, nat_lt, List, [], ◌∷◌, ◌++◌, length, Option, None, Some, ⊤}
use Rattle.std.specs.List.{filter}
use Rattle.sha2.specs.Sha256.{sha256}
use Rattle.acng_base.specs.Causes.{Rose}
use Rattle.acng_base.specs.declared.clock.Moment.{Moment}
use Rattle.acng_site.specs.declared.site.Site.{Ghosts as SiteGhosts}
use Rattle.acng_keeper.specs.Kept.{stored}
use Rattle.acng_desk.specs.House.{House}
use Rattle.acng_desk.specs.Commands.{is_out_of_ids, made}
use Rattle.acng_desk.specs.Keeps.{IsSound}
use Rattle.acng_reach.specs.Bodies.{ArePaths}
use Rattle.acng_reach.specs.Paths.{IsPath}
use Rattle.acng_reach.specs.Reaches.{is_named}
use Rattle.acng_reach.specs.Sets.{among, Rises}
use Rattle.acng_reach.specs.declared.index.Index.{Index}
use Rattle.acng_import.specs.declared.ending.FileEnd.{FileEnd}
use Rattle.acng_import.specs.declared.ending.FileEnd.TheVariants.{FindFault, TooLong, Unknown}
use Rattle.acng_import.specs.declared.ending.Imported.{Imported}
use Rattle.acng_import.specs.declared.ending.Imported.TheVariants as imported
use Rattle.acng_import.specs.declared.put.Arrival.{Arrival}
use Rattle.acng_import.specs.Files.{file_at}
use Rattle.acng_import.specs.Looks.{Shelf, shelf_of, is_wanted}
use Rattle.acng_import.specs.Puts.{Did, ends, worn, put_all}

-- ---- one file

-- the paths that the indexes name for a file, in byte order
pub record AreNamed (xs : List Index) (hash : List ℕ) (size : ℕ) (paths : List (List ℕ)) : Type 0 where
  pub named : (q : List ℕ) → IsPath q → among q paths ≡ is_named xs hash size q
  pub are_paths : ArePaths paths
  pub rises : Rises paths

-- it enters those of them that want it
abbrev pub enter : Arrival → ℕ → Shelf → List (List ℕ) → Did
enter a id s [] = ends (Unknown a.hash) s.plain
enter a id s (path ∷ paths) = put_all a id s.plain (filter (is_wanted s a.hash.0) (path ∷ paths))

-- a text enters where the indexes name its hash and length
pub record Enters (xs : List Index) (now : Moment) (id : ℕ) (s : Shelf) (text : List ℕ) (d : Did) : Type 0 where
  pub arrival : Arrival
  pub paths : List (List ℕ)
  pub hashed : arrival.hash.0 ≡ sha256 text
  pub sized : arrival.size ≡ length text
  pub at : arrival.now ≡ now
  pub named : AreNamed xs arrival.hash.0 arrival.size paths
  pub did : d ≡ enter arrival id s paths

abbrev pub AfterText : Bool → List Index → Moment → ℕ → Shelf → List ℕ → Did → Type 0
AfterText true xs now id s text d = d ≡ ends TooLong s.plain
AfterText false xs now id s text d = Enters xs now id s text d

-- the file was read whole, or a read of it failed
abbrev pub AfterRead : List Index → Moment → ℕ → Shelf → Option (List ℕ) → Did → Type 0
AfterRead xs now id s None d = d ≡ ends FindFault s.plain
AfterRead xs now id s (Some text) d = AfterText (nat_lt (2 ^ 41) (length text)) xs now id s text d

abbrev pub with_new : Shelf → Shelf
with_new s = record { plain = made s.plain; bodies = s.bodies }

-- a body is made first
abbrev pub OnRoom : Bool → List Index → Moment → Shelf → Option (List ℕ) → Did → Type 0
OnRoom true xs now s seen d = d ≡ worn s.plain
OnRoom false xs now s seen d = AfterRead xs now s.plain.next_id (with_new s) seen d

-- what was read of a file: all of it, or nothing where the count of faults rose
abbrev pub Saw : List ℕ → ℕ → ℕ → Option (List ℕ) → Type 0
Saw file old new None = Rose old new
Saw file old new (Some text) = (text ≡ file) × (new ≡ old)

pub record FileDid (xs : List Index) (now : Moment) (s : Shelf) (file : List ℕ) (old new : ℕ) (d : Did) : Type 0 where
  pub seen : Option (List ℕ)
  pub saw : Saw file old new seen
  pub did : OnRoom (is_out_of_ids s.plain) xs now s seen d

-- ---- all files

-- where an import stands: the ends so far, the desk, and how often a read of a found file has failed
pub record Run : Type 0 where
  pub ends : List FileEnd
  pub house : House
  pub faults : ℕ

-- one file came to its end
pub record Turn (xs : List Index) (now : Moment) (file : List ℕ) (old new : Run) : Type 0 where
  pub ended : FileEnd
  pub ends_are : new.ends ≡ old.ends ++ ended ∷ []
  pub did : FileDid xs now (shelf_of old.house) file old.faults new.faults (ends ended new.house.plain)

-- so many files came to their ends; between them the desk keeps all that a desk keeps
abbrev pub Ran : {S : Type 0} → SiteGhosts S → Bool → List Index → Moment → List (List ℕ) → Run → ℕ → Run → Type 0
Ran s tells xs now files first zero r = r ≡ first
Ran s tells xs now files first (suc n) r =
    (old : Run) × Ran s tells xs now files first n old × Turn xs now (file_at files n) old r × IsSound s tells r.house

-- the same from the desk at the call's beginning, of which reach was read
pub record RanFrom {S : Type 0} (s : SiteGhosts S) (tells : Bool) (xs : List Index) (now : Moment) (files : List (List ℕ)) (old : House)
    (faults n : ℕ) (r : Run) : Type 0 where
  pub first : House
  pub plain : first.plain ≡ old.plain
  pub stored_is : stored first.kept ≡ stored old.kept
  pub ran : Ran s tells xs now files (record { ends = []; house = first; faults = faults }) n r

-- the first files came to these ends, and the import of the next one was stopped
pub record StoppedAt {S : Type 0} (s : SiteGhosts S) (tells : Bool) (xs : List Index) (now : Moment) (files : List (List ℕ)) (old : House)
    (faults count : ℕ) (es : List FileEnd) : Type 0 where
  pub n : ℕ
  pub within : n ≤ count
  pub run : Run
  pub ran : RanFrom s tells xs now files old faults n run
  pub ends_are : run.ends ≡ es

-- and for the next one no id was left
pub record WornAt {S : Type 0} (s : SiteGhosts S) (tells : Bool) (xs : List Index) (now : Moment) (files : List (List ℕ)) (old : House)
    (faults count : ℕ) (es : List FileEnd) (new : House) (new_faults : ℕ) : Type 0 where
  pub n : ℕ
  pub within : n < count
  pub run : Run
  pub ran : RanFrom s tells xs now files old faults n run
  pub ends_are : run.ends ≡ es
  pub did : FileDid xs now (shelf_of run.house) (file_at files n) run.faults new_faults (worn new.plain)

-- what an import answers, of so many files
abbrev pub ImportsAs : {S P : Type 0} → SiteGhosts S → Bool → List Index → Moment → List (List ℕ) → ℕ → House → ℕ → House → ℕ
    → Imported P → Type 0
ImportsAs s tells xs now files count old faults new new_faults (imported.Done es) =
    RanFrom s tells xs now files old faults count (record { ends = es; house = new; faults = new_faults })
ImportsAs s tells xs now files count old faults new new_faults (imported.Stopped slip es) =
    StoppedAt s tells xs now files old faults count es
ImportsAs s tells xs now files count old faults new new_faults (imported.Worn es) =
    WornAt s tells xs now files old faults count es new new_faults
ImportsAs s tells xs now files count old faults new new_faults imported.NoMemory = ⊤

-- a slip comes only where calls may fail
abbrev pub MayStop : {P : Type 0} → Bool → Imported P → Type 0
MayStop may (imported.Done es) = ⊤
MayStop may (imported.Stopped slip es) = may ≡ true
MayStop may (imported.Worn es) = ⊤
MayStop may imported.NoMemory = ⊤

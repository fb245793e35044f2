-- The two rounds of a run of expiration over a list of paths, one after another.
use Rattle.std.specs.Prelude.{◌≡◌, ◌<◌, ℕ, ◌+◌, ◌*◌, Bool, true, false, List, [], ◌∷◌, length, take, cond, slice_index_or}
use Rattle.acng_desk.specs.House.{Plain}
use Rattle.acng_reach.specs.Sets.{same, among}
use Rattle.acng_reach.specs.Found.{Found}
use Rattle.acng_expire.specs.Places.{Place, place_at, whole_of, remarked_place, has_mark, is_due, cleared}

-- what a run goes by; the paths are those that are held, in byte order
pub record Run : Type 0 where
  pub limit : ℕ
  pub now : ℕ
  pub reached : List ℕ → Bool
  pub paths : List (List ℕ)

-- so many days, in seconds
abbrev pub limit_of : Plain → ℕ
limit_of p = 86400 * p.rules.threshold_days

abbrev pub run_of : Plain → ℕ → Found → Run
run_of p now found = record { limit = limit_of p; now = now; reached = λ path. among path found.paths; paths = found.held }

-- ---- what a round makes of the first paths of a list

abbrev pub swept : {A : Type 0} → (List ℕ → A → A) → (List ℕ → A) → List (List ℕ) → List ℕ → A
swept f old paths q = cond (among q paths) (f q (old q)) (old q)

-- these paths have their marks
abbrev pub with_marks : Run → (List ℕ → Place) → List (List ℕ) → List ℕ → Place
with_marks r old paths = swept (λ q p. remarked_place r.now (r.reached q) p) old paths

-- those of these paths that are due are gone
abbrev pub with_removals : ℕ → ℕ → (List ℕ → Place) → List (List ℕ) → List ℕ → Place
with_removals limit now old paths = swept (λ q p. cleared limit now p) old paths

-- nothing but rows and partial bodies is another
abbrev pub IsElseSame : Plain → Plain → Type 0
IsElseSame old new = new ≡ record old { rows = new.rows; parts = new.parts }

-- the places are these
pub record HasPlaces (places : List ℕ → Place) (old new : Plain) : Type 0 where
  pub each : (q : List ℕ) → place_at new q ≡ places q
  pub others : IsElseSame old new

-- one path is so changed
abbrev pub changed_at : (Place → Place) → List ℕ → Plain → List ℕ → Place
changed_at f path old q = cond (same q path) (f (place_at old q)) (place_at old q)

-- ---- numbers

abbrev pub one : Bool → ℕ
one b = cond b 1 0

-- how many of these paths pass a test
abbrev pub how_many : (List ℕ → Bool) → List (List ℕ) → ℕ
how_many test [] = 0
how_many test (p ∷ ps) = one (test p) + how_many test ps

abbrev pub is_due_at : ℕ → ℕ → Plain → List ℕ → Bool
is_due_at limit now p path = is_due limit now (whole_of (place_at p path))

abbrev pub is_marked_at : Plain → List ℕ → Bool
is_marked_at p path = has_mark (whole_of (place_at p path))

-- the whole body of the path is due once it has its mark of this run
abbrev pub is_doomed : Run → Plain → List ℕ → Bool
is_doomed r old path = is_due r.limit r.now (whole_of (remarked_place r.now (r.reached path) (place_at old path)))

-- no path stands twice
pub record AreApart (paths : List (List ℕ)) : Type 0 where
  pub each : (i : ℕ) → i < length paths → among (slice_index_or paths i []) (take i paths) ≡ false

-- the removal of the path at a place was refused; it is gone with those before it that are due
pub record HasLost (limit now : ℕ) (paths : List (List ℕ)) (old new : Plain) (removed : ℕ) : Type 0 where
  pub at : ℕ
  pub within : at < length paths
  pub places : HasPlaces (with_removals limit now (place_at old) (take (at + 1) paths)) old new
  pub due : is_due_at limit now old (slice_index_or paths at []) ≡ true
  pub removed_is : removed ≡ how_many (is_due_at limit now old) (take at paths)

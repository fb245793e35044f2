-- What befalls a body: lists of events, and what one reader takes meanwhile.
use Rattle.std.specs.Prelude.{◌≡◌, ℕ, ◌+◌, true, List, [], ◌∷◌, ◌++◌, length, take, drop, IfSome, ⊤}
use Rattle.acng_site.specs.declared.site.Site.{Ghosts as SiteGhosts}
use Rattle.acng_site.specs.Honest.{IsFront}
use Rattle.acng_grow.specs.declared.facts.Seen.{Seen}
use Rattle.acng_grow.specs.declared.facts.Stage.{Stage}
use Rattle.acng_grow.specs.declared.facts.Stage.TheVariants as stage
use Rattle.acng_grow.specs.declared.why.Shown.{Shown}
use Rattle.acng_grow.specs.Stands.{StandsAt, file_of}
use Rattle.acng_grow.specs.Effects.{Effect, Start, GoOn, Resume, Bytes, Finish, Same, Refuse, Cut, Errand, Texts, after, text_after}
use Rattle.acng_grow.specs.Allowed.{Allowed, MayRefuse, MayCut, TextsStand}
use Rattle.acng_grow.specs.Keeps.{Keeps, IsFetched}

-- a body, what its download is for, the texts that this begins with, and the effects that are still to come
pub record Body : Type 0 where
  pub path : List ℕ
  pub errand : Errand
  pub held : Texts
  pub seen : Seen
  pub text : List ℕ
  pub ahead : List Effect

-- the next effect comes, or of bytes a front of so many; the body is closed by a cause; a reader takes at most so many
-- bytes
pub data Event : Type 0 where
  Grow : (k : ℕ) → Event
  Fail : (cause : Shown) → Event
  Take : (room : ℕ) → Event

-- ---- what an event makes of a body

abbrev pub came : Effect → List Effect → Body → Body
came x ahead b = record {
  path = b.path;
  errand = b.errand;
  held = b.held;
  seen = after b.errand b.seen x;
  text = text_after b.held b.text x;
  ahead = ahead;
}

-- the front of an effect
abbrev pub front : ℕ → Effect → Effect
front k (Start n url facts) = Start n url facts
front k (GoOn n) = GoOn n
front k (Resume n) = Resume n
front k (Bytes text) = Bytes (take k text)
front k Finish = Finish
front k Same = Same
front k (Refuse cause) = Refuse cause
front k (Cut cause) = Cut cause

-- what is left of it, and what comes behind
abbrev bytes_left : List ℕ → List Effect → List Effect
bytes_left [] xs = xs
bytes_left (b ∷ bs) xs = Bytes (b ∷ bs) ∷ xs

abbrev pub rest : ℕ → Effect → List Effect → List Effect
rest k (Start n url facts) xs = xs
rest k (GoOn n) xs = xs
rest k (Resume n) xs = xs
rest k (Bytes text) xs = bytes_left (drop k text) xs
rest k Finish xs = xs
rest k Same xs = xs
rest k (Refuse cause) xs = xs
rest k (Cut cause) xs = xs

abbrev pub grown : ℕ → List Effect → Body → Body
grown k [] b = b
grown k (x ∷ xs) b = came (front k x) (rest k x xs) b

-- closed: before it opens as Refused, while it runs as Cut
abbrev pub closed_by : Shown → Body → Stage → Body
closed_by c b stage.Opening = came (Refuse c) [] b
closed_by c b stage.Running = came (Cut c) [] b
closed_by c b stage.Whole = b
closed_by c b stage.Cut = b
closed_by c b stage.Same = b
closed_by c b stage.Refused = b

abbrev pub stepped : Body → Event → Body
stepped b (Grow k) = grown k b.ahead b
stepped b (Fail c) = closed_by c b b.seen.stage
stepped b (Take room) = b

-- ---- when an event may come

abbrev pub GrowsBy : {S : Type 0} → SiteGhosts S → ℕ → List Effect → Body → Type 0
GrowsBy s k [] b = ⊥
GrowsBy s k (x ∷ xs) b = Allowed s b.path b.errand b.seen (front k x)

-- the condition that the cause may close a body in its stage
abbrev pub Closes : {S : Type 0} → SiteGhosts S → Shown → Body → Stage → Type 0
Closes s c b stage.Opening = MayRefuse s b.path b.seen c
Closes s c b stage.Running = MayCut s b.path b.seen c
Closes s c b stage.Whole = ⊤
Closes s c b stage.Cut = ⊤
Closes s c b stage.Same = ⊤
Closes s c b stage.Refused = ⊤

abbrev pub MayHappen : {S : Type 0} → SiteGhosts S → Body → Event → Type 0
MayHappen s b (Grow k) = GrowsBy s k b.ahead b
MayHappen s b (Fail c) = Closes s c b b.seen.stage
MayHappen s b (Take room) = ⊤

-- what the reader has after the event, when it took from a place on
abbrev pub got_after : ℕ → Body → List ℕ → Event → List ℕ
got_after from b got (Grow k) = got
got_after from b got (Fail c) = got
got_after from b got (Take room) = got ++ take room (drop (from + length got) b.text)

-- the body and what the reader has, before and after a list of events
abbrev pub Goes : {S : Type 0} → SiteGhosts S → ℕ → Body → List ℕ → List Event → Body → List ℕ → Type 0
Goes s from b got [] b' got' = (b' ≡ b) × (got' ≡ got)
Goes s from b got (e ∷ es) b' got' = MayHappen s b e × Goes s from (stepped b e) (got_after from b got e) es b' got'

-- ---- the law

-- what a body keeps at each moment
pub record IsKept {S : Type 0} (s : SiteGhosts S) (b : Body) : Type 0 where
  pub keeps : Keeps s b.path b.seen b.text
  pub held : TextsStand s b.path b.errand b.held

-- from one body to a later one, and what a reader took from a place on in between
pub record TextGrows {S : Type 0} (s : SiteGhosts S) (from : ℕ) (b : Body) (b' : Body) (got : List ℕ) : Type 0 where
  pub kept : IsKept s b'
  pub path : b'.path ≡ b.path
  -- the text only grows
  pub grows : IsFront b'.text b.text
  -- what the reader has stands in the text from its place on, and so in the file that was downloaded or imported
  pub taken : StandsAt b'.text from got
  pub file : s.tells ≡ true → IfSome b'.seen.label (λ l. IsFetched l → StandsAt (file_of s b'.path l) from got)

-- however the events come
abbrev pub BodiesGrow : {S : Type 0} → SiteGhosts S → Type 0
BodiesGrow s = (from : ℕ) (es : List Event) (b b' : Body) (got : List ℕ) → IsKept s b → Goes s from b [] es b' got
    → TextGrows s from b b' got

-- an allowed effect keeps all that a body keeps
abbrev pub EffectsKeep : {S : Type 0} → SiteGhosts S → Type 0
EffectsKeep s = (path : List ℕ) (e : Errand) (held : Texts) (g : Seen) (text : List ℕ) (x : Effect)
    → TextsStand s path e held → Keeps s path g text → Allowed s path e g x → Keeps s path (after e g x) (text_after held text x)

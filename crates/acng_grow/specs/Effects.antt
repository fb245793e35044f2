-- What a download does to a body: its effects, and what they make of what is to be seen of it.
use Rattle.std.specs.Prelude.{ℕ, ◌+◌, Bool, true, false, List, [], ◌∷◌, ◌++◌, length, Option, None, Some, option_map}
use Rattle.acng_head.specs.declared.head.Label.{Label}
use Rattle.acng_head.specs.declared.head.Label.TheVariants.{Fetched, Imported}
use Rattle.acng_grow.specs.declared.facts.Facts.{Facts}
use Rattle.acng_grow.specs.declared.facts.Seen.{Seen}
use Rattle.acng_grow.specs.declared.facts.Stage.{Stage}
use Rattle.acng_grow.specs.declared.facts.Stage.TheVariants as stage
use Rattle.acng_grow.specs.declared.why.Shown.{Shown}

pub data Effect : Type 0 where
  Start : (n : ℕ) (url : List ℕ) (facts : Facts) → Effect
  GoOn : (n : ℕ) → Effect
  Resume : (n : ℕ) → Effect
  Bytes : (text : List ℕ) → Effect
  Finish Same : Effect
  Refuse : (cause : Shown) → Effect
  Cut : (cause : Shown) → Effect

-- a body that a download broke off
pub record Part : Type 0 where
  pub url : List ℕ
  pub first : ℕ
  pub last : ℕ
  pub facts : Facts
  pub size : ℕ

-- a whole body that is held
pub record Old : Type 0 where
  pub label : Label
  pub facts : Facts
  pub size : ℕ

-- what a download is for: the origins in order, how many redirects are followed, what it may go on with and what it may
-- keep
pub record Errand : Type 0 where
  pub origins : List (List ℕ)
  pub redir_max : ℕ
  pub part : Option Part
  pub old : Option Old

-- ---- what is to be seen

abbrev pub nothing_known : Facts
nothing_known = record { total = None; modified = None; tag = None }

abbrev pub opening : Seen
opening = record { url = None; stage = stage.Opening; label = None; facts = nothing_known; size = 0; shown = None }

abbrev pub started : ℕ → List ℕ → Facts → Seen
started n url facts = record { url = Some url; stage = stage.Running; label = Some (Fetched n n); facts = facts; size = 0; shown = None }

abbrev pub went_on : ℕ → Part → Seen
went_on n p = record {
  url = Some p.url;
  stage = stage.Running;
  label = Some (Fetched p.first n);
  facts = p.facts;
  size = p.size;
  shown = None;
}

abbrev pub kept_same : Old → Seen
kept_same o = record { url = None; stage = stage.Same; label = Some o.label; facts = o.facts; size = o.size; shown = None }

abbrev pub with_last : ℕ → Label → Label
with_last n (Fetched first last) = Fetched first n
with_last n (Imported hash size) = Imported hash size

abbrev pub from_part : ℕ → Option Part → Seen → Seen
from_part n None s = s
from_part n (Some p) s = went_on n p

abbrev pub from_old : Option Old → Seen → Seen
from_old None s = s
from_old (Some o) s = kept_same o

-- after one effect
abbrev pub after : Errand → Seen → Effect → Seen
after e s (Start n url facts) = started n url facts
after e s (GoOn n) = from_part n e.part s
after e s (Resume n) = record s { label = option_map (with_last n) s.label }
after e s (Bytes text) = record s { size = s.size + length text }
after e s Finish = record s { stage = stage.Whole }
after e s Same = from_old e.old s
after e s (Refuse cause) = record s { stage = stage.Refused; shown = Some cause }
after e s (Cut cause) = record s { stage = stage.Cut; shown = Some cause }

-- after effects in order
abbrev pub runs : Errand → List Effect → Seen → Seen
runs e [] s = s
runs e (x ∷ xs) s = runs e xs (after e s x)

-- ---- the text

-- the texts of the partial and of the old body
pub record Texts : Type 0 where
  pub part : List ℕ
  pub old : List ℕ

abbrev pub text_after : Texts → List ℕ → Effect → List ℕ
text_after held text (Start n url facts) = []
text_after held text (GoOn n) = held.part
text_after held text (Resume n) = text
text_after held text (Bytes piece) = text ++ piece
text_after held text Finish = text
text_after held text Same = held.old
text_after held text (Refuse cause) = text
text_after held text (Cut cause) = text

abbrev pub spells : Texts → List Effect → List ℕ → List ℕ
spells held [] text = text
spells held (x ∷ xs) text = spells held xs (text_after held text x)

-- ---- stages and labels

-- closed with a cause
abbrev pub has_ended : Stage → Bool
has_ended stage.Opening = false
has_ended stage.Running = false
has_ended stage.Whole = false
has_ended stage.Cut = true
has_ended stage.Same = false
has_ended stage.Refused = true

-- the text is whole
abbrev pub is_complete : Stage → Bool
is_complete stage.Opening = false
is_complete stage.Running = false
is_complete stage.Whole = true
is_complete stage.Cut = false
is_complete stage.Same = true
is_complete stage.Refused = false

-- the last attempt
abbrev pub last_of : Option Label → ℕ
last_of None = 0
last_of (Some (Fetched first last)) = last
last_of (Some (Imported hash size)) = 0

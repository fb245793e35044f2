-- A growing body as contracts see it.
use Rattle.std.specs.Prelude.{ℕ, List, [], Option, None, Some, option_map}
use Rattle.acng_head.specs.declared.head.Label.{Label}
use Rattle.acng_keeper.specs.Handles.{Handle, closed}
use Rattle.acng_keeper.specs.Slips.{Faults}
use Rattle.acng_grow.specs.declared.facts.Facts.{Facts}
use Rattle.acng_grow.specs.declared.facts.Seen.{Seen}
use Rattle.acng_grow.specs.declared.facts.Stage.{Stage}
use Rattle.acng_grow.specs.declared.why.Why.{Why}
use Rattle.acng_grow.specs.declared.why.Shown.{Shown}
use Rattle.acng_grow.specs.Causes.{shown_of}
use Rattle.acng_grow.specs.Effects.{last_of}

-- the handle and the faults of a file
abbrev pub File : Type 0
File = Handle × Faults

pub record Grown : Type 0 where
  pub path : List ℕ
  pub seen : Seen
  -- the file that is there
  pub file : Option File

-- the bytes; known only where the file tells
abbrev pub text_in : Option File → List ℕ
text_in None = []
text_in (Some f) = f.0.bytes

abbrev pub text_of : Grown → List ℕ
text_of g = text_in g.file

abbrev pub size_in : Option File → ℕ
size_in None = 0
size_in (Some f) = f.0.size

abbrev pub number_in : Option File → Option ℕ
number_in None = None
number_in (Some f) = Some f.0.number

-- the id of the file that is there
abbrev pub number_of : Grown → Option ℕ
number_of g = number_in g.file

-- the same body, with its file sealed or not to be written again
abbrev pub closed_file : Grown → Grown
closed_file g = record { path = g.path; seen = g.seen; file = option_map (λ f. (closed f.0, f.1)) g.file }

-- the cause as it is shown
abbrev pub shown_why : {P Q : Type 0} → (P → ℕ) → (Q → ℕ) → Option Label → Option (Why P Q) → Option Shown
shown_why number call label None = None
shown_why number call label (Some w) = Some (shown_of number call (last_of label) w)

-- the value of the fields, by what files and slips mean
abbrev pub grown_of : {F P Q : Type 0} → (F → Handle) → (F → Faults) → (P → ℕ) → (Q → ℕ) → List ℕ → Option (List ℕ) → Stage
    → Option Label → Facts → Option F → Option (Why P Q) → Grown
grown_of handle faults number call path url st label facts file w = record {
  path = path;
  seen = record {
    url = url;
    stage = st;
    label = label;
    facts = facts;
    size = size_in (option_map (λ f. (handle f, faults f)) file);
    shown = shown_why number call label w;
  };
  file = option_map (λ f. (handle f, faults f)) file;
}

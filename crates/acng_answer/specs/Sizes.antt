-- What comes after a size line.
use Rattle.std.specs.Prelude.{◌≡◌, ℕ, zero, suc, Bool, List, [], Option, Some, None, ⊤}
use Rattle.acng_base.specs.Answers.{Reading, nothing, Bad, last_chunk}
use Rattle.acng_answer.specs.declared.stage.End.TheVariants as ends
use Rattle.acng_answer.specs.declared.stage.Stage.{Stage}
use Rattle.acng_answer.specs.declared.stage.Stage.TheVariants.{Ended}
use Rattle.acng_answer.specs.declared.step.Step.{Step}
use Rattle.acng_answer.specs.declared.step.Step.TheVariants as steps
use Rattle.acng_answer.specs.Stages.{staged, in_chunk, Fits}

-- what follows a line whose first byte has the place `start`, by the size that it gives; `next` is the place after it
abbrev pub after_size : Option ℕ → ℕ → ℕ → Option ℕ → Bool → List ℕ → Reading
after_size part start next None ended text = nothing (Bad start)
after_size part start next (Some zero) ended text = last_chunk part next start ended text
after_size part start next (Some (suc m)) ended text = in_chunk (suc m) part next ended text

-- a size line goes on, or is bad at its first byte
abbrev pub IsSizeStep : ℕ → Step → Stage → Type 0
IsSizeStep start steps.More stage = ⊤
IsSizeStep start (steps.Bad at) stage = (at ≡ start) × (stage ≡ Ended (ends.Bad start) None)
IsSizeStep start steps.Head stage = ⊥
IsSizeStep start (steps.Body a b) stage = ⊥
IsSizeStep start steps.Whole stage = ⊥
IsSizeStep start steps.Early stage = ⊥

-- step and stage are those of the size
pub record IsSized (part : Option ℕ) (start next : ℕ) (size : Option ℕ) (step : Step) (stage : Stage) : Type 0 where
  pub kind : IsSizeStep start step stage
  pub fits : Fits stage [] next
  pub reads : (ended : Bool) (text : List ℕ) → after_size part start next size ended text ≡ staged stage [] next ended text

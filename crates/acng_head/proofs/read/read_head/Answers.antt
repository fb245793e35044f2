use Rattle.std.proofs.Common.{◌≡◌, ◌≢◌, None, refl, sym, ◌∙◌}
use Rattle.std.proofs.lemmas.Option.{none-some}
use Rattle.acng_base.specs.Paths.{path_refusal, refusal_of}
use Rattle.acng_base.specs.declared.path.PathFault.{PathFault}
use Rattle.acng_base.specs.declared.path.PathFault.TheVariants.{NoMemory, Empty, TooLong, BadByte, BadSegment}
use Rattle.acng_head.proofs.Same.{head_in, same_in, no_path}
use Rattle.acng_head.proofs.Lacking.{are_values}
use Rattle.acng_head.specs.Records.{values_of, cut_values}
use Rattle.acng_head.proofs.read.read_head.Goals as goal

pub returns-in_default-clause-head : goal.returns-in_default-clause-head
returns-in_default-clause-head c = λ h r. c.in_default.ensures (values_of h) (are_values h r.head) r.text

pub returns-in_default-clause-same : goal.returns-in_default-clause-same
returns-in_default-clause-same c = λ h r. absurd (c.in_default.ensures (values_of h) (are_values h r.head) r.text)

pub returns-in-Ok-clause-head : goal.returns-in-Ok-clause-head
returns-in-Ok-clause-head c =
    head_in (cut_values c.in-Some.lines) c.args.bytes.now c.in-Some.ensures.0 c.in-Some.ensures.1 c.head_of.result c.head_of.ensures

pub returns-in-Ok-clause-same : goal.returns-in-Ok-clause-same
returns-in-Ok-clause-same c =
    same_in (cut_values c.in-Some.lines) c.args.bytes.now c.in-Some.ensures.0 c.in-Some.ensures.1 c.head_of.result c.head_of.ensures

-- a refusal for another reason than memory names one
refuses : (fault : PathFault) → (fault ≡ NoMemory → ⊥) → refusal_of fault ≢ None
refuses NoMemory other e = other refl
refuses Empty other e = none-some _ (sym e)
refuses (TooLong len) other e = none-some _ (sym e)
refuses (BadByte at) other e = none-some _ (sym e)
refuses (BadSegment at) other e = none-some _ (sym e)

pub returns-in_default-fault : goal.returns-in_default-fault
returns-in_default-fault c =
    let values = cut_values c.in-Some.lines in
    let bad : path_refusal values.path ≢ None = λ n.
    refuses c.in-Err.fault c.in_default-fault.not-NoMemory (sym c.in-Err.ensures.refused ∙ n) in
    let none = no_path values c.args.bytes.now c.in-Some.ensures.0 c.in-Some.ensures.1 bad in
    record { head = none; same = λ h r. absurd (none h r) }

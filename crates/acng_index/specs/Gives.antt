-- What a call gives against what is expected; want of memory alone is free.
use Rattle.std.specs.Prelude.{◌≡◌, ◌≢◌, List, ◌++◌, Result, Ok, Err}
use Rattle.std.specs.Global.{Vec}
use Rattle.acng_index.specs.Texts.{and_then}
use Rattle.acng_index.specs.declared.fault.IndexFault.{IndexFault}
use Rattle.acng_index.specs.declared.fault.IndexFault.TheVariants.{NoMemory}

abbrev pub Gives : {A : Type 0} → Result A IndexFault → Result A IndexFault → Type 0
Gives expected (Ok x) = expected ≡ Ok x
Gives expected (Err f) = f ≢ NoMemory → expected ≡ Err f

abbrev pub GivesItems : {A : Type 0} → Result (List A) IndexFault → Result (Vec A) IndexFault → Type 0
GivesItems expected (Ok xs) = expected ≡ Ok xs.items
GivesItems expected (Err f) = f ≢ NoMemory → expected ≡ Err f

-- what is expected was added at the end
abbrev pub Adds : {A : Type 0} → Result (List A) IndexFault → List A → List A → Result (Unit {0}) IndexFault → Type 0
Adds expected old new (Ok u) = and_then expected (λ xs. Ok (old ++ xs)) ≡ Ok new
Adds expected old new (Err f) = f ≢ NoMemory → expected ≡ Err f

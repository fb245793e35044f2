-- What is said of known bytes.
use Rattle.std.proofs.Common.{ℕ, List, Option, Some, None, IfSome}

pub if_all : (P : List ℕ → Type 0) → ((bytes : List ℕ) → P bytes) → (o : Option (List ℕ)) → IfSome o P
if_all P each None = tt
if_all P each (Some bytes) = each bytes

pub if_also : (P Q : List ℕ → Type 0) → ((bytes : List ℕ) → P bytes → Q bytes) → (o : Option (List ℕ)) → IfSome o P → IfSome o Q
if_also P Q each None h = tt
if_also P Q each (Some bytes) h = each bytes h

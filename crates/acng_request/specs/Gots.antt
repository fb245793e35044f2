-- What each answer of a reading says.
use Rattle.std.specs.Prelude.{◌≡◌, ℕ, ◌⊎◌, List, ◌++◌, Some}
use Rattle.std.specs.Io.KnownBytes.{Consumes}
use Rattle.std.specs.declared.option.Option.{Option}
use Rattle.acng_base.specs.declared.link.Link.{Ghosts as LinkGhosts}
use Rattle.acng_request.specs.Nexts.{next, Asks, Ends}
use Rattle.acng_request.specs.declared.got.Request.{Request}
use Rattle.acng_request.specs.declared.got.HeadFault.{HeadFault}
use Rattle.acng_request.specs.declared.got.Got.{Got}
use Rattle.acng_request.specs.declared.got.Got.TheVariants as got

-- a fact on the request, where the answer is one
abbrev pub IfRequest : Got → (Request → Type 0) → Type 0
IfRequest (got.Request r) P = P r
IfRequest _ P = Unit {0}

-- a fact where the answer is no request
abbrev pub UnlessRequest : Got → Type 0 → Type 0
UnlessRequest (got.Request r) P = Unit {0}
UnlessRequest _ P = P

-- a fact where the link didn't fail
abbrev pub UnlessClientFault : Got → Type 0 → Type 0
UnlessClientFault got.ClientFault P = Unit {0}
UnlessClientFault _ P = P

-- a fact where the link ended
abbrev pub OnEnded : Got → Type 0 → Type 0
OnEnded got.Ended P = P
OnEnded _ P = Unit {0}

-- a fact where the link failed
abbrev pub OnClientFault : Got → Type 0 → Type 0
OnClientFault got.ClientFault P = P
OnClientFault _ P = Unit {0}

-- a fact where memory was refused
abbrev pub OnNoMemory : Got → Type 0 → Type 0
OnNoMemory got.NoMemory P = P
OnNoMemory _ P = Unit {0}

-- a fact on the cause, where the head is refused
abbrev pub IfRefused : Got → (HeadFault → Type 0) → Type 0
IfRefused (got.Refused f) P = P f
IfRefused _ P = Unit {0}

-- the bytes ask this request first; what follows its head is kept in the buffer or left in the link
abbrev pub GivesRequest : List ℕ → List ℕ → Option (List ℕ) → Request → Type 0
GivesRequest bytes kept left r = (rest : List ℕ) × (left ≡ Some rest) × (next bytes ≡ Asks r (kept ++ rest))

-- some bytes ask this request first
abbrev pub IsAsked : Request → Type 0
IsAsked r = (bytes : List ℕ) × (rest : List ℕ) × (next bytes ≡ Asks r rest)

-- the bytes ask some request first
abbrev pub AskSome : List ℕ → Type 0
AskSome bytes = (r : Request) × (rest : List ℕ) × (next bytes ≡ Asks r rest)

-- the link wasn't touched; or what was held before the last read decided nothing, and the front of what it gave is held
pub record ReadsOn {L : Type 0} (l : LinkGhosts L) (from to : L) (old : List ℕ) : Type 0 where
  pub front : List ℕ
  pub last : List ℕ
  pub taken : Consumes (l.left from) (l.left to) (front ++ last)
  pub undecided : next (old ++ front) ≡ Ends

abbrev pub ReadsWhileUndecided : {L : Type 0} (l : LinkGhosts L) → L → L → List ℕ → Type 0
ReadsWhileUndecided l from to old = (to ≡ from) ⊎ ReadsOn l from to old

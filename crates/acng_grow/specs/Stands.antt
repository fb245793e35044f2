-- When a text and facts stand for a label.
use Rattle.std.specs.Prelude.{◌≡◌, ℕ, true, List, [], length, take, drop, Option, None, Some, IfSome}
use Rattle.sha2.specs.Sha256.{sha256}
use Rattle.acng_base.specs.Heads.{Head}
use Rattle.acng_base.specs.Fields.{tag_of, modified_of}
use Rattle.acng_base.specs.Framings.{total_of}
use Rattle.acng_site.specs.declared.ask.Ask.{Ask}
use Rattle.acng_site.specs.declared.site.Site.{Ghosts as SiteGhosts}
use Rattle.acng_site.specs.Honest.{IsFront, heard}
use Rattle.acng_head.specs.declared.head.Label.{Label}
use Rattle.acng_head.specs.declared.head.Label.TheVariants.{Fetched, Imported}
use Rattle.acng_base.specs.declared.hash.Hash.{Hash}
use Rattle.acng_grow.specs.declared.facts.Facts.{Facts}

-- the text has this hash (FIPS 180-4) and this length
pub record IsImport (hash : Hash) (size : ℕ) (text : List ℕ) : Type 0 where
  pub hashed : sha256 text ≡ hash.0
  pub sized : length text ≡ size

-- the text is a front of the file as the first attempt found it, or the import
abbrev pub StandsFor : {S : Type 0} → SiteGhosts S → List ℕ → Label → List ℕ → Type 0
StandsFor s path (Fetched first last) text = s.tells ≡ true → IsFront (s.instance first path) text
StandsFor s path (Imported hash size) text = IsImport hash size text

-- and all of it
abbrev pub StandsWhole : {S : Type 0} → SiteGhosts S → List ℕ → Label → List ℕ → Type 0
StandsWhole s path (Fetched first last) text = s.tells ≡ true → s.instance first path ≡ text
StandsWhole s path (Imported hash size) text = IsImport hash size text

-- the piece stands in the file from a place on
abbrev pub StandsAt : List ℕ → ℕ → List ℕ → Type 0
StandsAt file from piece = take (length piece) (drop from file) ≡ piece

-- the file that a downloaded body is made of
abbrev pub file_of : {S : Type 0} → SiteGhosts S → List ℕ → Label → List ℕ
file_of s path (Fetched first last) = s.instance first path
file_of s path (Imported hash size) = []

-- a known total is the length of the file or of the import
abbrev pub IsLength : {S : Type 0} → SiteGhosts S → List ℕ → Label → ℕ → Type 0
IsLength s path (Fetched first last) n = s.tells ≡ true → n ≡ length (s.instance first path)
IsLength s path (Imported hash size) n = n ≡ size

-- a 200 head of the attempt gave these facts to an ask at a place of the path's file, at this URL where it is known
pub record IsGiven {S : Type 0} (s : SiteGhosts S) (path : List ℕ) (url : Option (List ℕ)) (first : ℕ) (facts : Facts) : Type 0 where
  pub ask : Ask
  pub head : Head
  pub place : s.serves ask.url path ≡ true
  pub at : IfSome url (λ u. ask.url ≡ u)
  pub read : (heard s first ask).head ≡ Some head
  pub full : head.status ≡ 200
  pub tag : facts.tag ≡ tag_of head
  pub modified : facts.modified ≡ modified_of head
  pub total : facts.total ≡ None → total_of head ≡ None

-- an import has no tag and no date
pub record AreOfImport (size : ℕ) (facts : Facts) : Type 0 where
  pub tag : facts.tag ≡ None
  pub modified : facts.modified ≡ None
  pub total : facts.total ≡ Some size

abbrev pub AreFrom : {S : Type 0} → SiteGhosts S → List ℕ → Option (List ℕ) → Label → Facts → Type 0
AreFrom s path url (Fetched first last) facts = s.tells ≡ true → IsGiven s path url first facts
AreFrom s path url (Imported hash size) facts = AreOfImport size facts

-- the facts stand for the label of a body that was first asked for at the URL, where one is known
pub record FactsStand {S : Type 0} (s : SiteGhosts S) (path : List ℕ) (url : Option (List ℕ)) (label : Label) (facts : Facts) : Type
    0 where
  pub total : IfSome facts.total (IsLength s path label)
  pub from : AreFrom s path url label facts

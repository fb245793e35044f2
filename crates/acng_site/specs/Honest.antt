-- What an honest site is (RFC 9110, sections 8.8.1, 15.3.1, 15.3.7 and 15.4).
use Rattle.std.specs.Prelude.{◌≡◌, ◌<◌, ℕ, ◌+◌, ◌-◌, true, not, List, length, take, drop, Some}
use Rattle.acng_base.specs.Heads.{Head}
use Rattle.acng_base.specs.Fields.{content_range, tag_of, location_of}
use Rattle.acng_base.specs.Framings.{total_of}
use Rattle.acng_base.specs.Answers.{Reading, reading, answer_limit}
use Rattle.acng_base.specs.Answers.Outcome.{Whole}
use Rattle.acng_site.specs.declared.ask.Ask.{Ask}
use Rattle.acng_site.specs.declared.place.Place.TheVariants.{At}
use Rattle.acng_site.specs.declared.site.Site.{Ghosts as SiteGhosts}
use Rattle.acng_site.specs.Places.{is_redirect, place_of}

-- what attempt n with ask a reads as, the connection ended where no fault cut it off
abbrev pub heard : {S : Type 0} → SiteGhosts S → ℕ → Ask → Reading
heard s n a = reading (s.sent n a) (not (s.faulted n a)) answer_limit

-- the text is a front of the file
abbrev pub IsFront : List ℕ → List ℕ → Type 0
IsFront file text = take (length text) file ≡ text

-- an answer carries a text: its body is a front of it, and all of it where the answer is whole
pub record Carries (text : List ℕ) (r : Reading) : Type 0 where
  pub front : IsFront text r.body
  pub all : r.outcome ≡ Whole → r.body ≡ text

-- the bytes of a file from the first place of a range to the last one
abbrev pub part_of : List ℕ → ℕ × ℕ × ℕ → List ℕ
part_of file range = take (range.1 + 1 - range.0) (drop range.0 file)

-- a 206 with a range carries the part, and the total of the range is the file's length
pub record CarriesPart (file : List ℕ) (range : ℕ × ℕ × ℕ) (r : Reading) : Type 0 where
  pub part : Carries (part_of file range) r
  pub total : range.2 ≡ length file

-- an answer as a mirror gives it that holds this instance of the file: a 200 carries the file, and a length that it states
-- is the file's
pub record IsHonestAnswer (file : List ℕ) (r : Reading) : Type 0 where
  pub whole : (h : Head) → r.head ≡ Some h → h.status ≡ 200 → Carries file r
  pub stated : (h : Head) (n : ℕ) → r.head ≡ Some h → h.status ≡ 200 → total_of h ≡ Some n → n ≡ length file
  pub part : (h : Head) (range : ℕ × ℕ × ℕ) → r.head ≡ Some h → h.status ≡ 206 → content_range h ≡ Some range
      → CarriesPart file range r

-- the URL gave the tag in a 200 head of attempt n
pub record GaveTag {S : Type 0} (s : SiteGhosts S) (n : ℕ) (url tag : List ℕ) : Type 0 where
  pub ask : Ask
  pub at : ask.url ≡ url
  pub head : Head
  pub is : (heard s n ask).head ≡ Some head
  pub ok : head.status ≡ 200
  pub tagged : tag_of head ≡ Some tag

pub record IsHonest {S : Type 0} (s : SiteGhosts S) : Type 0 where
  -- a redirect leads from a place of a file to a place of the same file
  pub leads : (n : ℕ) (a : Ask) (p : List ℕ) (h : Head) (url : List ℕ) → s.serves a.url p ≡ true → (heard s n a).head ≡ Some h
      → is_redirect h.status ≡ true → place_of a.url (location_of h) ≡ At url → s.serves url p ≡ true
  -- a place of a file gives the file as the attempt found it
  pub gives : (n : ℕ) (a : Ask) (p : List ℕ) → s.serves a.url p ≡ true → IsHonestAnswer (s.instance n p) (heard s n a)
  -- a tag is strong: a 206 to an ask with a tag that the URL gave in an earlier attempt is of the same instance
  pub strong : (m n : ℕ) (a : Ask) (p tag : List ℕ) (h : Head) → s.serves a.url p ≡ true → a.tag ≡ Some tag → m < n
      → GaveTag s m a.url tag → (heard s n a).head ≡ Some h → h.status ≡ 206 → s.instance n p ≡ s.instance m p

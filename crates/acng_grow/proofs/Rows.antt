-- Downloads, held against literal readings.
use Rattle.std.proofs.Common.{◌≡◌, refl, ℕ, ◌==◌, if◌then◌else◌, List, [], ◌∷◌, ◌++◌, Some, None, codes}
use Rattle.acng_base.specs.Answers.{Reading, Outcome}
use Rattle.acng_base.specs.Answers.Outcome.{Whole, Early, Open, Bad}
use Rattle.acng_site.specs.declared.ask.Ask.{Ask}
use Rattle.acng_head.specs.declared.head.Label.TheVariants.{Fetched}
use Rattle.acng_grow.specs.declared.facts.Facts.{Facts}
use Rattle.acng_grow.specs.declared.why.Shown.TheVariants as shown
use Rattle.acng_grow.specs.Effects.{Errand, Start, GoOn, Resume, Bytes, Finish, Same, Refuse, Cut, opening, runs, spells}
use Rattle.acng_grow.specs.Download.{download, left_of, begins}

abbrev field : List ℕ → List ℕ → List (List ℕ × List ℕ)
field name value = (name, value) ∷ []

abbrev answer : ℕ → List (List ℕ × List ℕ) → List ℕ → Outcome → Reading
answer status fields body outcome =
    record { interim = []; head = Some (record { status = status; fields = fields }); body = body; outcome = outcome }

abbrev tag : List ℕ
tag = codes "\"x\""

-- a 200 of three bytes with a tag, and the third byte
abbrev full : List (List ℕ × List ℕ)
full = field (codes "Content-Length") (codes "3") ++ field (codes "ETag") tag

abbrev third : List (List ℕ × List ℕ)
third = field (codes "Content-Range") (codes "bytes 2-2/3")

abbrev known : Facts
known = record { total = Some 3; modified = None; tag = Some tag }

abbrev url : List ℕ
url = codes "http://a/f"

abbrev one : Errand
one = record { origins = url ∷ []; redir_max = 5; part = None; old = None }

-- attempt 0 breaks off after two bytes, and the next one gives the third
abbrev resumed : ℕ → Ask → Reading
resumed n a = if n == 0 then answer 200 full (codes "ab") Open else answer 206 third (codes "c") Whole

resumes : download resumed one 16 0 ≡ Start 0 url known ∷ Bytes (codes "ab") ∷ Resume 1 ∷ Bytes (codes "c") ∷ Finish ∷ []
resumes = refl

-- it used two of the sixteen tries
two_used : left_of resumed one 16 0 (begins one.origins one.part) ≡ 14
two_used = refl

-- what is to be seen in the end, and the text
seen : runs one (download resumed one 16 0) opening ≡ record (runs one (Start 0 url known ∷ Resume 1 ∷ Finish ∷ []) opening) { size = 3 }
seen = refl

text : spells (record { part = []; old = [] }) (download resumed one 16 0) [] ≡ codes "abc"
text = refl

-- attempt 1 gives a whole other file: the body is cut, and another ticket takes that file
abbrev changed : ℕ → Ask → Reading
changed n a =
    if n == 0 then answer 200 full (codes "ab") Open else answer 200 (field (codes "Content-Length") (codes "3")) (codes "xyz") Whole

cuts : download changed one 16 0 ≡ Start 0 url known ∷ Bytes (codes "ab") ∷ Cut (shown.Origin 0) ∷ []
cuts = refl

abbrev again : Errand
again = record {
  origins = url ∷ [];
  redir_max = 5;
  part = Some (record { url = url; first = 0; last = 0; facts = known; size = 2 });
  old = None;
}

begins_anew : download changed again 16 16 ≡ Start 16 url (record { total = Some 3; modified = None; tag = None }) ∷ Bytes (codes
    "xyz") ∷ Finish ∷ []
begins_anew = refl

goes_on_with_it : download resumed again 16 16 ≡ GoOn 16 ∷ Bytes (codes "c") ∷ Finish ∷ []
goes_on_with_it = refl

-- a partial body without a tag isn't gone on with, whatever range comes
abbrev untagged : Errand
untagged = record again {
  part = Some (record {
    url = url;
    first = 0;
    last = 0;
    facts = record {
      total = Some 3;
      modified = None;
      tag
          = None;
    };
    size = 2;
  });
}

asks_anew : download resumed untagged 1 16 ≡ Refuse (shown.Status 16 206) ∷ []
asks_anew = refl

-- two origins: the first has no file
abbrev second : List ℕ
second = codes "http://b/f"

abbrev two : Errand
two = record { origins = url ∷ second ∷ []; redir_max = 5; part = None; old = None }

abbrev gone_then : ℕ → Ask → Reading
gone_then n a = if n == 0 then answer 404 [] [] Whole else answer 200 full (codes "abc") Whole

next_origin : download gone_then two 16 0 ≡ Start 1 second known ∷ Bytes (codes "abc") ∷ Finish ∷ []
next_origin = refl

abbrev both_gone : ℕ → Ask → Reading
both_gone n a = answer 404 [] [] Whole

no_origin : download both_gone two 16 0 ≡ Refuse (shown.Gone 1) ∷ []
no_origin = refl

-- an early end without a tag cuts, and one before the head asks the next origin
abbrev early : ℕ → Ask → Reading
early n a = answer 200 (field (codes "Content-Length") (codes "3")) (codes "ab") Early

no_tag : download early one 16 0 ≡ Start 0 url (record { total = Some 3; modified = None; tag = None }) ∷ Bytes (codes "ab") ∷ Cut
    (shown.Early 0) ∷ []
no_tag = refl

abbrev no_head : ℕ → Ask → Reading
no_head n a = record { interim = []; head = None; body = []; outcome = Bad 7 }

bad_head : download no_head two 16 0 ≡ Refuse (shown.Bad 1 7) ∷ []
bad_head = refl

-- a held body that isn't newer stays
abbrev held : Errand
held = record {
  origins = url ∷ [];
  redir_max = 5;
  part = None;
  old = Some (record {
    label = Fetched 0 0;
    facts = record { total = Some 3; modified = Some (record { 0 = 1000 }); tag = None };
    size = 3;
  });
}

abbrev unchanged : ℕ → Ask → Reading
unchanged n a = answer 304 [] [] Whole

stays : download unchanged held 16 7 ≡ Same ∷ []
stays = refl

not_asked : download unchanged one 16 7 ≡ Refuse (shown.Status 7 304) ∷ []
not_asked = refl

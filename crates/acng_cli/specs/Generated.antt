-- The command `gen`: what a cache is asked over a repository, what two expirations make of it, and the line.
use Rattle.std.specs.Prelude.{◌≡◌, ◌==◌, ◌&&◌, ℕ, ◌-◌, ◌^◌, Bool, true, false, List, [], ◌∷◌, ◌++◌, length, codes, decimal, None, Ok}
use Rattle.std.specs.FinMap as map
use Rattle.acng_site.specs.declared.rule.Rule.{Rule}
use Rattle.acng_site.specs.declared.site.Site.{Ghosts as SiteGhosts}
use Rattle.acng_conf.specs.Settings.{Settings, rules_of}
use Rattle.acng_conf.specs.Readings.{reading}
use Rattle.acng_keeper.specs.Kept.{nothing}
use Rattle.acng_keeper.specs.declared.calls.CallSlip.{CallSlip}
use Rattle.acng_request.specs.declared.got.Request.{Request}
use Rattle.acng_reply.specs.Manners.{manner_of}
use Rattle.acng_reply.specs.Replies.{Sent}
use Rattle.acng_desk.specs.House.{House}
use Rattle.acng_desk.specs.Starts.{IsStarted, most_rows}
use Rattle.acng_expire.specs.Expirations.{IsDoneBy}
use Rattle.acng_serve.specs.declared.note.Note.{Note}
use Rattle.acng_serve.specs.Answers.{AnswersAt}
use Rattle.acng_cli.specs.declared.generate.Counts.{Counts}
use Rattle.acng_cli.specs.declared.repository.RepositoryFile.{RepositoryFile}
use Rattle.acng_cli.specs.Repository.{files_of}

-- the moment of the requests and of the first expiration, and that of the second
abbrev pub first_moment : ℕ
first_moment = 1000000

abbrev pub last_moment : ℕ
last_moment = 1345601

-- ---- the mirror tells each file at each attempt

abbrev pub url_of : RepositoryFile → List ℕ
url_of file = codes "http://gen.example/" ++ file.path

abbrev pub answer_of : RepositoryFile → List ℕ
answer_of file =
    codes "HTTP/1.1 200 OK\r\nContent-Length: " ++ decimal (length file.bytes) ++ codes "\r\n\r\n" ++ file.bytes

abbrev pub rule_of : RepositoryFile → Rule
rule_of file = record {
  url = url_of file;
  from = 0;
  first = 0;
  last = 2 ^ 64 - 1;
  bytes = answer_of file;
  fault = false;
}

-- ---- the requests

abbrev pub request_of : RepositoryFile → Request
request_of file = record {
  method = codes "GET";
  target = url_of file;
  part = None;
  if_range = None;
  since = None;
  close = false;
  minor = 1;
}

-- all of a file was sent
abbrev pub is_sent : Note CallSlip → Bool
is_sent note = note.status == 200 && note.whole

-- a file was asked for at the first moment, and all of it was sent
pub record IsAsked {S : Type 0} (s : SiteGhosts S) (conf : Settings) (file : RepositoryFile) (old new : House) : Type 0 where
  pub note : Note CallSlip
  pub io : Sent
  pub answers : AnswersAt s true conf (manner_of true (request_of file)) (request_of file) (record { 0 = first_moment }) old new note io
  pub sent : is_sent note ≡ true

-- one file after another
abbrev pub AreAsked : {S : Type 0} → SiteGhosts S → Settings → List RepositoryFile → House → House → Type 0
AreAsked s conf [] old new = new ≡ old
AreAsked s conf (file ∷ files) old new = (mid : House) × IsAsked s conf file old mid × AreAsked s conf files mid new

-- a cache over nothing was asked for them
pub record IsFetched {S : Type 0} (s : SiteGhosts S) (conf : Settings) (files : List RepositoryFile) (h : House) : Type 0 where
  pub begun : House
  pub started : IsStarted true nothing 0 0 most_rows (rules_of conf) begun
  pub asked : AreAsked s conf files begun h

-- ---- the expirations

-- the paths before and after, the marks of an expiration at the first moment, and the removals of one at the last
pub record IsCounted (h : House) (counts : Counts) : Type 0 where
  pub marked : House
  pub swept : House
  pub removed_first : ℕ
  pub marked_last : ℕ
  pub rows : counts.rows ≡ map.len h.plain.rows
  pub first : IsDoneBy true [] first_moment h marked removed_first counts.marked
  pub last : IsDoneBy true [] last_moment marked swept counts.removed marked_last
  pub left : counts.left ≡ map.len swept.plain.rows

-- ---- the line

abbrev pub gen_line : ℕ → Counts → List ℕ
gen_line n counts =
    codes "gen " ++ decimal n ++ codes ": rows " ++ decimal counts.rows ++ codes ", marked " ++ decimal counts.marked
    ++ codes ", removed " ++ decimal counts.removed ++ codes ", left " ++ decimal counts.left ++ 10 ∷ []

-- the line of a run over the repository of the number
pub record IsGenerated {S : Type 0} (s : SiteGhosts S) (n : ℕ) (text : List ℕ) : Type 0 where
  pub conf : Settings
  pub says : reading [] [] ≡ Ok conf
  pub fetched : House
  pub is_fetched : IsFetched s conf (files_of n) fetched
  pub counts : Counts
  pub is_counted : IsCounted fetched counts
  pub line : text ≡ gen_line n counts

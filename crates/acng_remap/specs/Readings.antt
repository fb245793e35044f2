-- What a request asks for: the path in the cache, and the URLs from which the file may come.
use Rattle.std.specs.Prelude.{ℕ, ◌+◌, not, ◌||◌, ◌==◌, List, [], ◌∷◌, ◌++◌, cond, codes, length, map, drop, bytes_eq, Option, Some, None, Result, Ok, Err, MatchResult, ◌≡◌, ◌≢◌, ◌≤◌}
use Rattle.std.specs.Bool.{⊤}
use Rattle.acng_base.specs.Cuts.{slash}
use Rattle.acng_base.specs.Paths.{path_refusal}
use Rattle.acng_base.specs.declared.path.PathFault.TheVariants.{Empty}
use Rattle.acng_base.specs.declared.path.PathFault.{PathFault}
use Rattle.acng_conf.specs.Lines.{number_sign}
use Rattle.acng_conf.specs.Places.{plain_path, escaped_path}
use Rattle.acng_conf.specs.Readings.{called}
use Rattle.acng_conf.specs.Settings.{Mirrors, Settings}
use Rattle.acng_remap.specs.Decisions.{deciding, group_of, group, has_target}
use Rattle.acng_remap.specs.Forms.{question_mark, is_tls, page_query, is_absolute, has_slash, has, after_start, before_slash, from_slash}
use Rattle.acng_remap.specs.Hosts.{host_port, host_name, host_text}
use Rattle.acng_remap.specs.declared.target.Target.{Target}
use Rattle.acng_remap.specs.declared.target.Target.TheVariants.{File, Page}
use Rattle.acng_remap.specs.declared.target.TargetFault.{TargetFault}
use Rattle.acng_remap.specs.declared.target.TargetFault.TheVariants.{NoMemory, Connect, Tls, BadTarget, Query, BadPath}

abbrev pub Reading : Type 0
Reading = Result Target TargetFault

-- a file may come from somewhere
abbrev pub HasOrigin : Target → Type 0
HasOrigin (File path origins) = 1 ≤ length origins
HasOrigin (Page query) = ⊤

-- what a call gives against what is to be read; want of memory alone is free
abbrev pub Gives : Reading → Reading → Type 0
Gives expected result = MatchResult result (λ t. expected ≡ Ok t) (λ fault. fault ≢ NoMemory → expected ≡ Err fault)

-- the same of a path alone
abbrev pub GivesPath : List ℕ → Result (List ℕ) TargetFault → Type 0
GivesPath text result =
    MatchResult result (λ path. (path ≡ text) × (path_refusal text ≡ None))
    (λ fault. fault ≢ NoMemory → path_or (path_refusal text) text ≡ Err fault)
  where
    path_or : Option PathFault → List ℕ → Result (List ℕ) TargetFault
    path_or None path = Ok path
    path_or (Some fault) path = Err (BadPath fault)

abbrev pub file_or : Option PathFault → List ℕ → List (List ℕ) → Reading
file_or None path origins = Ok (File path origins)
file_or (Some fault) path origins = Err (BadPath fault)

-- the file, if its path is one of the cache
abbrev pub file : List ℕ → List (List ℕ) → Reading
file path origins = file_or (path_refusal path) path origins

-- ---- where a file may come from

-- the URL of a place
abbrev pub url_of : List ℕ → List ℕ
url_of place = codes "http://" ++ escaped_path place

-- a target of a group, and what is asked of it
abbrev pub asked : List ℕ → List ℕ → List ℕ
asked rest target = target ++ slash ∷ escaped_path rest

-- each target of the group; without one the place itself
unfoldable pub group_origins : Mirrors → List ℕ → List ℕ → List (List ℕ)
group_origins g rest place = cond (has_target g) (map (asked rest) g.targets) (url_of place ∷ [])

-- ---- what a place stands for

-- a file of a group
unfoldable pub group_file : Mirrors → List ℕ → List ℕ → Reading
group_file g rest place = cond (length rest == 0) (Err (BadPath Empty)) (file (g.name ++ slash ∷ rest) (group_origins g rest place))

-- a file of a place that belongs to no group; something must follow the host
unfoldable pub file_outside_groups : List ℕ → List ℕ → Reading
file_outside_groups place host = cond (length place == length host) (Err (BadPath Empty)) (file place (url_of place ∷ []))

-- what stands behind a front of the place and the slash after it
abbrev pub rest_after : List ℕ → List ℕ → List ℕ
rest_after front place = drop (length front + 1) place

-- the file behind an entry
abbrev pub entry_file : List Mirrors → List ℕ → List ℕ → Option ℕ → Reading
entry_file groups place entry None = Err BadTarget
entry_file groups place entry (Some k) = group_file (group groups k) (rest_after entry place) place

-- a group's name is a host too, at port 80
abbrev pub named_group : List Mirrors → List ℕ → ℕ → Option ℕ
named_group groups host port = cond (port == 80) (called host groups) None

abbrev pub named_file : List Mirrors → List ℕ → List ℕ → Option ℕ → Reading
named_file groups place host None = file_outside_groups place host
named_file groups place host (Some k) =
    cond (has_target (group groups k)) (group_file (group groups k) (rest_after host place) place) (Err BadTarget)

abbrev pub placed : List Mirrors → List ℕ → List ℕ → ℕ → Option (List ℕ) → Reading
placed groups place host port (Some entry) = entry_file groups place entry (group_of groups entry)
placed groups place host port None = named_file groups place host (named_group groups host port)

-- the file of a place: its host's canonical text and its port, and then the segments with a slash before each
unfoldable pub place_file : List Mirrors → List ℕ → List ℕ → ℕ → Reading
place_file groups place host port = placed groups place host port (deciding groups place)

-- ---- what a target stands for

abbrev pub of_host : List Mirrors → List ℕ → ℕ → List ℕ → Reading
of_host groups host port path = place_file groups (host ++ plain_path path) host port

abbrev pub hosted : List Mirrors → List ℕ → Option ℕ → Reading
hosted groups text None = Err BadTarget
hosted groups text (Some port) = of_host groups (host_text (host_name (before_slash text)) port) port (from_slash text)

-- a host's text, and a path
unfoldable pub host_file : List Mirrors → List ℕ → Reading
host_file groups text = hosted groups text (host_port (before_slash text))

abbrev pub prefixed : List Mirrors → List ℕ → Option (List ℕ) → Reading
prefixed groups target (Some entry) = entry_file groups (plain_path target) entry (group_of groups entry)
prefixed groups target None = host_file groups (after_start target)

-- a path prefix goes before a host
unfoldable pub target_file : List Mirrors → List ℕ → Reading
target_file groups target = prefixed groups target (cond (has_slash target) (deciding groups (plain_path target)) None)

abbrev pub form_of : List Mirrors → List ℕ → Reading
form_of groups target =
    cond (not (is_absolute target || has_slash target) || has number_sign target) (Err BadTarget)
    (cond (has question_mark target) (Err Query) (target_file groups target))

abbrev pub page_or : Option (List ℕ) → Reading → Reading
page_or (Some query) other = Ok (Page query)
page_or None other = other

-- what a method and a target ask for: the first rule that fits decides
unfoldable pub reading : Settings → List ℕ → List ℕ → Reading
reading s method target =
    cond (bytes_eq method (codes "CONNECT")) (Err Connect)
    (cond (is_tls target) (Err Tls)
    (page_or (page_query s.report_page target) (form_of s.groups target)))

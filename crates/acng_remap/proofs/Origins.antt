-- Each file that is read has an origin.
use Rattle.std.proofs.Common.{ℕ, ◌≤◌, Bool, true, false, not, ◌||◌, ◌==◌, List, [], ◌∷◌, ◌++◌, Option, Some, None, Ok, Err, cond, map, length, subst, arith}
use Rattle.std.specs.Bool.{⊤}
use Rattle.std.specs.Result.{IfOk}
use Rattle.std.proofs.lemmas.Grind.{common_steps}
use Rattle.acng_base.specs.Paths.{path_refusal}
use Rattle.acng_base.specs.declared.path.PathFault.{PathFault}
use Rattle.acng_conf.specs.Settings.{Mirrors}
use Rattle.acng_remap.specs.Decisions.{deciding, group_of, group, has_target}
use Rattle.acng_remap.specs.Forms.{is_absolute, has, after_start, before_slash, from_slash, has_slash}
use Rattle.acng_remap.specs.Hosts.{host_port, host_name, host_text}
use Rattle.acng_conf.specs.Places.{plain_path}
use Rattle.acng_remap.specs.Readings.{Reading, Gives, HasOrigin, form_of, target_file, prefixed, host_file, hosted, place_file, placed, named_file, named_group, entry_file, file_outside_groups, group_file, group_origins, file, file_or, asked, url_of, rest_after}
use Rattle.acng_remap.specs.declared.target.TargetFault.{TargetFault}
use Rattle.acng_remap.specs.declared.target.TargetFault.TheVariants.{BadTarget, Query}

abbrev pub Sourced : Reading → Type 0
Sourced (Ok t) = HasOrigin t
Sourced (Err fault) = ⊤

either : (b : Bool) (x y : Reading) → Sourced x → Sourced y → Sourced (cond b x y)
either true x y hx hy = hx
either false x y hx hy = hy

of_file : (path : List ℕ) (origins : List (List ℕ)) → 1 ≤ length origins → Sourced (file path origins)
of_file path origins some = cases (path_refusal path)
  where
    cases : (o : Option PathFault) → Sourced (file_or o path origins)
    cases None = some
    cases (Some fault) = tt

some_origin : (g : Mirrors) (rest place : List ℕ) → 1 ≤ length (group_origins g rest place)
unfolding group_origins
some_origin g rest place = cases g.targets
  where
    cases : (ts : List (List ℕ)) → 1 ≤ length (cond (not (length ts == 0)) (map (asked rest) ts) (url_of place ∷ []))
    cases [] = grind (arith, common_steps)
    cases (t ∷ ts) = grind (arith, common_steps)

of_group : (g : Mirrors) (rest place : List ℕ) → Sourced (group_file g rest place)
unfolding group_file
of_group g rest place = either (length rest == 0) _ _ tt (of_file (g.name ++ 47 ∷ rest) (group_origins g rest place) (some_origin g rest place))

of_own : (place host : List ℕ) → Sourced (file_outside_groups place host)
unfolding file_outside_groups
of_own place host = either (length place == length host) _ _ tt (of_file place (url_of place ∷ []) (omega arith))

of_entry : (groups : List Mirrors) (place entry : List ℕ) (k : Option ℕ) → Sourced (entry_file groups place entry k)
of_entry groups place entry None = tt
of_entry groups place entry (Some k) = of_group (group groups k) (rest_after entry place) place

of_named : (groups : List Mirrors) (place host : List ℕ) (k : Option ℕ) → Sourced (named_file groups place host k)
of_named groups place host None = of_own place host
of_named groups place host (Some k) = either (has_target (group groups k)) _ _ (of_group (group groups k) (rest_after host place) place) tt

of_placed : (groups : List Mirrors) (place host : List ℕ) (port : ℕ) (entry : Option (List ℕ)) → Sourced (placed groups place host port entry)
of_placed groups place host port None = of_named groups place host (named_group groups host port)
of_placed groups place host port (Some entry) = of_entry groups place entry (group_of groups entry)

of_place : (groups : List Mirrors) (place host : List ℕ) (port : ℕ) → Sourced (place_file groups place host port)
unfolding place_file
of_place groups place host port = of_placed groups place host port (deciding groups place)

of_hosted : (groups : List Mirrors) (text : List ℕ) (port : Option ℕ) → Sourced (hosted groups text port)
of_hosted groups text None = tt
of_hosted groups text (Some port) =
    let host = host_text (host_name (before_slash text)) port in
    of_place groups (host ++ plain_path (from_slash text)) host port

of_host_file : (groups : List Mirrors) (text : List ℕ) → Sourced (host_file groups text)
unfolding host_file
of_host_file groups text = of_hosted groups text (host_port (before_slash text))

of_prefixed : (groups : List Mirrors) (target : List ℕ) (entry : Option (List ℕ)) → Sourced (prefixed groups target entry)
of_prefixed groups target None = of_host_file groups (after_start target)
of_prefixed groups target (Some entry) = of_entry groups (plain_path target) entry (group_of groups entry)

of_target : (groups : List Mirrors) (target : List ℕ) → Sourced (target_file groups target)
unfolding target_file
of_target groups target = of_prefixed groups target (cond (has_slash target) (deciding groups (plain_path target)) None)

-- a refusal, or what else is read
or_err : (b : Bool) (fault : TargetFault) (y : Reading) → Sourced y → Sourced (cond b (Err fault) y)
or_err true fault y h = tt
or_err false fault y h = h

of_form : (groups : List Mirrors) (target : List ℕ) → Sourced (form_of groups target)
of_form groups target =
    or_err (not (is_absolute target || has_slash target) || has 35 target) BadTarget (cond (has 63 target) (Err Query) (target_file groups target))
    (or_err (has 63 target) Query (target_file groups target) (of_target groups target))

-- a file that a call gives is one that was to be read
pub given_origin : (groups : List Mirrors) (target : List ℕ) (r : Reading) → Gives (form_of groups target) r → IfOk r HasOrigin
given_origin groups target (Err fault) h = tt
given_origin groups target (Ok t) h = subst Sourced h (of_form groups target)

-- A path's origins are those of the path, whatever target it was read from.
use Rattle.std.proofs.Common.{◌≡◌, ℕ, suc, ◌+◌, ◌<◌, Bool, true, false, not, ◌==◌, ◌||◌, codes, bytes_eq, List, [], ◌∷◌, ◌++◌, Option, Some, None, Ok, Err, cond, map, length, drop, nat_lt, refl, sym, ap, ◌∙◌, subst, arith}
use Rattle.std.specs.Bool.{⊤}
use Rattle.std.specs.List.{position, position_or_len, filter, slice_split}
use Rattle.std.specs.Option.{option_and_then}
use Rattle.std.proofs.lemmas.Iterator.Adapters.{position_from-zero}
use Rattle.percent_encoding.specs.Percent.{percent_decode}
use borrow.Author.Tests.{ltb-true}
use Rattle.acng_base.specs.Paths.{path_refusal, is_slash}
use Rattle.acng_base.specs.declared.path.PathFault.{PathFault}
use Rattle.acng_base.specs.Cuts.{is_empty}
use Rattle.acng_conf.specs.Places.{plain_path}
use Rattle.acng_conf.specs.Readings.{owner, new_group, called, are_names}
use Rattle.acng_conf.specs.Settings.{Mirrors, Settings}
use Rattle.acng_remap.specs.Decisions.{deciding, group_of, if_counts, group, has_target}
use Rattle.acng_remap.specs.Forms.{is_tls, is_absolute, has, page_query, after_start, before_slash, from_slash, has_slash}
use Rattle.acng_remap.specs.Hosts.{host_port, host_name, host_text}
use Rattle.acng_remap.specs.Origins.{lacks, is_orphan, origins_by, origins_of}
use Rattle.acng_remap.specs.Readings.{Reading, reading, form_of, page_or, target_file, prefixed, host_file, hosted, place_file, placed, named_file, named_group, entry_file, file_outside_groups, group_file, group_origins, file, file_or, asked, url_of, rest_after}
use Rattle.acng_remap.specs.declared.target.Target.{Target}
use Rattle.acng_remap.specs.declared.target.Target.TheVariants.{File, Page}
use Rattle.acng_remap.specs.declared.target.TargetFault.{TargetFault}
use Rattle.acng_remap.specs.declared.target.TargetFault.TheVariants.{Connect, Tls, BadTarget, Query}
use Rattle.acng_remap.proofs.Names.{own, nowhere}
use Rattle.acng_remap.proofs.Fronts.{host_plain, before_name, before_segments, none_at, no_name, has_colon}

-- a file's origins are those of its path
abbrev IsOf : List Mirrors → Target → Type 0
IsOf groups (File path origins) = is_orphan groups path ≡ false → origins ≡ origins_of groups path
IsOf groups (Page query) = ⊤

abbrev Follows : List Mirrors → Reading → Type 0
Follows groups (Ok t) = IsOf groups t
Follows groups (Err fault) = ⊤

or_err : (groups : List Mirrors) (b : Bool) (fault : TargetFault) (y : Reading) → Follows groups y → Follows groups (cond b (Err fault) y)
or_err groups true fault y h = tt
or_err groups false fault y h = h

of_file : (groups : List Mirrors) (path : List ℕ) (origins : List (List ℕ)) → (is_orphan groups path ≡ false → origins ≡ origins_of groups path) → Follows groups (file path origins)
of_file groups path origins h = cases (path_refusal path)
  where
    cases : (o : Option PathFault) → Follows groups (file_or o path origins)
    cases None = h
    cases (Some fault) = tt

-- what stands behind a name and a slash
pub rest_of : (name rest : List ℕ) → drop (length name + 1) (name ++ 47 ∷ rest) ≡ rest
rest_of [] rest = refl
rest_of (b ∷ bs) rest =
    let e : suc (length bs) + 1 ≡ suc (length bs + 1) = omega arith in
    ap (λ n. drop n (b ∷ (bs ++ 47 ∷ rest))) e ∙ rest_of bs rest

not_not : (b : Bool) → not b ≡ false → b ≡ true
not_not true h = refl
not_not false h = cc

of_group : (groups : List Mirrors) (k : ℕ) (rest place : List ℕ) → are_names groups ≡ true → k < length groups → Follows groups (group_file (group groups k) rest place)
unfolding group_file group_origins
of_group groups k rest place names lt = or_err groups (length rest == 0) _ (file path (group_origins g rest place)) (of_file groups path (group_origins g rest place) same)
  where
    g : Mirrors
    g = group groups k

    path : List ℕ
    path = g.name ++ 47 ∷ rest

    name : before_slash path ≡ g.name
    name = before_name g.name rest (none_at (λ h. has 47 h.name) groups k (new_group [] 0) (nowhere 47 refl groups names) lt)

    found : called (before_slash path) groups ≡ Some k
    found = ap (λ n. called n groups) name ∙ own groups k names lt

    after : rest_after (before_slash path) path ≡ rest
    after = ap (λ n. rest_after n path) name ∙ rest_of g.name rest

    same : is_orphan groups path ≡ false → group_origins g rest place ≡ origins_of groups path
    same orphan =
        let target : has_target g ≡ true = not_not (has_target g) (sym (ap (lacks groups) found) ∙ orphan) in
        ap (λ b. cond b (map (asked rest) g.targets) (url_of place ∷ [])) target
        ∙ ap (λ r. map (asked r) g.targets) (sym after)
        ∙ sym (ap (origins_by groups path) found)

of_own : (groups : List Mirrors) (place host : List ℕ) → before_slash place ≡ host → called host groups ≡ None → Follows groups (file_outside_groups place host)
unfolding file_outside_groups
of_own groups place host name none =
    or_err groups (length place == length host) _ (file place (url_of place ∷ []))
    (of_file groups place (url_of place ∷ []) (λ orphan. sym (ap (origins_by groups place) (ap (λ n. called n groups) name ∙ none))))

-- ---- numbers of groups

within : {X : Type 0} (p : X → Bool) (xs : List X) (k : ℕ) → position p xs ≡ Some k → k < length xs
within p xs k h = cases (nat_lt (position_or_len p xs) (length xs)) refl h
  where
    cases : (t : Bool) → nat_lt (position_or_len p xs) (length xs) ≡ t → cond t (Some (position_or_len p xs)) None ≡ Some k → k < length xs
    cases true e h = let same : position_or_len p xs ≡ k = cc in let lt : position_or_len p xs < length xs = ltb-true _ _ e in subst (λ j. j < length xs) same lt
    cases false e h = cc

home_within : (groups : List Mirrors) (e : List ℕ) (k : ℕ) → group_of groups e ≡ Some k → k < length groups
unfolding group_of
home_within groups e k h = cases (owner e groups) refl h
  where
    counted : (b : Bool) (j : ℕ) → cond b (Some j) None ≡ Some k → j ≡ k
    counted true j h = cc
    counted false j h = cc

    cases : (o : Option ℕ) → owner e groups ≡ o → option_and_then (λ j. if_counts e groups j) o ≡ Some k → k < length groups
    cases None is h = cc
    cases (Some j) is h = subst (λ i. i < length groups) (counted _ j h) (within _ groups j is)

of_entry : (groups : List Mirrors) (place entry : List ℕ) → are_names groups ≡ true → Follows groups (entry_file groups place entry (group_of groups entry))
of_entry groups place entry names = cases (group_of groups entry) refl
  where
    cases : (o : Option ℕ) → group_of groups entry ≡ o → Follows groups (entry_file groups place entry o)
    cases None is = tt
    cases (Some k) is = of_group groups k (rest_after entry place) place names (home_within groups entry k is)

either : (groups : List Mirrors) (b : Bool) (x y : Reading) → Follows groups x → Follows groups y → Follows groups (cond b x y)
either groups true x y hx hy = hx
either groups false x y hx hy = hy

-- a host that names no group at its port names none at all
nameless : (groups : List Mirrors) (name : List ℕ) (port : ℕ) → are_names groups ≡ true → named_group groups (host_text name port) port ≡ None → called (host_text name port) groups ≡ None
nameless groups name port names h = cases (port == 80) refl h
  where
    cases : (t : Bool) → (port == 80) ≡ t → cond t (called (host_text name port) groups) None ≡ None → called (host_text name port) groups ≡ None
    cases true e h = h
    cases false e h = position_from-zero (λ g. bytes_eq g.name (host_text name port)) groups ∙ no_name (host_text name port) groups 0 (nowhere 58 refl groups names) (has_colon name port e)

named_within : (groups : List Mirrors) (host : List ℕ) (port k : ℕ) → named_group groups host port ≡ Some k → k < length groups
named_within groups host port k h = cases (port == 80) h
  where
    cases : (t : Bool) → cond t (called host groups) None ≡ Some k → k < length groups
    cases true h = within (λ g. bytes_eq g.name host) groups k h
    cases false h = cc

of_named : (groups : List Mirrors) (place name : List ℕ) (port : ℕ) → are_names groups ≡ true → before_slash place ≡ host_text name port
    → Follows groups (named_file groups place (host_text name port) (named_group groups (host_text name port) port))
of_named groups place name port names front = cases (named_group groups (host_text name port) port) refl
  where
    cases : (o : Option ℕ) → named_group groups (host_text name port) port ≡ o → Follows groups (named_file groups place (host_text name port) o)
    cases None is = of_own groups place (host_text name port) front (nameless groups name port names is)
    cases (Some k) is =
        either groups (has_target (group groups k)) (group_file (group groups k) (rest_after (host_text name port) place) place) (Err BadTarget)
        (of_group groups k (rest_after (host_text name port) place) place names (named_within groups (host_text name port) port k is)) tt

of_placed : (groups : List Mirrors) (place name : List ℕ) (port : ℕ) (entry : Option (List ℕ)) → are_names groups ≡ true → before_slash place ≡ host_text name port
    → Follows groups (placed groups place (host_text name port) port entry)
of_placed groups place name port None names front = of_named groups place name port names front
of_placed groups place name port (Some entry) names front = of_entry groups place entry names

of_place : (groups : List Mirrors) (place name : List ℕ) (port : ℕ) → are_names groups ≡ true → before_slash place ≡ host_text name port
    → Follows groups (place_file groups place (host_text name port) port)
unfolding place_file
of_place groups place name port names front = of_placed groups place name port (deciding groups place) names front

of_host_file : (groups : List Mirrors) (text : List ℕ) → are_names groups ≡ true → Follows groups (host_file groups text)
unfolding host_file
of_host_file groups text names = cases (host_port (before_slash text)) refl
  where
    cases : (o : Option ℕ) → host_port (before_slash text) ≡ o → Follows groups (hosted groups text o)
    cases None is = tt
    cases (Some port) is =
        let name = host_name (before_slash text) in
        let plain = host_plain (before_slash text) port is in
        of_place groups (host_text name port ++ plain_path (from_slash text)) name port names
        (before_segments (host_text name port) (filter (λ s. not (is_empty s)) (slice_split is_slash (percent_decode (from_slash text)))) plain)

of_prefixed : (groups : List Mirrors) (target : List ℕ) (entry : Option (List ℕ)) → are_names groups ≡ true → Follows groups (prefixed groups target entry)
of_prefixed groups target None names = of_host_file groups (after_start target) names
of_prefixed groups target (Some entry) names = of_entry groups (plain_path target) entry names

of_target : (groups : List Mirrors) (target : List ℕ) → are_names groups ≡ true → Follows groups (target_file groups target)
unfolding target_file
of_target groups target names = of_prefixed groups target (cond (has_slash target) (deciding groups (plain_path target)) None) names

of_form : (groups : List Mirrors) (target : List ℕ) → are_names groups ≡ true → Follows groups (form_of groups target)
of_form groups target names =
    or_err groups (not (is_absolute target || has_slash target) || has 35 target) BadTarget (cond (has 63 target) (Err Query) (target_file groups target))
    (or_err groups (has 63 target) Query (target_file groups target) (of_target groups target names))

of_page : (groups : List Mirrors) (query : Option (List ℕ)) (other : Reading) → Follows groups other → Follows groups (page_or query other)
of_page groups None other h = h
of_page groups (Some query) other h = tt

of_reading : (s : Settings) (method target : List ℕ) → are_names s.groups ≡ true → Follows s.groups (reading s method target)
unfolding reading
of_reading s method target names =
    or_err s.groups (bytes_eq method (codes "CONNECT")) Connect (cond (is_tls target) (Err Tls) (page_or (page_query s.report_page target) (form_of s.groups target)))
    (or_err s.groups (is_tls target) Tls (page_or (page_query s.report_page target) (form_of s.groups target))
    (of_page s.groups (page_query s.report_page target) (form_of s.groups target) (of_form s.groups target names)))

pub by_path : (s : Settings) (method target path : List ℕ) (origins : List (List ℕ)) → are_names s.groups ≡ true → reading s method target ≡ Ok (File path origins)
    → is_orphan s.groups path ≡ false → origins ≡ origins_of s.groups path
by_path s method target path origins names h orphan = subst (Follows s.groups) h (of_reading s method target names) orphan

-- Literal values of the reading of a target, worked by hand from the rules.
use Rattle.std.proofs.Common.{◌≡◌, ℕ, true, List, [], ◌∷◌, Result, Ok, Err, codes, refl}
use Rattle.acng_base.specs.declared.path.PathFault.TheVariants.{Empty, BadByte, BadSegment}
use Rattle.acng_conf.specs.Settings.{Mirrors, Settings, defaults}
use Rattle.acng_remap.specs.Readings.{reading}
use Rattle.acng_remap.specs.Origins.{origins_of, is_orphan}
use Rattle.acng_remap.specs.declared.target.Target.{Target}
use Rattle.acng_remap.specs.declared.target.Target.TheVariants.{File, Page}
use Rattle.acng_remap.specs.declared.target.TargetFault.{TargetFault}
use Rattle.acng_remap.specs.declared.target.TargetFault.TheVariants.{Connect, Tls, BadTarget, Query, BadPath}
use Rattle.acng_remap.proofs.OnLiterals.{remap_on_literals}

abbrev group : List ℕ → List (List ℕ) → List (List ℕ) → Mirrors
group name merging targets = record { name = name; merging = merging; targets = targets; last = 1 }

abbrev groups : List Mirrors
groups = group (codes "debrep") (codes "ftp.example.org/debian" ∷ codes "/debian" ∷ codes "h" ∷ [])
    (codes "http://deb.example.org/debian" ∷ codes "http://t" ∷ [])
    ∷ group (codes "lone") (codes "/lone/x" ∷ codes "h:8080/a/b" ∷ []) []
    ∷ group (codes "deep") (codes "/debian/a?b" ∷ codes "h/a" ∷ []) (codes "http://d" ∷ []) ∷ []

abbrev conf : Settings
conf = record defaults { groups = groups }

abbrev get : List ℕ → Result Target TargetFault
get target = reading conf (codes "GET") target

-- the position of the bad segment is in the cache path, not in the target
above_the_prefix : get (codes "/debian/../etc") ≡ Err (BadPath (BadSegment 7))
unfolding remap_on_literals
above_the_prefix = refl

-- whole segments
whole_segments : get (codes "/debian-security/x.deb")
    ≡ Ok (File (codes "debian-security/x.deb") (codes "http://debian-security/x.deb" ∷ []))
unfolding remap_on_literals
whole_segments = refl

-- an escaped `?` is looked up as a plain byte of a prefix
escaped_question_mark : get (codes "/debian/a%3Fb/x%25") ≡ Ok (File (codes "deep/x%") (codes "http://d/x%25" ∷ []))
unfolding remap_on_literals
escaped_question_mark = refl

-- a prefix goes before the name of a group
prefix_before_name : get (codes "/lone/x/y") ≡ Err BadTarget
unfolding remap_on_literals
prefix_before_name = refl

-- a URL entry of a group without a target: the place itself
without_targets : get (codes "http://H:08080//a/%62/c%2Fd") ≡ Ok (File (codes "lone/c/d") (codes "http://h:8080/a/b/c/d" ∷ []))
unfolding remap_on_literals
without_targets = refl

-- the longer entry of two groups
longer_entry : get (codes "/h/a/z") ≡ Ok (File (codes "deep/z") (codes "http://d/z" ∷ []))
unfolding remap_on_literals
longer_entry = refl

-- the whole host merges, and nothing follows
whole_host : get (codes "/h/") ≡ Err (BadPath Empty)
unfolding remap_on_literals
whole_host = refl

-- a prefix isn't looked up in a whole URL
no_prefix_in_a_url : get (codes "http://debian/P") ≡ Ok (File (codes "debian/P") (codes "http://debian/P" ∷ []))
unfolding remap_on_literals
no_prefix_in_a_url = refl

-- the page before `#`; `?` before the host; `#` before `?`
page_with_query : get (codes "/acng-report.html?a#b") ≡ Ok (Page (codes "a#b"))
unfolding remap_on_literals
page_with_query = refl

query_before_host : get (codes "/h@x/a?q") ≡ Err Query
unfolding remap_on_literals
query_before_host = refl

fragment_before_query : get (codes "/h/a?q#f") ≡ Err BadTarget
unfolding remap_on_literals
fragment_before_query = refl

-- TLS goes before everything but CONNECT
tls_first : get (codes "hTTps://?#") ≡ Err Tls
unfolding remap_on_literals
tls_first = refl

connect_first : reading conf (codes "CONNECT") (codes "https://x") ≡ Err Connect
unfolding remap_on_literals
connect_first = refl

-- the group's name as a host, at port 80 alone, with the whole path
name_as_host : get (codes "http://DEBREP:00080/a//b/")
    ≡ Ok (File (codes "debrep/a/b") (codes "http://deb.example.org/debian/a/b" ∷ codes "http://t/a/b" ∷ []))
unfolding remap_on_literals
name_as_host = refl

name_at_another_port : get (codes "/debrep:81/a") ≡ Ok (File (codes "debrep:81/a") (codes "http://debrep:81/a" ∷ []))
unfolding remap_on_literals
name_at_another_port = refl

-- no host
no_host : get (codes "http:///x") ≡ Err BadTarget
unfolding remap_on_literals
no_host = refl

-- a slash that is escaped in a host is none
escaped_slash : get (codes "/a%2Fb/c") ≡ Err BadTarget
unfolding remap_on_literals
escaped_slash = refl

-- an escape decodes once, and bytes beyond the path's stay out
decoded_once : get (codes "/x/%2541%zz") ≡ Ok (File (codes "x/%41%zz") (codes "http://x/%2541%25zz" ∷ []))
unfolding remap_on_literals
decoded_once = refl

byte_of_no_path : get (codes "/debian/a%00b") ≡ Err (BadPath (BadByte 8))
unfolding remap_on_literals
byte_of_no_path = refl

-- the origins by the path alone: of one that belongs to a group without a target, the law says nothing
origins_by_path : origins_of groups (codes "debrep/a/b") ≡ codes "http://deb.example.org/debian/a/b" ∷ codes "http://t/a/b" ∷ []
origins_by_path = refl

orphan : is_orphan groups (codes "lone/c/d") ≡ true
orphan = refl

-- Literal values of the reading of a configuration, worked by hand from the rules.
use Rattle.std.proofs.Common.{◌≡◌, ℕ, List, [], ◌∷◌, ◌++◌, Some, None, Ok, Err, codes, refl}
use Rattle.std.specs.Str.{is_utf8}
use Rattle.url.proofs.OnLiterals.{url_on_literals}
use Rattle.acng_conf.specs.Settings.{Mirrors, defaults}
use Rattle.acng_conf.specs.Readings.{reading}
use Rattle.acng_conf.specs.Places.{entry_of, url_entry}
use Rattle.acng_conf.specs.declared.place.Section.TheVariants.{Merging, Targets}
use Rattle.acng_conf.specs.declared.fault.ConfCause.TheVariants.{NotALine, BadNumber, BadUrl, TwiceMerged}
use Rattle.acng_conf.specs.declared.fault.ListFile.{ListFile}
use Rattle.acng_conf.specs.declared.fault.Warning.{Warning}
use Rattle.acng_conf.specs.declared.fault.WarnCause.{WarnCause}
use Rattle.acng_conf.specs.declared.fault.WarnCause.TheVariants.{Unused, BadListLine, NoTarget, Flags}

abbrev at : ℕ → WarnCause → Warning
at n c = record { line = n; cause = c }

abbrev none : List ListFile
none = []

-- two blanks before a comment, and a CR
comment_and_cr : reading (codes "port: 0080  # x" ++ 13 ∷ 10 ∷ []) none ≡ Ok (record defaults { port = 80 })
unfolding url_on_literals is_utf8
comment_and_cr = refl

-- a prefix takes `?` and `#`
question_mark_in_a_prefix : entry_of Merging (codes "/a?b#c//d") ≡ Some (codes "/a?b#c/d")
unfolding url_on_literals is_utf8
question_mark_in_a_prefix = refl

-- a URL with an empty query doesn't read
empty_query : entry_of Merging (codes "h/a?") ≡ None
unfolding url_on_literals is_utf8
empty_query = refl

-- a target's form
canonical_target : entry_of Targets (codes "HTTP://H.Example:80//a%2fb//%7e/") ≡ Some (codes "http://h.example/a/b/~")
unfolding url_on_literals is_utf8
canonical_target = refl

-- dots are resolved by `url` in a URL and refused in a prefix
dots_in_a_url : entry_of Merging (codes "h/a/../b") ≡ Some (codes "h/b")
unfolding url_on_literals is_utf8
dots_in_a_url = refl

dots_in_a_prefix : entry_of Merging (codes "/a/../b") ≡ None
unfolding url_on_literals is_utf8
dots_in_a_prefix = refl

-- in a list a line that begins with a slash is a host
slash_in_a_list : url_entry Merging (codes "/debian") ≡ Some (codes "debian")
unfolding url_on_literals is_utf8
slash_in_a_list = refl

-- ---- list files

abbrev list : List ℕ → List ℕ → ListFile
list name bytes = record { name = name; bytes = bytes }

abbrev lists : List ListFile
lists = list (codes "a") (codes "http://x/ y" ++ 13 ∷ 10 ∷ codes "# c" ++ 10 ∷ codes "ftp://q" ++ 10 ∷ codes "m.example #z" ++ 10 ∷ codes "b.example/")
    ∷ list (codes "ab") (codes "https://x") ∷ []

abbrev group : List ℕ → List (List ℕ) → List (List ℕ) → ℕ → Mirrors
group name merging targets last = record { name = name; merging = merging; targets = targets; last = last }

-- two files fit; each has one BadListLine, however many of its lines are bad; flags come last, `;` is a flag, and
-- NoTarget comes at the end
two_lists : reading (codes "Remap-G: /p file:a* ; ; ; x" ++ 10 ∷ codes "X: y" ++ 10 ∷ codes "rEMAP-G: /q") lists
    ≡ Ok (record defaults {
      groups = group (codes "G") (codes "/p" ∷ codes "b.example" ∷ codes "/q" ∷ []) [] 3 ∷ [];
      entries = 3;
      warnings = at 1 BadListLine ∷ at 1 BadListLine ∷ at 1 Flags ∷ at 2 Unused ∷ at 3 NoTarget ∷ [];
    })
unfolding url_on_literals is_utf8
two_lists = refl

-- names of groups differ by case, and one entry merges into two: refused at the second line
names_by_case : reading (codes "Remap-g: h:80" ++ 10 ∷ codes "Remap-G: http://H//") none ≡ Err (record { line = 2; cause = TwiceMerged })
unfolding url_on_literals is_utf8
names_by_case = refl

-- BadUrl goes before NoMerge, in the second section too
bad_url_first : reading (codes "Remap-g: ; u@") none ≡ Err (record { line = 1; cause = BadUrl })
unfolding url_on_literals is_utf8
bad_url_first = refl

-- a bad NAME goes before a bad entry
bad_name_first : reading (codes "Remap-.g: h:x") none ≡ Err (record { line = 1; cause = NotALine })
unfolding url_on_literals is_utf8
bad_name_first = refl

-- a comment right after the colon
comment_after_colon : reading (codes "BindAddress: #a") none ≡ Err (record { line = 1; cause = NotALine })
unfolding url_on_literals is_utf8
comment_after_colon = refl

-- a carriage return at the end of the text stays
cr_at_the_end : reading (codes "Port: 1" ++ 13 ∷ []) none ≡ Err (record { line = 1; cause = BadNumber })
unfolding url_on_literals is_utf8
cr_at_the_end = refl

-- `#` inside a word is none: `h#` has a fragment
fragment_in_a_word : reading (codes "Remap-g: h# x") none ≡ Err (record { line = 1; cause = BadUrl })
unfolding url_on_literals is_utf8
fragment_in_a_word = refl

-- an IPv4 address in another spelling
address_in_another_spelling : entry_of Merging (codes "0x7f.1:080/") ≡ Some (codes "127.0.0.1")
unfolding url_on_literals is_utf8
address_in_another_spelling = refl

-- two decoded bytes that aren't in a path
blank_in_a_path : entry_of Targets (codes "h/a%20b") ≡ None
unfolding url_on_literals is_utf8
blank_in_a_path = refl

-- an escaped percent sign
escaped_percent_sign : entry_of Targets (codes "h/a%2541") ≡ Some (codes "http://h/a%2541")
unfolding url_on_literals is_utf8
escaped_percent_sign = refl

-- a user that is empty, and a port that is
empty_user_and_port : entry_of Merging (codes "http://:@h:/a") ≡ Some (codes "h/a")
unfolding url_on_literals is_utf8
empty_user_and_port = refl

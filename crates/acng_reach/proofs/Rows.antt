-- The definitions on literal caches, with true hashes.
use Rattle.std.proofs.Common.{◌≡◌, ℕ, List, [], ◌∷◌, ◌++◌, Some, None, true, false, cond, map, codes, refl, bytes_eq, Err, length}
use Rattle.hex.specs.Hex.{decode_pairs, encode_with}
use Rattle.sha2.specs.Sha256.{sha256, digest_bytes, hash_after, compress, rounds, schedule, first_words}
use Rattle.acng_index.specs.Packages.{packages}
use Rattle.acng_index.specs.Releases.{release}
use Rattle.acng_index.specs.Frames.{inrelease}
use Rattle.acng_index.specs.declared.fault.IndexFault.TheVariants.{NoFrame, NoList, BadName}
use Rattle.acng_reach.specs.Names.{sibling, base_of, is_diff, is_packed, is_packages}
use Rattle.acng_reach.specs.Caches.{Cache}
use Rattle.acng_reach.specs.Reaches.{reached, problem, named}
use Rattle.acng_reach.specs.Bodies.{first_above}

-- ---- names

row_sibling : sibling (codes "a/b/Release") (codes "InRelease") ≡ codes "a/b/InRelease"
row_sibling = refl

row_sibling_top : sibling (codes "Release") (codes "InRelease") ≡ codes "InRelease"
row_sibling_top = refl

row_base : base_of (codes "h/debian/dists/stable") ≡ codes "h/debian"
row_base = refl

row_base_last : base_of (codes "h/dists/x/dists/stable") ≡ codes "h/dists/x"
row_base_last = refl

row_base_none : base_of (codes "h/debian") ≡ codes "h/debian"
row_base_none = refl

row_base_front : base_of (codes "dists/stable") ≡ []
row_base_front = refl

row_base_end : base_of (codes "h/dists") ≡ codes "h"
row_base_end = refl

row_base_like : base_of (codes "h/mydists/x") ≡ codes "h/mydists/x"
row_base_like = refl

row_diff : is_diff (codes "main/Packages.diff/Index") ≡ true
row_diff = refl

row_diff_other : is_diff (codes "main/Packages.diff/2026.gz") ≡ false
row_diff_other = refl

row_diff_index : is_diff (codes "main/diff/Index") ≡ false
row_diff_index = refl

row_packed : is_packed (codes "main/Packages.zst") ≡ true
row_packed = refl

row_packed_plain : is_packed (codes "main/Packages") ≡ true
row_packed_plain = refl

row_packed_only : is_packages (codes "main/Packages.zst") ≡ false
row_packed_only = refl

row_first : first_above None (codes "a" ∷ codes "b" ∷ []) ≡ Some (codes "a")
row_first = refl

row_above : first_above (Some (codes "a")) (codes "a" ∷ codes "a/b" ∷ codes "b" ∷ []) ≡ Some (codes "a/b")
row_above = refl

-- ---- a repository with a packed list of packages, before and after its plain list came

-- each path with its text
abbrev cache_of : List (List ℕ × List ℕ) → Cache
cache_of es = record { paths = map (λ e. e.0) es; text = look_up es }
  where
    look_up : List (List ℕ × List ℕ) → List ℕ → List ℕ
    look_up [] path = []
    look_up (e ∷ es) path = cond (bytes_eq e.0 path) e.1 (look_up es path)

-- the hash of `abc`
abbrev digits : List ℕ
digits = codes "ba7816bf8f01cfea414140de5dae2223b00361a396177a9cb410ff61f20015ad"

-- the hash of the plain list
abbrev listed_digits : List ℕ
listed_digits = codes "a8850cf81e5db3cac0095a3ed4e5b88517464862f96cac843a3462aa01cfb078"

abbrev inrelease_text : List ℕ
inrelease_text =
    codes "-----BEGIN PGP SIGNED MESSAGE-----" ++ 10 ∷ 10 ∷ codes "SHA256:" ++ 10
    ∷ 32 ∷ listed_digits ++ codes " 126 main/binary-amd64/Packages" ++ 10
    ∷ 32 ∷ digits ++ codes " 99 main/binary-amd64/Packages.xz" ++ 10 ∷ codes "-----BEGIN PGP SIGNATURE-----"

abbrev packages_text : List ℕ
packages_text =
    codes "Package: a" ++ 10 ∷ codes "Filename: pool/main/a/a_1_all.deb" ++ 10 ∷ codes "Size: 3" ++ 10
    ∷ codes "SHA256: " ++ digits ++ 10 ∷ []

row_size : length packages_text ≡ 126
row_size = refl

abbrev d : List ℕ
d = codes "h.example/debian/dists/stable"

abbrev deb : List ℕ
deb = codes "h.example/debian/pool/main/a/a_1_all.deb"

abbrev packed : Cache
packed =
    cache_of ((d ++ codes "/InRelease", inrelease_text)
    ∷ (d ++ codes "/main/binary-amd64/Packages.xz", codes "?")
    ∷ (deb, codes "abc") ∷ [])

abbrev plain : Cache
plain =
    cache_of ((d ++ codes "/InRelease", inrelease_text)
    ∷ (d ++ codes "/main/binary-amd64/Packages", packages_text)
    ∷ (d ++ codes "/main/binary-amd64/Packages.xz", codes "?")
    ∷ (deb, codes "abc") ∷ [])

-- the live folder isn't read, and its package isn't reached
row_problem : problem packed [] (d ++ codes "/main/binary-amd64") ≡ true
unfolding decode_pairs encode_with sha256 digest_bytes hash_after compress rounds schedule first_words
row_problem = refl

row_unreached : reached packed deb ≡ false
unfolding decode_pairs encode_with sha256 digest_bytes hash_after compress rounds schedule first_words
row_unreached = refl

row_packed_reached : reached packed (d ++ codes "/main/binary-amd64/Packages.xz") ≡ true
unfolding decode_pairs encode_with sha256 digest_bytes hash_after compress rounds schedule first_words
row_packed_reached = refl

row_signature : reached packed (d ++ codes "/Release.gpg") ≡ true
unfolding decode_pairs encode_with sha256 digest_bytes hash_after compress rounds schedule first_words
row_signature = refl

row_by_hash : reached packed (d ++ codes "/main/binary-amd64/by-hash/SHA256/" ++ digits) ≡ true
unfolding decode_pairs encode_with sha256 digest_bytes hash_after compress rounds schedule first_words
row_by_hash = refl

-- what the plain list is to be, is named before it is there
row_named_index : named packed (sha256 packages_text) 126 (d ++ codes "/main/binary-amd64/Packages") ≡ true
unfolding decode_pairs encode_with sha256 digest_bytes hash_after compress rounds schedule first_words
row_named_index = refl

row_read : problem plain [] (d ++ codes "/main/binary-amd64") ≡ false
unfolding decode_pairs encode_with sha256 digest_bytes hash_after compress rounds schedule first_words
row_read = refl

row_reached : reached plain deb ≡ true
unfolding decode_pairs encode_with sha256 digest_bytes hash_after compress rounds schedule first_words
row_reached = refl

-- `abc` is named, `abd` isn't, nor `abc` with another size
row_named : named plain (sha256 (codes "abc")) 3 deb ≡ true
unfolding decode_pairs encode_with sha256 digest_bytes hash_after compress rounds schedule first_words
row_named = refl

row_unknown : named plain (sha256 (codes "abd")) 3 deb ≡ false
unfolding decode_pairs encode_with sha256 digest_bytes hash_after compress rounds schedule first_words
row_unknown = refl

row_other_size : named plain (sha256 (codes "abc")) 4 deb ≡ false
unfolding decode_pairs encode_with sha256 digest_bytes hash_after compress rounds schedule first_words
row_other_size = refl

-- ---- broken indexes

abbrev unsigned : Cache
unsigned = cache_of ((d ++ codes "/InRelease", codes "SHA256:" ++ 10 ∷ []) ∷ (deb, codes "abc") ∷ [])

row_unsigned : inrelease (codes "SHA256:" ++ 10 ∷ []) ≡ Err (NoFrame 1)
row_unsigned = refl

row_unsigned_problem : problem unsigned [] d ≡ true
row_unsigned_problem = refl

-- it is an index, so that the top folder is no problem
row_unsigned_top : problem unsigned [] [] ≡ false
row_unsigned_top = refl

row_no_list : release (codes "Suite: x" ++ 10 ∷ []) ≡ Err NoList
row_no_list = refl

row_bad_name : packages (codes "Filename: ../x") ≡ Err (BadName 1)
row_bad_name = refl

-- bodies without an index
row_no_index : problem (cache_of ((deb, codes "abc") ∷ [])) [] [] ≡ true
row_no_index = refl

row_nothing : problem (cache_of []) [] [] ≡ false
row_nothing = refl

row_failed : problem (cache_of []) ((d ++ codes "/InRelease") ∷ []) d ≡ true
row_failed = refl

-- The definitions on literal texts.
use Rattle.std.proofs.Common.{◌≡◌, ℕ, List, [], ◌∷◌, ◌++◌, Some, None, Ok, Err, true, codes, refl}
use Rattle.hex.specs.Hex.{decode_pairs}
use Rattle.acng_stanza.specs.declared.fault.StanzaFault.TheVariants.{BadLine}
use Rattle.acng_index.specs.Releases.{release}
use Rattle.acng_index.specs.Frames.{inrelease, begin_line, signature_line}
use Rattle.acng_index.specs.Packages.{packages}
use Rattle.acng_index.specs.declared.fault.IndexFault.TheVariants.{Stanza, NoFrame, NoList, NotOneStanza, BadEntry, NoFilename, BadName, BadField}

-- ---- releases

row_no_list : release (codes "Suite: stable" ++ 10 ∷ []) ≡ Err NoList
row_no_list = refl

row_no_stanza : release [] ≡ Err NotOneStanza
row_no_stanza = refl

row_two_stanzas : release (codes "SHA256: x" ++ 10 ∷ 10 ∷ codes "A: b") ≡ Err NotOneStanza
row_two_stanzas = refl

row_bad_entry : release (codes "A: b" ++ 10 ∷ codes "SHA256:" ++ 10 ∷ codes " x") ≡ Err (BadEntry 3)
row_bad_entry = refl

abbrev digits : List ℕ
digits = codes "ba7816bf8f01cfea414140de5dae2223b00361a396177a9cb410ff61f20015ad"

abbrev bytes : List ℕ
bytes =
    186 ∷ 120 ∷ 22 ∷ 191 ∷ 143 ∷ 1 ∷ 207 ∷ 234 ∷ 65 ∷ 65 ∷ 64 ∷ 222 ∷ 93 ∷ 174 ∷ 34 ∷ 35 ∷ 176 ∷ 3 ∷ 97 ∷ 163 ∷ 150 ∷ 23 ∷ 122 ∷ 156
    ∷ 180 ∷ 16 ∷ 255 ∷ 97 ∷ 242 ∷ 0 ∷ 21 ∷ 173 ∷ []

row_entry : release (codes "SHA256:" ++ 10 ∷ 32 ∷ digits ++ codes " 126 main/Packages" ++ 10 ∷ codes "Acquire-By-Hash: yes")
    ≡ Ok (record { entries = record { hash = record { 0 = bytes }; size = 126; path = codes "main/Packages" } ∷ []; by_hash = true })
unfolding decode_pairs
row_entry = refl

-- ---- frames

row_no_frame : inrelease (begin_line ++ 10 ∷ codes "Hash: SHA256" ++ 10 ∷ 10 ∷ codes "Suite: x" ++ 10 ∷ []) ≡ Err (NoFrame 5)
row_no_frame = refl

row_no_frame_hash : inrelease (begin_line ++ 10 ∷ codes "Hash: SHA256" ++ 10 ∷ []) ≡ Err (NoFrame 3)
row_no_frame_hash = refl

row_no_begin : inrelease (codes "Suite: x") ≡ Err (NoFrame 1)
row_no_begin = refl

-- the frame goes before a bad line, and a bad line before the list
row_frame_first : inrelease (begin_line ++ 10 ∷ 10 ∷ codes "bad") ≡ Err (NoFrame 4)
row_frame_first = refl

row_stanza_first : inrelease (begin_line ++ 10 ∷ 10 ∷ codes "bad" ++ 10 ∷ signature_line) ≡ Err (Stanza (BadLine 3))
row_stanza_first = refl

-- lines are counted in the whole file, and a leading dash is dropped
row_frame : inrelease (begin_line ++ 10 ∷ codes "Hash: SHA256" ++ 10 ∷ 10 ∷ codes "- SHA256:" ++ 10 ∷ codes " x" ++ 10 ∷ signature_line)
    ≡ Err (BadEntry 5)
row_frame = refl

-- ---- packages

row_bad_name : packages (codes "Filename: ../x") ≡ Err (BadName 1)
row_bad_name = refl

row_no_names : packages [] ≡ Ok []
row_no_names = refl

row_bad_line : packages (codes "Filename") ≡ Err (Stanza (BadLine 1))
row_bad_line = refl

row_no_filename : packages (codes "A: b" ++ 10 ∷ 10 ∷ codes "A: b") ≡ Err (NoFilename 1)
row_no_filename = refl

row_bad_size : packages (codes "Filename: ./x" ++ 10 ∷ codes "Size: 1a") ≡ Err (BadField 2)
row_bad_size = refl

row_named : packages (codes "Filename: ./x" ++ 10 ∷ codes "size: 03") ≡ Ok (record { path = codes "x"; size = Some 3; hash = None } ∷ [])
row_named = refl

-- The repository of a number: its files, by their paths below the host. Its form is the Debian repository format's.
use Rattle.std.specs.Prelude.{ℕ, zero, suc, ◌%◌, ◌==◌, List, [], ◌∷◌, ◌++◌, length, cond, codes, decimal}
use Rattle.sha2.specs.Sha256.{sha256}
use Rattle.hex.specs.Hex.{encode_lower}
use Rattle.acng_cli.specs.declared.repository.RepositoryFile.{RepositoryFile}

-- ---- packages

-- the path of a package of a kind below the repository's folder
abbrev pub pool_path : List ℕ → ℕ → List ℕ
pool_path kind k = codes "pool/main/" ++ kind ++ codes "/" ++ kind ++ decimal k ++ codes "_1_all.deb"

abbrev pub package_text : List ℕ → ℕ → List ℕ
package_text kind k = kind ++ decimal k ++ codes "\n"

abbrev pub package_of : List ℕ → ℕ → RepositoryFile
package_of kind k = record { path = codes "debian/" ++ pool_path kind k; bytes = package_text kind k }

-- `pK`, and where 3 divides k `oK`
abbrev pub others_at : ℕ → List RepositoryFile
others_at k = cond (k % 3 == 0) (package_of (codes "o") k ∷ []) []

abbrev pub packages_at : ℕ → List RepositoryFile
packages_at k = package_of (codes "p") k ∷ others_at k

abbrev pub packages_below : ℕ → List RepositoryFile
packages_below zero = []
packages_below (suc k) = packages_below k ++ packages_at k

-- ---- the index names each `pK`, and no `oK`

-- the SHA-256 in hexadecimal digits (FIPS 180-4)
abbrev pub digits_of : List ℕ → List ℕ
digits_of bytes = encode_lower (sha256 bytes)

abbrev pub names : ℕ → List ℕ
names k = codes "Package: p" ++ decimal k ++ codes "\nFilename: " ++ pool_path (codes "p") k

abbrev pub sums : List ℕ → List ℕ
sums text = codes "\nSize: " ++ decimal (length text) ++ codes "\nSHA256: " ++ digits_of text ++ codes "\n\n"

abbrev pub stanza : ℕ → List ℕ
stanza k = names k ++ sums (package_text (codes "p") k)

abbrev pub stanzas_below : ℕ → List ℕ
stanzas_below zero = []
stanzas_below (suc k) = stanzas_below k ++ stanza k

abbrev pub index : List ℕ → RepositoryFile
index names = record { path = codes "debian/dists/stable/main/binary-all/Packages"; bytes = names }

-- ---- the signed list names the index

abbrev pub release_text : List ℕ → List ℕ
release_text names =
    codes "-----BEGIN PGP SIGNED MESSAGE-----\nHash: SHA256\n\nSHA256:\n " ++ digits_of names ++ 32 ∷ decimal (length names)
    ++ codes " main/binary-all/Packages\n-----BEGIN PGP SIGNATURE-----\n"

abbrev pub release : List ℕ → RepositoryFile
release names = record { path = codes "debian/dists/stable/InRelease"; bytes = release_text names }

-- ---- all of it

abbrev pub files_of : ℕ → List RepositoryFile
files_of n = packages_below n ++ index (stanzas_below n) ∷ release (stanzas_below n) ∷ []

-- The repository and the requests of `gen`, one more at a time.
use Rattle.std.proofs.Common.{◌≡◌, ℕ, suc, ◌+◌, ◌<◌, ◌%◌, ◌==◌, List, [], ◌∷◌, ◌++◌, length, take, cond, codes, refl, sym, ap, subst, ◌∙◌, arith}
use Rattle.std.proofs.Common.{append_assoc}
use Rattle.acng_cli.specs.declared.repository.RepositoryFile.{RepositoryFile}
use Rattle.acng_cli.specs.Repository.{package_of, others_at, packages_at, packages_below, stanza, stanzas_below}

after : (k : ℕ) → k + 1 ≡ suc k
after k = omega arith

-- ---- the repository

pub other_there : (k : ℕ) → k % 3 ≡ 0 → others_at k ≡ package_of (codes "o") k ∷ []
other_there k divides = ap (λ n. cond (n == 0) (package_of (codes "o") k ∷ []) []) divides

pub pushed : (files : List RepositoryFile) (k : ℕ) → (files ++ package_of (codes "p") k ∷ []) ++ others_at k ≡ files ++ packages_at k
pushed files k = append_assoc files (package_of (codes "p") k ∷ []) (others_at k)

pub packages_next : (k : ℕ) → packages_below (k + 1) ≡ packages_below k ++ packages_at k
packages_next k = ap packages_below (after k)

pub stanzas_next : (k : ℕ) → stanzas_below (k + 1) ≡ stanzas_below k ++ stanza k
stanzas_next k = ap stanzas_below (after k)

-- the site is honest, whatever its origin's start gives
use Rattle.std.proofs.Common.{refl}
use Rattle.acng_honest_tests.proofs.HonestFile.{honest}
use Rattle.acng_honest_tests.proofs.honest.start.Goals as goal

pub returns-in_err-copy-clause-honest : goal.returns-in_err-copy-clause-honest
returns-in_err-copy-clause-honest c = honest _ (record { bytes = λ n a. refl; faults = λ n a. refl }) (λ n p. refl)

pub returns-in_err-copy-2-clause-honest : goal.returns-in_err-copy-2-clause-honest
returns-in_err-copy-2-clause-honest c = honest _ (record { bytes = λ n a. refl; faults = λ n a. refl }) (λ n p. refl)

pub returns-clause-honest : goal.returns-clause-honest
returns-clause-honest c = honest _ (record { bytes = λ n a. refl; faults = λ n a. refl }) (λ n p. refl)

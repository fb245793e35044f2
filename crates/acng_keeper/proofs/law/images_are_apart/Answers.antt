use Rattle.acng_keeper.proofs.Unsealed.{image_apart}
use Rattle.acng_keeper.proofs.law.images_are_apart.Goals as goal

pub returns : goal.returns
returns c = image_apart

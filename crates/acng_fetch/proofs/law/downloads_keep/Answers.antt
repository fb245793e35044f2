use Rattle.acng_fetch.proofs.Downloads.{download_keeps}
use Rattle.acng_fetch.proofs.law.downloads_keep.Goals as goal

pub returns : goal.returns
returns g c = download_keeps g.S.Site

use Rattle.acng_fetch.proofs.Downloads.{download_allowed}
use Rattle.acng_fetch.proofs.law.downloads_allowed.Goals as goal

pub returns : goal.returns
returns g c = download_allowed g.S.Site

use Rattle.acng_serve.proofs.Visiting.{some_page}
use Rattle.acng_serve.proofs.among.show_among.Goals as goal

pub returns : goal.returns
returns g c = some_page c.show.result c.deref_mut.result.now.plain c.show.ensures.page c.show.ensures.run

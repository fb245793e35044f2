use Rattle.std.proofs.Common.{refl}
use Rattle.acng_desk.proofs.Stopped.{rest_files}
use Rattle.acng_desk.proofs.desk.Desk.discard_body.Goals as goal

pub returns-in-None-clause-files : goal.returns-in-None-clause-files
returns-in-None-clause-files g c = λ told. rest_files g.S.Site c.args.self.now c.args.self.now refl (λ q. refl)

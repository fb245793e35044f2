use Rattle.acng_desk.proofs.Discards.{body_gone}
use Rattle.acng_desk.proofs.Results.{ok_both}
use Rattle.acng_desk.proofs.desk.Desk.drop_body.Goals as goal

pub returns-clause-gone : goal.returns-clause-gone
returns-clause-gone g c = ok_both c.discard.result
    (λ made loose told. body_gone c.args.self.now.kept c.discard.new.self.kept c.args.id.0 (made told) (loose told))
    c.discard.ensures.stored c.discard.ensures.loose

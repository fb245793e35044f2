use Rattle.std.proofs.Common.{arith}
use Rattle.acng_grow.proofs.Looked.{bytes_found, end_found}
use Rattle.acng_grow.proofs.finding.find_piece.Goals as goal

pub returns-in-Bytes-clause-found : goal.returns-in-Bytes-clause-found
returns-in-Bytes-clause-found g c =
    bytes_found g.S.Site g.F.BodyFile.tells c.args.body.now c.args.asked.now.path c.args.first c.in_ok-last.last c.args.place
    c.room_before.result c.in-Bytes.count c.args.to c.take_piece.new.frame c.keeps.ensures c.in_ok-last.ensures.path
    c.in_ok-last.ensures.label c.in-Bytes.ensures.bytes c.in-Bytes.ensures.cases.some c.in-Bytes.ensures.cases.fits
    c.in-Bytes.ensures.cases.there
    (omega (arith, c.room_before.ensures.fits, c.take_piece.ensures.len, c.requires.room)) c.room_before.ensures.within

pub returns-in-None-clause-found : goal.returns-in-None-clause-found
returns-in-None-clause-found g c =
    end_found g.S.Site g.F.BodyFile.tells c.args.body.now c.args.asked.now.path c.args.first c.in_ok-last.last c.args.place c.args.to
    c.keeps.ensures c.in_ok-last.ensures.path c.in_ok-last.ensures.label c.in-Done.ensures.cases.1 c.in-Done.ensures.cases.0 c.in-None.is

use Rattle.std.proofs.Common.{◌∙◌, ap}
use Rattle.acng_import.proofs.Stepping.{file_put, file_fell}
use Rattle.acng_import.proofs.put.put_at.Goals as goal

pub returns-in-Ok-clause-only : goal.returns-in-Ok-clause-only
returns-in-Ok-clause-only g c = λ may has.
    let a = c.args.arrival in
    let size = (g.K.Body.BodyFile.handle c.args.body).size in
    file_put {q = c.put_import.new.self.plain} c.args.path.now c.args.id.0 a.hash size a.now (ap (may c.args.path.now a.hash.0) c.requires.file.size ∙ has)
    c.in-Ok.ensures.plain

pub returns-in-Err-KeeperFault-clause-only : goal.returns-in-Err-KeeperFault-clause-only
returns-in-Err-KeeperFault-clause-only g c = λ may has.
    let a = c.args.arrival in
    let size = (g.K.Body.BodyFile.handle c.args.body).size in
    file_fell {q = c.put_import.new.self.plain} c.args.path.now c.args.id.0 a.hash size a.now (ap (may c.args.path.now a.hash.0) c.requires.file.size ∙ has)
    c.in-Err-KeeperFault.ensures.fell

pub returns-in-Err-NoMemory-clause-only : goal.returns-in-Err-NoMemory-clause-only
returns-in-Err-NoMemory-clause-only g c = λ may has.
    let a = c.args.arrival in
    let size = (g.K.Body.BodyFile.handle c.args.body).size in
    file_fell {q = c.put_import.new.self.plain} c.args.path.now c.args.id.0 a.hash size a.now (ap (may c.args.path.now a.hash.0) c.requires.file.size ∙ has)
    c.in-Err-NoMemory.ensures.fell

use Rattle.std.proofs.Common.{sym}
use Rattle.acng_index.proofs.Frames.{line_found, line_last}
use Rattle.acng_index.proofs.frame.line_len.Goals as goal

pub returns-in-Some : goal.returns-in-Some
returns-in-Some c = line_found c.args.text.now c.in-Some.len (sym c.in-Some.ensures)

pub returns-in-None : goal.returns-in-None
returns-in-None c = line_last c.args.text.now c.requires (sym c.in-None.ensures)

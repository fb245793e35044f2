-- the line has the kind's words
use Rattle.acng_request.proofs.reply.put_kind.Goals as goal

pub returns-in-File-clause-text : goal.returns-in-File-clause-text
returns-in-File-clause-text c = rw c.in-File.is c.put.ensures.text

pub returns-in-Plain-clause-text : goal.returns-in-Plain-clause-text
returns-in-Plain-clause-text c = rw c.in-Plain.is c.put-in-Plain.ensures.text

pub returns-in-Html-clause-text : goal.returns-in-Html-clause-text
returns-in-Html-clause-text c = rw c.in-Html.is c.put-in-Html.ensures.text

use Rattle.std.proofs.Common.{◌≡◌, ◌++◌, ap, subst, ◌∙◌}
use Rattle.acng_stanza.specs.Stanzas.{some_stanza}
use Rattle.acng_stanza.specs.Readers.{Reader}
use Rattle.acng_stanza.proofs.Pieces.{last_line, last_refused}
use Rattle.acng_stanza.proofs.reader.StanzaReader.take_last.Goals as goal

pub returns-in-Err : goal.returns-in-Err
returns-in-Err c =
    λ real. last_refused c.args.self.now c.take_held.new.self.lines c.in-Err.fault
    (c.in-Err.ensures.lines real) c.take_held.ensures.unbroken

pub returns : goal.returns
returns c =
    let ws = c.end_stanza.new.self.waiting in
    let waits =
    subst (λ (v : Reader). ws ≡ v.lines.waiting ++ some_stanza v.lines.last.fields) c.self.view_is c.in-Ok.ensures.waiting in (
      ap (λ (v : Reader). v.fault) c.self.view_is ∙ c.take_held.ensures.fault ∙ c.requires,
      last_line c.args.self.now c.take_held.new.self.lines ws c.in_default.ensures.lines c.take_held.ensures.unbroken waits,
    )

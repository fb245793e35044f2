use Rattle.std.proofs.Common.{map, codes}
use Rattle.httparse.specs.Spans.{header_bytes}
use Rattle.acng_base.specs.Heads.{Head, values}
use Rattle.acng_answer.proofs.DueLemmas.{frames_by_length}
use Rattle.acng_answer.proofs.framing.frame.Goals as goal

pub returns-in-Absent : goal.returns-in-Absent
returns-in-Absent c =
    let fields = map (header_bytes c.args.block.now) c.args.fields.now in
    frames_by_length c.args.status fields c.args.part c.by_length.result c.if-status-eq204.false c.if-status-eq304.false c.in-Absent.ensures
    (c.by_length.ensures (record { status = c.args.status; fields = fields }) (values (codes "content-length") fields) c.find_lengths.ensures c.requires.part)

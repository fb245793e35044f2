-- the lines stand one after another
use Rattle.acng_request.specs.ReplyHeads.{has_file, status_line, type_line, framing_line, part_line, no_part_line, modified_line, tag_line, allow_line, connection_line, line_end, ended}
use Rattle.acng_request.proofs.ReplyLemmas.{in_a_row}
use Rattle.acng_request.proofs.reply.reply_head.Goals as goal

pub returns-clause-text : goal.returns-clause-text
returns-clause-text c =
    let head = c.args.head.now in
    let s = head.status in
    let date = c.date_of-date.result in (
      date,
      c.date_of-date.ensures,
      rw (c.put.ensures.text, c.put_connection-at.ensures.text, c.put_allow-at.ensures.text, c.put_tag-at.ensures.text, c.put_modified-at.ensures.text, c.speaks_of_file-of_file.ensures, c.put_no_part-at.ensures.text, c.put_part-at.ensures.text, c.put_framing-at.ensures.text, c.put_type-at.ensures.text, c.put_status-at.ensures.text)
          (in_a_row (ended (status_line s)) (ended (type_line s head.kind)) (ended (framing_line s head.framing)) (ended (part_line s head.part)) (ended (no_part_line s head.total)) (ended (modified_line (has_file s head.kind) head.modified date)) (ended (tag_line (has_file s head.kind) head.tag)) (ended (allow_line s)) (ended (connection_line head.close)) line_end),
    )

use Rattle.std.proofs.Common.{[], codes, ap, arith}
use Rattle.acng_head.specs.Records.{line, values_of, record_text}
use Rattle.acng_head.specs.Writes.{Puts}
use Rattle.acng_head.proofs.Placed.{Puts-trans, Puts-is}
use Rattle.acng_head.proofs.Texts.{joined}
use Rattle.acng_head.proofs.write.write_head.Goals as goal

-- the lines stand one after another
all : (c : goal.After-put) → Puts c.args.out.now c.put.new.out 0 c.put.result (record_text c.args.head.now)
unfolding values_of
all c =
    Puts-is
    (Puts-trans c.put-at.ensures
    (Puts-trans (Puts-is c.put_line-at.ensures (ap (λ p. line (codes "path ") p []) c.as_bytes.ensures.bytes))
    (Puts-trans c.put_label-at.ensures.puts
    (Puts-trans c.put_number-at.ensures.puts
    (Puts-trans c.put_tag-at.ensures.puts
    (Puts-trans c.put_moment-at.ensures.puts
    (Puts-trans c.put_number-at-2.ensures.puts (Puts-trans c.put_moment-at-2.ensures.puts c.put.ensures))))))))
    (joined (values_of c.args.head.now))

pub returns-clause-written : goal.returns-clause-written
returns-clause-written c = (all c).front

pub returns-clause-len : goal.returns-clause-len
returns-clause-len c = let e = (all c).end_is in omega (arith, e)

pub returns-clause-after : goal.returns-clause-after
returns-clause-after c = (all c).after

pub returns-clause-typed : goal.returns-clause-typed
returns-clause-typed c = record {
  path = c.as_bytes.ensures.path;
  label = c.put_label-at.ensures.typed;
  tag = c.put_tag-at.ensures.typed;
  checked = c.put_number-at-2.ensures.typed;
  mark = c.put_moment-at-2.ensures.typed;
}

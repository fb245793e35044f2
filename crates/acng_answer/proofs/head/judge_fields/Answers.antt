-- What each part of a head gives, as the functions of the head say it.
use Rattle.std.proofs.Common.{◌≡◌, ◌≤◌, ◌^◌, ℕ, ◌+◌, ◌-◌, ◌==◌, Some, None, IfSome, cond, map, option_map, refl, sym, ap, ◌∙◌, subst}
use Rattle.httparse.specs.Spans.{header_bytes}
use Rattle.acng_base.specs.Heads.{Head}
use Rattle.acng_base.specs.Framings.{framing, part_len}
use Rattle.acng_answer.specs.Blocks.{IsFramedAs, IsFraming}
use Rattle.acng_answer.proofs.DueLemmas.{stated_small}
use Rattle.acng_answer.proofs.head.judge_fields.Goals as goal

pub frame-requires-clause-part : goal.frame-requires-clause-part
frame-requires-clause-part c = sym (c.part_of.ensures ∙ ap (λ r. cond (c.args.status == 206) (option_map (λ r. r.1 + 1 - r.0) r) None) (c.find_range-range.ensures.range c.args.status))

pub returns : goal.returns
returns c =
    let h : Head = record { status = c.args.status; fields = map (header_bytes c.args.block.now) c.args.fields.now } in
    let part : c.part_of.result ≡ part_len h = c.part_of.ensures ∙ ap (λ r. cond (c.args.status == 206) (option_map (λ r. r.1 + 1 - r.0) r) None) (c.find_range-range.ensures.range c.args.status) in
    let framed : IsFramedAs h c.in-Some.framed = subst (λ p. IsFraming (framing h) p (Some c.in-Some.framed)) part c.in-Some.ensures in
    let len = c.count_of.ensures h framed in
    record {
      kind = sym c.is_interim.ensures ∙ c.if-is_interim.false;
      framed_as = framed;
      told_is = rw (len, c.find_range-range.ensures.range c.args.status, c.find_tag.ensures c.args.status, c.find_date.ensures.date c.args.status) refl;
      bounds = record {
        status = c.requires.status;
        length = subst (λ o. IfSome o (λ n. n ≤ 2 ^ 41)) (sym len) (stated_small h c.in-Some.framed framed);
        range = c.find_range-range.ensures.within;
        modified = c.find_date.ensures.within;
      };
      located = c.keep_location.ensures c.args.status;
    }

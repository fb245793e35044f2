use Rattle.std.proofs.Common.{◌≡◌, true, bytes_eq, codes, take, drop, refl, sym, ap, ◌∙◌}
use Rattle.acng_base.specs.Fields.{range_at, range_of}
use Rattle.acng_base.proofs.Ranges.{rest_is_drop}
use Rattle.acng_answer.proofs.range.read_range.Goals as goal

pub returns-then-eq-clause-range : goal.returns-then-eq-clause-range
returns-then-eq-clause-range c =
    let text = c.args.text.now in
    let test : bytes_eq (take 6 text) (codes "bytes ") ≡ true =
    ap (λ xs. bytes_eq xs (codes "bytes ")) (sym c.first_bytes.ensures)
    ∙ ap (λ ys. bytes_eq c.first_bytes.result.now ys) (sym c.as_slice.ensures)
    ∙ sym c.eq.ensures
    ∙ c.if-eq.true in
    let law : range_of text ≡ range_at (drop 6 text) = rw test refl in
    c.read_numbers.ensures.range ∙ ap range_at (rest_is_drop 6 text) ∙ sym law

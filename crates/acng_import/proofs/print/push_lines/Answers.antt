use Rattle.std.proofs.Common.{◌<◌, ◌++◌, ◌∙◌, List, ℕ, ap, sym, arith, length, take}
use Rattle.acng_import.specs.Printed.{line, lines}
use Rattle.acng_import.proofs.Lines.{append_both, lines_more, lines_all}
use Rattle.acng_import.proofs.print.push_lines.Goals as goal

pub loop-i-preserved : goal.loop-i-preserved
loop-i-preserved g c =
    let s = c.loop-i in
    let es = c.args.ends.now in
    let ns = g.F.Finder.names c.args.finder.now in
    let e = c.get.result.now in
    let n = c.name.result.now in
    let le : s.i < length es = omega (arith, c.loop-i-test.true, c.min-count.ensures, c.len.ensures) in
    let ln : s.i < length ns = omega (arith, c.loop-i-test.true, c.min-count.ensures, c.count.ensures) in
    c.in_ok-push_line.ensures ∙ ap (λ (xs : List ℕ). xs ++ line e n) s.invariant
    ∙ append_both c.args.bytes.now.items (lines (take s.i es) ns) (line e n)
    ∙ ap (λ (ys : List ℕ). c.args.bytes.now.items ++ ys) (sym (lines_more es ns s.i e n le ln c.get.ensures c.name.ensures))

pub returns : goal.returns
returns g c =
    let s = c.loop-i in
    let es = c.args.ends.now in
    let ns = g.F.Finder.names c.args.finder.now in
    s.invariant
    ∙ ap (λ (ys : List ℕ). c.args.bytes.now.items ++ ys)
    (lines_all es ns s.i (λ le ln. omega (arith, le, ln, c.loop-i-test.false, c.min-count.ensures, c.len.ensures, c.count.ensures)))

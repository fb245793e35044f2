use Rattle.std.proofs.Common.{◌∙◌, codes, drop, sym}
use Rattle.acng_base.specs.Names.{packings}
use Rattle.acng_base.proofs.Endings.{stripped, kept}
use Rattle.acng_base.proofs.name.unpacked.Goals as goal

pub returns-in-Some-strip_suffix-2 : goal.returns-in-Some-strip_suffix-2
returns-in-Some-strip_suffix-2 c =
    let name = c.args.name.now in
    let here = c.in-Some-strip_suffix-2.ensures.cases in
    here.1
    ∙ sym (kept (codes ".gz") (drop 1 packings) name c.in_default.ensures.cases
    ∙ kept (codes ".xz") (drop 2 packings) name c.in_default-strip_suffix.ensures.cases
    ∙ stripped (codes ".bz2") (drop 3 packings) name here.0)

pub returns-in-Some-strip_suffix-3 : goal.returns-in-Some-strip_suffix-3
returns-in-Some-strip_suffix-3 c =
    let name = c.args.name.now in
    let here = c.in-Some-strip_suffix-3.ensures.cases in
    here.1
    ∙ sym (kept (codes ".gz") (drop 1 packings) name c.in_default.ensures.cases
    ∙ kept (codes ".xz") (drop 2 packings) name c.in_default-strip_suffix.ensures.cases
    ∙ kept (codes ".bz2") (drop 3 packings) name c.in_default-strip_suffix-2.ensures.cases
    ∙ stripped (codes ".lzma") (drop 4 packings) name here.0)

pub returns-in-Some-strip_suffix-4 : goal.returns-in-Some-strip_suffix-4
returns-in-Some-strip_suffix-4 c =
    let name = c.args.name.now in
    let here = c.in-Some-strip_suffix-4.ensures.cases in
    here.1
    ∙ sym (kept (codes ".gz") (drop 1 packings) name c.in_default.ensures.cases
    ∙ kept (codes ".xz") (drop 2 packings) name c.in_default-strip_suffix.ensures.cases
    ∙ kept (codes ".bz2") (drop 3 packings) name c.in_default-strip_suffix-2.ensures.cases
    ∙ kept (codes ".lzma") (drop 4 packings) name c.in_default-strip_suffix-3.ensures.cases
    ∙ stripped (codes ".zst") (drop 5 packings) name here.0)

pub returns : goal.returns
returns c =
    let name = c.args.name.now in
    sym (kept (codes ".gz") (drop 1 packings) name c.in_default.ensures.cases
    ∙ kept (codes ".xz") (drop 2 packings) name c.in_default-strip_suffix.ensures.cases
    ∙ kept (codes ".bz2") (drop 3 packings) name c.in_default-strip_suffix-2.ensures.cases
    ∙ kept (codes ".lzma") (drop 4 packings) name c.in_default-strip_suffix-3.ensures.cases
    ∙ kept (codes ".zst") (drop 5 packings) name c.in_default-strip_suffix-4.ensures.cases)

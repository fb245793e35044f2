use Rattle.std.proofs.Common.{subst, sym}
use Rattle.std.specs.Str.{IsUtf8}
use Rattle.acng_class.proofs.Ascii.{path_is_text}
use Rattle.acng_class.proofs.class.as_text.Goals as goal

pub unreachable-requires : goal.unreachable-requires
unreachable-requires c =
    let known = c.as_bytes.ensures in
    c.in-Err.ensures.cases.0 (subst IsUtf8 (sym known.bytes) (path_is_text c.args.path.now known.path))

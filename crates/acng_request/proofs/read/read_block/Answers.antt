-- What is held is scanned as it comes, and the link is read only where that decides nothing.
use Rattle.std.proofs.Common.{◌≡◌, ◌-◌, List, ℕ, length, take, drop, refl, ap, sym, ◌∙◌, subst, arith, true, eqb-true}
use Rattle.std.specs.Prelude.{◌==◌}
use Rattle.std.proofs.lemmas.Result.{err_from_is_err_and}
use Rattle.std.proofs.KnownBytes.{Keeps-refl, Keeps-trans}
use Rattle.acng_base.specs.Lines.{Scans}
use Rattle.acng_base.specs.declared.block.Scan.TheVariants.{End, Incomplete}
use Rattle.acng_request.specs.Nexts.{next}
use Rattle.acng_request.proofs.NextLemmas.{next_long}
use Rattle.acng_request.proofs.ReadLemmas.{Moves-none, Moves-trans, reads_on, reads_failed, reads_not, found_block, scanned_all, scanned_front, undecided, no_more}
use Rattle.acng_request.proofs.read.read_block.Goals as goal

pub pieces-init : goal.pieces-init
pieces-init g c = record {
  scanned = omega arith;
  state = refl;
  reads = reads_not g.L.Link c.args.link.now c.args.buf.now;
  moved = Moves-none (g.L.Link.left c.args.link.now) c.args.buf.now;
  others = Keeps-refl (g.L.Link.written c.args.link.now);
  cause = refl;
}

pub returns-in-End-clause-block : goal.returns-in-End-clause-block
returns-in-End-clause-block g c =
    let inv = c.pieces.invariant in
    let scanned = c.pieces.scanned in
    let P : List ℕ → Type 0 = λ t. Scans c.pieces.state (take (length t - scanned) (drop scanned t)) (End c.in-End.len) in
    found_block c.pieces.buf scanned c.in-End.len c.pieces.state inv.scanned c.as_bytes-in-pieces.ensures.few inv.state (subst P c.as_bytes-in-pieces.ensures.bytes c.in-End.ensures.scans)

pub returns-then-is_full-clause-block : goal.returns-then-is_full-clause-block
returns-then-is_full-clause-block g c =
    let scanned = c.pieces.scanned in
    let P : List ℕ → Type 0 = λ t. Scans c.pieces.state (take (length t - scanned) (drop scanned t)) (Incomplete c.in-Incomplete.next) in
    let full : (length c.pieces.buf == 16384) ≡ true = sym c.is_full.ensures.full ∙ c.if-is_full.true in
    next_long c.pieces.buf c.in-Incomplete.next (eqb-true (length c.pieces.buf) 16384 full)
    (scanned_all c.pieces.buf scanned c.pieces.state c.in-Incomplete.next c.pieces.invariant.state (subst P c.as_bytes-in-pieces.ensures.bytes c.in-Incomplete.ensures.scans))

pub returns-in_err-fill-clause-undecided : goal.returns-in_err-fill-clause-undecided
returns-in_err-fill-clause-undecided g c =
    let scanned = c.pieces.scanned in
    let P : List ℕ → Type 0 = λ t. Scans c.pieces.state (take (length t - scanned) (drop scanned t)) (Incomplete c.in-Incomplete.next) in
    let ends = undecided c.pieces.buf scanned c.pieces.state c.in-Incomplete.next c.is_full.ensures.few (sym c.is_full.ensures.full ∙ c.if-is_full.false) c.pieces.invariant.state (subst P c.as_bytes-in-pieces.ensures.bytes c.in-Incomplete.ensures.scans) in
    let p = err_from_is_err_and c.from_residual.result c.from_residual.ensures.1 in
    rw p.1 (ap next c.in_err-fill.ensures.bytes.0 ∙ ends)

pub returns-in_err-fill-clause-reads : goal.returns-in_err-fill-clause-reads
returns-in_err-fill-clause-reads g c =
    let scanned = c.pieces.scanned in
    let P : List ℕ → Type 0 = λ t. Scans c.pieces.state (take (length t - scanned) (drop scanned t)) (Incomplete c.in-Incomplete.next) in
    let ends = undecided c.pieces.buf scanned c.pieces.state c.in-Incomplete.next c.is_full.ensures.few (sym c.is_full.ensures.full ∙ c.if-is_full.false) c.pieces.invariant.state (subst P c.as_bytes-in-pieces.ensures.bytes c.in-Incomplete.ensures.scans) in
    reads_failed g.L.Link c.args.link.now c.pieces.link c.fill.new.link c.args.buf.now c.pieces.buf c.pieces.invariant.moved c.in_err-fill.ensures.bytes.1 ends

pub returns-then-branch-eq0-clause-block : goal.returns-then-branch-eq0-clause-block
returns-then-branch-eq0-clause-block g c =
    let scanned = c.pieces.scanned in
    let P : List ℕ → Type 0 = λ t. Scans c.pieces.state (take (length t - scanned) (drop scanned t)) (Incomplete c.in-Incomplete.next) in
    let ends = undecided c.pieces.buf scanned c.pieces.state c.in-Incomplete.next c.is_full.ensures.few (sym c.is_full.ensures.full ∙ c.if-is_full.false) c.pieces.invariant.state (subst P c.as_bytes-in-pieces.ensures.bytes c.in-Incomplete.ensures.scans) in
    let fills = c.in_ok-fill.ensures.bytes in
    no_more c.pieces.buf c.fill.new.self fills.0.bytes fills.0.added (omega (arith, fills.1, c.if-branch-eq0.true)) ends

pub returns-then-branch-eq0-clause-reads : goal.returns-then-branch-eq0-clause-reads
returns-then-branch-eq0-clause-reads g c =
    let scanned = c.pieces.scanned in
    let P : List ℕ → Type 0 = λ t. Scans c.pieces.state (take (length t - scanned) (drop scanned t)) (Incomplete c.in-Incomplete.next) in
    let ends = undecided c.pieces.buf scanned c.pieces.state c.in-Incomplete.next c.is_full.ensures.few (sym c.is_full.ensures.full ∙ c.if-is_full.false) c.pieces.invariant.state (subst P c.as_bytes-in-pieces.ensures.bytes c.in-Incomplete.ensures.scans) in
    reads_on g.L.Link c.args.link.now c.pieces.link c.fill.new.link c.args.buf.now c.pieces.buf c.fill.new.self c.pieces.invariant.moved c.in_ok-fill.ensures.bytes.0 ends

pub returns-then-branch-eq0-clause-moved : goal.returns-then-branch-eq0-clause-moved
returns-then-branch-eq0-clause-moved g c =
    let left = g.L.Link.left in
    Moves-trans (left c.args.link.now) (left c.pieces.link) (left c.fill.new.link) c.args.buf.now c.pieces.buf c.fill.new.self c.pieces.invariant.moved c.in_ok-fill.ensures.bytes.0

pub pieces-preserved : goal.pieces-preserved
pieces-preserved g c =
    let left = g.L.Link.left in
    let written = g.L.Link.written in
    let scanned = c.pieces.scanned in
    let inv = c.pieces.invariant in
    let P : List ℕ → Type 0 = λ t. Scans c.pieces.state (take (length t - scanned) (drop scanned t)) (Incomplete c.in-Incomplete.next) in
    let scans = subst P c.as_bytes-in-pieces.ensures.bytes c.in-Incomplete.ensures.scans in
    let ends = undecided c.pieces.buf scanned c.pieces.state c.in-Incomplete.next c.is_full.ensures.few (sym c.is_full.ensures.full ∙ c.if-is_full.false) inv.state scans in
    let fills = c.in_ok-fill.ensures.bytes in
    let size : length c.as_bytes-scanned.result.now ≡ length c.pieces.buf = ap length c.as_bytes-scanned.ensures.bytes in
    record {
      scanned = omega (arith, size, fills.1);
      state = scanned_front c.pieces.buf c.fill.new.self (length c.as_bytes-scanned.result.now) fills.0.bytes c.in-Incomplete.next fills.0.added size (scanned_all c.pieces.buf scanned c.pieces.state c.in-Incomplete.next inv.state scans);
      reads = reads_on g.L.Link c.args.link.now c.pieces.link c.fill.new.link c.args.buf.now c.pieces.buf c.fill.new.self inv.moved fills.0 ends;
      moved = Moves-trans (left c.args.link.now) (left c.pieces.link) (left c.fill.new.link) c.args.buf.now c.pieces.buf c.fill.new.self inv.moved fills.0;
      others = Keeps-trans (written c.args.link.now) (written c.pieces.link) (written c.fill.new.link) inv.others c.fill.ensures.others;
      cause = c.in_ok-fill.ensures.cause.worked ∙ inv.cause;
    }

use Rattle.std.proofs.Common.{List, ℕ, sym, subst}
use Rattle.acng_import.specs.Steps.{anywhere}
use Rattle.acng_cli.specs.declared.opening.Maint.{Maint}
use Rattle.acng_cli.specs.Imports.{Lent, ImportsOver, PrintsImport}
use Rattle.acng_cli.proofs.Expires.{store_left}
use Rattle.acng_cli.proofs.Entered.{entered_idle}
use Rattle.acng_cli.proofs.imports.import_desk.Goals as goal

pub into_keeper-requires : goal.into_keeper-requires
into_keeper-requires g c =
    record { idle = entered_idle anywhere c.args.desk.plain c.import-run.new.desk.plain c.import-run.ensures.enters c.requires.idle }

pub returns-clause-over : goal.returns-clause-over
returns-clause-over g c =
    let k = g.K.Keeper in
    let i = c.import-run in
    let old : Lent g.row.W.Denot g.row.F.Denot =
    record { out = c.args.out.now; coming = g.C.Clock.coming c.args.clock.now; found = c.args.finder.now } in
    let new : Lent g.row.W.Denot g.row.F.Denot =
    record { out = c.print_import-status.new.out; coming = g.C.Clock.coming c.now-now.new.self; found = i.new.finder } in
    subst
    (λ (e : Maint g.row.K.Denot g.row.K-Body-Slip.Denot).
    ImportsOver g.S.Site k.tells g.W.Sink g.F.Finder
    (λ k. record { kept = g.K.Keeper.kept k; next_id = g.K.Keeper.next k; faults = g.K.Keeper.faults k }) c.args.desk old new e)
    (sym c.ended.ensures)
    (record {
      now = c.now-now.result;
      tick = c.now-now.ensures;
      ended = i.result;
      left = i.new.desk;
      did = record {
        imported = i.ensures.imported;
        only = i.ensures.only;
        enters = i.ensures.enters;
        cause = i.ensures.cause;
        fault = i.ensures.fault;
      };
      printed = subst (λ (names : List (List ℕ)). PrintsImport g.W.Sink names i.result c.print_import-status.result c.args.out.now
          c.print_import-status.new.out) i.ensures.same_names c.print_import-status.ensures;
      slip = c.slip_of.ensures;
      keeper = store_left _ _ _ i.new.desk c.into_keeper.ensures.kept c.into_keeper.ensures.next c.into_keeper.ensures.faults;
    })

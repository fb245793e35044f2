-- The command `report`: the table of a desk.
use Rattle.std.specs.Prelude.{◌≡◌, None}
use Rattle.acng_base.specs.declared.stream.Sink.{Ghosts as SinkGhosts}
use Rattle.acng_desk.specs.House.{House}
use Rattle.acng_report.specs.Desks.{lines_of}
use Rattle.acng_report.specs.Tables.{table}
use Rattle.acng_cli.specs.declared.opening.Maint.{Maint}
use Rattle.acng_cli.specs.declared.output.Output.{Output}
use Rattle.acng_cli.specs.Maint.{PrintsUnless}
use Rattle.acng_cli.specs.Opens.{Store}
use Rattle.acng_cli.specs.Single.{store_in}

-- what is printed of a desk
abbrev pub of_desk : House → Output
of_desk desk = record { status = 0; text = table (lines_of desk.plain) }

-- the table of a desk, whose keeper is given back as it is
pub record PrintsTable {W K Q : Type 0} (w : SinkGhosts W) (store : K → Store) (desk : House) (old new : W)
    (e : Maint K Q) : Type 0 where
  pub printed : PrintsUnless w (of_desk desk) e.status old new
  pub quiet : e.slip ≡ None
  pub keeper : store e.keeper ≡ store_in desk

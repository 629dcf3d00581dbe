use Rattle.std.proofs.Common.{sym, subst}
use Rattle.ww_rule.specs.Grid.{plane_of}
use Rattle.routed_circuits.specs.Tables.{ShowsListRuns}
use Rattle.route_cells.specs.Fits.{FitsPorts}
use Rattle.route_cells.proofs.cells.list_of.Goals as goal

pub returns-in-Ok-clause-shows : goal.returns-in-Ok-clause-shows
returns-in-Ok-clause-shows c =
    subst (ShowsListRuns (plane_of c.args.pattern.now.rows) c.args.ports.now) (sym c.list_in.ensures) (c.in-Ok.ensures.0)

pub returns-in-Ok-clause-fits : goal.returns-in-Ok-clause-fits
returns-in-Ok-clause-fits c = subst (FitsPorts c.args.ports.now) (sym c.list_in.ensures) (c.in-Ok.ensures.1)

use Rattle.std.proofs.Common.{◌∙◌, ap, subst}
use Rattle.std.proofs.lemmas.Result.{IfOk-weaker}
use Rattle.tile_timing.specs.Window.{shown}
use Rattle.routed_circuits.specs.Tables.{ShowsListRuns}
use Rattle.route_cells.proofs.Shown.{checked_show_runs}
use Rattle.route_cells.proofs.cells.test_tables.Goals as goal

pub returns : goal.returns
returns c =
    let t = c.args.tables.now in
    let states = c.deref.result.now in
    let ports = c.args.ports.now in
    let width = c.args.pattern.now.width in
    let flat = ap (λ cells. shown cells width) c.deref.ensures.value ∙ c.in_ok-cells.ensures in
    IfOk-weaker c.test_all.result _ _ (λ _ all. (
      subst (λ plane. ShowsListRuns plane ports t.list) (ap (shown states) all.1 ∙ flat) (checked_show_runs t states ports all.0),
      all.2,
    )) c.test_all.ensures

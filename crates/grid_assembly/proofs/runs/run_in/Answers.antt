use Rattle.std.proofs.Common.{rules, ◌≤◌}
use Rattle.plan_layout.specs.Tape.{drawn_tiling}
use Rattle.plan_layout.specs.Slots.{slot_of}
use Rattle.plan_layout.specs.Tape.{drawn_edges}
use Rattle.grid_assembly.proofs.RowRuns.{in_plane}
use Rattle.grid_assembly.proofs.runs.run_in.Goals as goal

pub returns-clause-run : goal.returns-clause-run
returns-clause-run c =
    let plan = c.args.plan.now in
    let few : c.min.result ≤ c.slot_run-state.result.1 = search rules in
    let within : c.min.result ≤ c.args.limit = search rules in
    let some : 1 ≤ c.min.result = search rules in
    in_plane (drawn_tiling plan) (drawn_edges plan) (slot_of c.args.slot) c.args.x c.args.y c.args.limit c.slot_run-state.result.1 c.slot_run-state.result.0
    c.requires.slot c.slot_run-state.ensures c.min.result some few within

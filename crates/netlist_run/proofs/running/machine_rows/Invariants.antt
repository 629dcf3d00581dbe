use Rattle.std.proofs.Common.{◌≡◌, ℕ, List, [], length}
use Rattle.netlist_core.specs.declared.model.Design.{Design}
use Rattle.netlist_text.specs.Parts.{AreParts}
use Rattle.netlist_run.specs.Runs.{Ran}
use Rattle.netlist_run.proofs.running.machine_rows.Given as goal

abbrev pub invariant-loop-cycle : goal.invariant-loop-cycle
invariant-loop-cycle l =
    (l.machine.flat ≡ l.fn.machine.flat) × (length l.row ≡ length l.fn.machine.flat.ins) × (length l.shown ≡ length l.fn.machine.flat.outs)
    × ((design : Design) (order : List ℕ) → AreParts design l.fn.machine.flat order → Ran design l.streams 0 [] l.fn.machine.state → Ran design l.streams l.cycle l.rows.items l.machine.state)

use Rattle.std.proofs.Common.{ℕ, ◌<◌, ◌≢◌, get_or}
use Rattle.ww_rule.specs.declared.pattern.State.TheVariants.{Empty}
use Rattle.route_tables.specs.Cells.{place_cell, IsCellOfGate}
use Rattle.route_tables.proofs.gates.has_cells.Given as goal

abbrev pub invariant-loop-m : goal.invariant-loop-m
invariant-loop-m l =
    (j : ℕ) → j < l.m → get_or l.drawing.cells j Empty ≢ Empty → IsCellOfGate l.tables l.states l.k (place_cell l.gate l.drawing j)

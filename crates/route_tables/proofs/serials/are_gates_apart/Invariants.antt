use Rattle.std.proofs.Common.{ℕ, ◌<◌, length, get_or}
use Rattle.route_tables.specs.Serials.{TouchesWell}
use Rattle.route_tables.proofs.serials.are_gates_apart.Given as goal

abbrev pub invariant-loop-n : goal.invariant-loop-n
invariant-loop-n l =
    (k : ℕ) → k < l.n → get_or l.tables.groups k 0 < length l.tables.gates → TouchesWell l.tables.cells l.tables.serials l.tables.width l.tables.groups (length l.tables.gates) k

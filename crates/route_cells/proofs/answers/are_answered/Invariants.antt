use Rattle.std.proofs.Common.{◌<◌, ℕ}
use Rattle.routed_circuits.specs.Runs.{src_at}
use Rattle.gate_library.specs.Lawful.{answer_at}
use Rattle.route_tables.specs.Runs.{IsAnsweredBy}
use Rattle.route_cells.proofs.answers.are_answered.Given as goal

abbrev pub invariant-loop-o : goal.invariant-loop-o
invariant-loop-o l = (k : ℕ) → k < l.o → IsAnsweredBy l.list l.ins (answer_at l.drawing k) (src_at l.outs k)

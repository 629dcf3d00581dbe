use Rattle.std.proofs.Common.{ap, ⊎_elim, arith}
use Rattle.plan_layout.specs.Slots.{slot_of}
use Rattle.grid_assembly.proofs.Near.{stands, near}
use Rattle.grid_assembly.proofs.runs.slot_run.Goals as goal

pub piece_run-requires-clause-far : goal.piece_run-requires-clause-far
piece_run-requires-clause-far c =
    let n = near c.args.plan.now c.requires.admissible c.args.column c.args.lane (slot_of c.args.slot) c.requires.slot (ap (λ s. stands (slot_of s)) c.in-Lower.is) in
    omega (arith, n.0)

pub piece_run-requires-clause-low : goal.piece_run-requires-clause-low
piece_run-requires-clause-low c =
    let n = near c.args.plan.now c.requires.admissible c.args.column c.args.lane (slot_of c.args.slot) c.requires.slot (ap (λ s. stands (slot_of s)) c.in-Lower.is) in
    omega (arith, n.1, c.saturating_sub.ensures)

pub piece_run-requires-in-Whole-clause-far : goal.piece_run-requires-in-Whole-clause-far
piece_run-requires-in-Whole-clause-far c =
    let n = near c.args.plan.now c.requires.admissible c.args.column c.args.lane (slot_of c.args.slot) c.requires.slot (⊎_elim (ap (λ s. stands (slot_of s))) (ap (λ s. stands (slot_of s))) c.in-Whole.is) in
    omega (arith, n.0)

pub piece_run-requires-in-Whole-clause-low : goal.piece_run-requires-in-Whole-clause-low
piece_run-requires-in-Whole-clause-low c =
    let n = near c.args.plan.now c.requires.admissible c.args.column c.args.lane (slot_of c.args.slot) c.requires.slot (⊎_elim (ap (λ s. stands (slot_of s))) (ap (λ s. stands (slot_of s))) c.in-Whole.is) in
    omega (arith, n.1)

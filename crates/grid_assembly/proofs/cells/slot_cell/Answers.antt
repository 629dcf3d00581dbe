use Rattle.std.proofs.Common.{ap, ⊎_elim, arith}
use Rattle.plan_layout.specs.Slots.{slot_of}
use Rattle.grid_assembly.proofs.Near.{stands, near}
use Rattle.grid_assembly.proofs.cells.slot_cell.Goals as goal

pub piece_cell-requires-clause-far : goal.piece_cell-requires-clause-far
piece_cell-requires-clause-far c =
    let n = near c.args.plan.now c.requires.admissible c.args.column c.args.lane (slot_of c.args.slot) c.requires.slot (ap (λ s. stands (slot_of s)) c.in-Lower.is) in
    omega (arith, n.0)

pub piece_cell-requires-clause-low : goal.piece_cell-requires-clause-low
piece_cell-requires-clause-low c =
    let n = near c.args.plan.now c.requires.admissible c.args.column c.args.lane (slot_of c.args.slot) c.requires.slot (ap (λ s. stands (slot_of s)) c.in-Lower.is) in
    omega (arith, n.1, c.saturating_sub.ensures)

pub piece_cell-requires-in-Whole-clause-far : goal.piece_cell-requires-in-Whole-clause-far
piece_cell-requires-in-Whole-clause-far c =
    let n = near c.args.plan.now c.requires.admissible c.args.column c.args.lane (slot_of c.args.slot) c.requires.slot (⊎_elim (ap (λ s. stands (slot_of s))) (ap (λ s. stands (slot_of s))) c.in-Whole.is) in
    omega (arith, n.0)

pub piece_cell-requires-in-Whole-clause-low : goal.piece_cell-requires-in-Whole-clause-low
piece_cell-requires-in-Whole-clause-low c =
    let n = near c.args.plan.now c.requires.admissible c.args.column c.args.lane (slot_of c.args.slot) c.requires.slot (⊎_elim (ap (λ s. stands (slot_of s))) (ap (λ s. stands (slot_of s))) c.in-Whole.is) in
    omega (arith, n.1)

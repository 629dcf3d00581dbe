use Rattle.std.proofs.lemmas.Bool.{not-true}
use Rattle.plan_layout.specs.Tape.{drawn_edges}
use Rattle.grid_assembly.proofs.Ports.{dark_row}
use Rattle.grid_assembly.proofs.cells.is_row_dark.Goals as goal

pub returns-then-not-has_electron : goal.returns-then-not-has_electron
returns-then-not-has_electron c = λ yes x.
    let first = c.if-not-has_electron.true in
    let second = not-true c.has_electron-then-not-has_electron.result yes in
    dark_row (drawn_edges c.args.plan.now) c.args.column c.args.lane c.args.kind x c.args.y
    (c.has_electron.ensures.head first x) (c.has_electron-then-not-has_electron.ensures.head second x)
    (c.has_electron.ensures.tail first x) (c.has_electron-then-not-has_electron.ensures.tail second x)

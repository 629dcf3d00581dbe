use Rattle.plan_layout.specs.Tape.{drawn_edges}
use Rattle.macro_grid.proofs.Steps.{answered, not_answered}
use Rattle.grid_assembly.proofs.Ports.{tails_at}
use Rattle.grid_assembly.proofs.cells.is_tail.Goals as goal

pub returns-then-is_lit_exit : goal.returns-then-is_lit_exit
returns-then-is_lit_exit c =
    answered _ _ _ _ (tails_at (drawn_edges c.args.plan.now) c.args.column c.args.lane c.args.kind c.args.place.0 c.args.place.1)
    c.is_lit_exit.ensures c.if-is_lit_exit.true

pub returns-else-is_lit_exit : goal.returns-else-is_lit_exit
returns-else-is_lit_exit c =
    not_answered _ _ _ _ _ (tails_at (drawn_edges c.args.plan.now) c.args.column c.args.lane c.args.kind c.args.place.0 c.args.place.1)
    c.is_lit_exit.ensures c.if-is_lit_exit.false c.is_lit_exit-else-is_lit_exit.ensures

use Rattle.plan_layout.specs.Tape.{drawn_edges}
use Rattle.macro_grid.proofs.Steps.{answered, not_answered}
use Rattle.grid_assembly.proofs.Ports.{heads_at}
use Rattle.grid_assembly.proofs.cells.is_head.Goals as goal

pub returns-then-is_lit_entry : goal.returns-then-is_lit_entry
returns-then-is_lit_entry c =
    answered _ _ _ _ (heads_at (drawn_edges c.args.plan.now) c.args.column c.args.lane c.args.kind c.args.place.0 c.args.place.1)
    c.is_lit_entry.ensures c.if-is_lit_entry.true

pub returns-else-is_lit_entry : goal.returns-else-is_lit_entry
returns-else-is_lit_entry c =
    not_answered _ _ _ _ _ (heads_at (drawn_edges c.args.plan.now) c.args.column c.args.lane c.args.kind c.args.place.0 c.args.place.1)
    c.is_lit_entry.ensures c.if-is_lit_entry.false c.is_lit_entry-else-is_lit_entry.ensures

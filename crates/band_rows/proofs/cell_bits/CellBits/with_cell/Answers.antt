use Rattle.band_rows.proofs.WordStates.{head_on, head_states, tail_on, tail_states, wire_on, wire_states}
use Rattle.band_rows.proofs.cell_bits.CellBits.with_cell.Goals as goal

pub returns-in-Head-clause-states : goal.returns-in-Head-clause-states
returns-in-Head-clause-states c = head_states c.args.self c.args.b c.requires.bit c.requires.empty c.requires.on_cells c.args.state c.in-Head.is

pub returns-in-Head-clause-on_cells : goal.returns-in-Head-clause-on_cells
returns-in-Head-clause-on_cells c = head_on c.args.self c.args.b c.requires.bit c.requires.empty c.requires.on_cells

pub returns-in-Tail-clause-states : goal.returns-in-Tail-clause-states
returns-in-Tail-clause-states c = tail_states c.args.self c.args.b c.requires.bit c.requires.empty c.requires.on_cells c.args.state c.in-Tail.is

pub returns-in-Tail-clause-on_cells : goal.returns-in-Tail-clause-on_cells
returns-in-Tail-clause-on_cells c = tail_on c.args.self c.args.b c.requires.bit c.requires.empty c.requires.on_cells

pub returns-in-Conductor-clause-states : goal.returns-in-Conductor-clause-states
returns-in-Conductor-clause-states c = wire_states c.args.self c.args.b c.requires.bit c.requires.empty c.requires.on_cells c.args.state c.in-Conductor.is

pub returns-in-Conductor-clause-on_cells : goal.returns-in-Conductor-clause-on_cells
returns-in-Conductor-clause-on_cells c = wire_on c.args.self c.args.b c.requires.bit c.requires.empty c.requires.on_cells

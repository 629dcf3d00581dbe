use Rattle.std.proofs.Common.{◌≡◌, sym, ◌∙◌, ap, ℕ, pos, arith}
use Rattle.tile_timing.specs.Window.{shown}
use Rattle.route_cells.specs.Electrons.{state_before}
use Rattle.route_cells.proofs.electrons.shows_cell.Goals as goal

pub returns : goal.returns
returns c = λ same rest is.
    let e : c.from-after.result ≡ rest = omega (arith, c.from-after.ensures, is) in
    ap (λ (cell : ℕ × ℕ). shown c.args.states.now c.args.t.now.width (pos cell.0) (pos cell.1)) (sym c.cell-cell.ensures)
    ∙ sym c.state_at.ensures ∙ c.is_same.ensures same ∙ c.state_before.ensures ∙ ap (state_before c.args.first c.args.period c.args.bits.now) e

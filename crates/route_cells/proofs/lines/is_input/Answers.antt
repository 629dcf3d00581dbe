use Rattle.std.proofs.Common.{◌≡◌, ◌∙◌, sym, ap, pos, arith}
use Rattle.cell_core.specs.declared.cells.Src.TheVariants.{Input}
use Rattle.route_tables.specs.Tables.{point_at}
use Rattle.route_cells.proofs.lines.is_input.Goals as goal

pub returns : goal.returns
returns c = λ dark.
    let line = c.args.line.now in
    let number : c.in-Ok.number ≡ c.args.i = omega arith in
    record {
      at = c.get.result.now;
      driven = c.get.ensures;
      point = ap (point_at c.args.t.now) (sym c.input_port-at.ensures) ∙ (c.is_point.ensures c.if-not-is_point.false).1
          ∙ ap (λ i. (((pos line.x, pos line.y), 0), Input i)) number;
      dark = c.is_dark_cell.ensures dark;
    }

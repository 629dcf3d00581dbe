use Rattle.std.proofs.Common.{◌≡◌, [], ◌∷◌, get_or, ap, subst, sym, take, ◌∙◌}
use Rattle.std.proofs.lemmas.List.{take_all}
use Rattle.ww_rule.specs.Wireworld.{injected}
use Rattle.ww_rule.specs.Grid.{plane_of, IsGrid}
use Rattle.ww_rule.specs.Injections.{has_cell}
use Rattle.ww_rule.proofs.RowLemmas.{in_rows, in_row}
use Rattle.ww_rule.proofs.Injected.{with_head, with_head_grid, with_head_shows, injected_more}
use Rattle.ww_rule.proofs.plane.Plane.inject.Goals as goal

pub put-requires-clause-in_rows : goal.put-requires-clause-in_rows
put-requires-clause-in_rows c =
    let cell = get_or c.args.injections.now c.loop-x.x-index (0, 0) in
    let box = c.requires.in_box c.loop-x.x-index (0, 0) c.loop-x-test.true in
    in_rows c.args.self.width c.args.self.height cell.0 cell.1 c.loop-x.rows c.loop-x.invariant.grid box.0 box.1

pub put-requires-clause-in_row : goal.put-requires-clause-in_row
put-requires-clause-in_row c =
    let cell = get_or c.args.injections.now c.loop-x.x-index (0, 0) in
    let box = c.requires.in_box c.loop-x.x-index (0, 0) c.loop-x-test.true in
    in_row c.args.self.width c.args.self.height cell.0 cell.1 c.loop-x.rows c.loop-x.invariant.grid box.0 box.1

pub loop-x-preserved : goal.loop-x-preserved
loop-x-preserved c =
    let i = c.loop-x.x-index in
    let cells = c.args.injections.now in
    let cell = get_or cells i (0, 0) in
    let rows = c.loop-x.rows in
    let box = c.requires.in_box i (0, 0) c.loop-x-test.true in
    let iny = in_rows c.args.self.width c.args.self.height cell.0 cell.1 rows c.loop-x.invariant.grid box.0 box.1 in
    let inx = in_row c.args.self.width c.args.self.height cell.0 cell.1 rows c.loop-x.invariant.grid box.0 box.1 in
    let made : c.put.new.self ≡ with_head rows cell.0 cell.1 = c.put.ensures in
    record {
      grid = subst (IsGrid c.args.self.width c.args.self.height) (sym made) (with_head_grid c.args.self.width c.args.self.height cell.0 cell.1 rows c.loop-x.invariant.grid iny);
      cells = ap plane_of made ∙ with_head_shows cell.0 cell.1 rows iny inx ∙ ap (injected (has_cell (cell ∷ []))) c.loop-x.invariant.cells ∙ injected_more cells i (0, 0) (plane_of c.args.self.rows) c.loop-x-test.true;
    }

pub returns-clause-cells : goal.returns-clause-cells
returns-clause-cells c =
    let all : take c.loop-x.x-index c.args.injections.now ≡ c.args.injections.now = take_all c.loop-x.x-index c.args.injections.now c.loop-x-test.false in
    c.loop-x.invariant.cells
    ∙ ap (λ cells. injected (has_cell cells) (plane_of c.args.self.rows)) all

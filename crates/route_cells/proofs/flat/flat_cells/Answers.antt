use Rattle.std.proofs.Common.{◌<◌, ◌++◌, ◌∙◌, [], sym, ap, ap₂, take, length, arith}
use Rattle.std.proofs.lemmas.List.{flat_map_more, take_all, take_more}
use Rattle.lists.specs.Items.{list_at}
use Rattle.tile_timing.specs.Window.{shown}
use Rattle.route_cells.proofs.FlatRows.{flat, flat_is_plane}
use Rattle.route_cells.proofs.flat.flat_cells.Goals as goal

pub loop-y-init : goal.loop-y-init
loop-y-init c = c.new-cells.ensures.items

pub loop-y-preserved : goal.loop-y-preserved
loop-y-preserved c =
    let rows = c.args.pattern.now.rows in
    let y = c.loop-y.y in
    let low : y < length rows = omega arith in
    c.in_ok-extend_from_slice.ensures.items ∙ ap₂ (λ front row. front ++ row) c.loop-y.invariant c.row.ensures
    ∙ flat_map_more (λ row. row) [] (take y rows) (list_at rows y) ∙ sym (ap flat (take_more rows y [] low))

pub returns : goal.returns
returns c =
    let pattern = c.args.pattern.now in
    let whole = ap flat (take_all c.loop-y.y pattern.rows (omega arith)) in
    ap (λ cells. shown cells pattern.width) (c.loop-y.invariant ∙ whole) ∙ flat_is_plane pattern.width pattern.height pattern.rows pattern.in_rows

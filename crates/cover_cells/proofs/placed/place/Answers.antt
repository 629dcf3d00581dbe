use Rattle.std.proofs.Common.{◌≡◌, ◌∙◌, ap, subst, ◌+◌, ◌<◌, ℕ, true, length, get_or, List, arith}
use Rattle.cell_core.specs.declared.cells.Cell.{Cell}
use Rattle.cell_core.specs.declared.cells.Cell.TheVariants.{Or}
use Rattle.cell_core.specs.declared.cells.Src.{Src}
use Rattle.cell_core.specs.declared.cells.Src.TheVariants.{Input}
use Rattle.cell_core.specs.Sources.{reads_there, reads_one}
use Rattle.cell_core.specs.Meaning.{cell_bit, cell_bits}
use Rattle.cell_sharing.specs.Grown.{Answers}
use Rattle.cover_cells.specs.Placed.{relocated_cell}
use Rattle.cell_sharing.proofs.Growing.{all_there_after}
use Rattle.cell_core.proofs.OwnBits.{cell_in_order}
use Rattle.cover_cells.proofs.Placing.{moved_cell_there, placed_more}
use Rattle.cover_cells.proofs.placed.place.Goals as goal

-- what a read of the slice names where there is nothing
none : Cell
none = Or (Input 0) (Input 0)

in_order : (nets i : ℕ) (cells : List Cell) → i < length cells → (n : ℕ) → n ≡ i → reads_there nets 0 n (get_or cells i none) ≡ reads_there nets 0 i (get_or cells i none)
in_order nets i cells within n is = ap (λ k. reads_there nets 0 k (get_or cells i none)) is

pub relocated_cell-requires : goal.relocated_cell-requires
unfolding none
relocated_cell-requires c =
    let within : c.loop-cell.cell-index < length c.args.cells.now = omega (arith, c.loop-cell-test.true) in
    let e : length c.deref.result.now ≡ 0 + c.loop-cell.cell-index = omega (arith, ap length c.deref.ensures.value, c.loop-cell.invariant.long) in
    ap (λ n. reads_there (length c.args.sources.now) 0 n (get_or c.args.cells.now c.loop-cell.cell-index none)) e ∙ cell_in_order (length c.args.sources.now) 0 0 c.args.cells.now c.loop-cell.cell-index none within c.requires.in_order

pub settle-requires : goal.settle-requires
unfolding none
settle-requires c =
    let within : c.loop-cell.cell-index < length c.args.cells.now = omega (arith, c.loop-cell-test.true) in
    let e : length c.loop-cell.made.items ≡ 0 + c.loop-cell.cell-index = omega (arith, c.loop-cell.invariant.long) in
    let reads : reads_there (length c.args.sources.now) 0 (length c.loop-cell.made.items) (get_or c.args.cells.now c.loop-cell.cell-index none) ≡ true =
    ap (λ n. reads_there (length c.args.sources.now) 0 n (get_or c.args.cells.now c.loop-cell.cell-index none)) e ∙ cell_in_order (length c.args.sources.now) 0 0 c.args.cells.now c.loop-cell.cell-index none within c.requires.in_order in
    ap (reads_there c.loop-cell.list.inputs (length c.loop-cell.list.starts) (length c.loop-cell.list.cells)) (c.relocated_cell.ensures ∙ ap (λ (m : List Src). relocated_cell c.args.sources.now m (get_or c.args.cells.now c.loop-cell.cell-index none)) c.deref.ensures.value)
    ∙ moved_cell_there c.loop-cell.list c.args.sources.now c.loop-cell.made.items (get_or c.args.cells.now c.loop-cell.cell-index none) (all_there_after c.args.list.now c.loop-cell.list _ _ c.loop-cell.invariant.grows c.args.sources.now c.requires.there) c.loop-cell.invariant.there reads

pub loop-cell-preserved : goal.loop-cell-preserved
unfolding none
loop-cell-preserved c =
    let within : c.loop-cell.cell-index < length c.args.cells.now = omega (arith, c.loop-cell-test.true) in
    let e : c.loop-cell.cell-index ≡ 0 + c.loop-cell.cell-index = omega arith in
    let reads : reads_there (length c.args.sources.now) 0 c.loop-cell.cell-index (get_or c.args.cells.now c.loop-cell.cell-index none) ≡ true =
    ap (λ n. reads_there (length c.args.sources.now) 0 n (get_or c.args.cells.now c.loop-cell.cell-index none)) e ∙ cell_in_order (length c.args.sources.now) 0 0 c.args.cells.now c.loop-cell.cell-index none within c.requires.in_order in
    let is : c.relocated_cell.result ≡ relocated_cell c.args.sources.now c.loop-cell.made.items (get_or c.args.cells.now c.loop-cell.cell-index none) =
    c.relocated_cell.ensures ∙ ap (λ (m : List Src). relocated_cell c.args.sources.now m (get_or c.args.cells.now c.loop-cell.cell-index none)) c.deref.ensures.value in
    placed_more c.args.list.now c.loop-cell.list c.settle.new.list c.args.sources.now c.args.cells.now c.loop-cell.cell-index c.loop-cell.made.items c.push.new.self.items c.in_ok-placed.placed none within c.requires.there reads c.loop-cell.invariant
    (subst (λ cell. Answers c.loop-cell.list c.settle.new.list 1 (reads_one cell ≡ true) c.in_ok-placed.placed (λ inputs state. cell_bit inputs state (cell_bits inputs state c.loop-cell.list.cells) cell)) is c.in_ok-placed.ensures)
    c.in_ok-push.ensures.items

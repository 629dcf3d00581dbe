-- What is left to write of a plan's rows, by the runs of a row and by the rows.
use Rattle.std.proofs.Common.{◌≡◌, ℕ, ◌+◌, ◌≤◌, ◌<◌, pos, List, [], ◌∷◌, ◌++◌, map, drop, take, length, replicate, sym, ap, ap₂, ◌∙◌, arith, length-drop, length-take-le, take-append-drop}
use Rattle.std.proofs.lemmas.List.{ext_get_or, get_or-take, get_or-drop, get_or-replicate, length-replicate, drop-drop, drop_more, map-append}
use Rattle.std.proofs.lemmas.List.FromFn.{length-map-range_with_len, get_or-map-range_with_len}
use Rattle.ww_rule.specs.declared.pattern.State.{State}
use Rattle.ww_rule.specs.declared.pattern.State.TheVariants.{Empty}
use Rattle.lane_core.specs.declared.plan.Plan.{Plan}
use Rattle.lane_core.specs.Plans.{size_of}
use Rattle.tile_library.specs.Drawings.{shipped_drawing}
use Rattle.plan_layout.specs.Tape.{drawn_plane}
use Rattle.grid_assembly.specs.PlanDrawing.{AreCellsOfRow, start_row, start_grid}
use Rattle.grid_assembly.proofs.Pattern.{cell_at}
use Rattle.tile_library.specs.RowRuns.{IsRowRun}
use Rattle.pattern_writing.specs.Writer.{tag_of}
use Rattle.rle_write.specs.Left.{rows_left, text_left}
use Rattle.rle_write.proofs.Lefts.{cells_none, past_rows}
use Rattle.rle_write.proofs.Tags.{run_tags}

-- a row is as long as the drawing is wide
pub row_long : (plan : Plan) (y : ℕ) → length (start_row plan y) ≡ (size_of plan).0
row_long plan y = length-map-range_with_len (λ x. drawn_plane shipped_drawing plan (pos x) (pos y)) 0 (size_of plan).0

-- the rest of a row begins with a piece that has its cells
pub piece_next : (plan : Plan) (y x : ℕ) (cells : List State) → AreCellsOfRow plan y x cells → x + length cells ≤ (size_of plan).0
    → drop x (start_row plan y) ≡ cells ++ drop (x + length cells) (start_row plan y)
piece_next plan y x cells are within =
    let row : List State = start_row plan y in
    let n : ℕ = length cells in
    let room : n ≤ length (drop x row) = omega (arith, length-drop x row, row_long plan y, within) in
    let front : cells ≡ take n (drop x row) =
    ext_get_or Empty cells (take n (drop x row)) (sym (length-take-le n (drop x row) room))
    (λ i lt.
    are i lt ∙ sym (get_or-take n (drop x row) i Empty lt ∙ get_or-drop x row i Empty ∙ cell_at plan (x + i) y (omega (arith, lt, within)))) in
    sym (take-append-drop n (drop x row)) ∙ ap (λ l. l ++ drop n (drop x row)) (sym front) ∙ ap (λ l. cells ++ l) (drop-drop n x row)

-- the rest of a row begins with a run of it
pub run_next : (plan : Plan) (y x limit : ℕ) (run : State × ℕ)
    → IsRowRun (λ x. drawn_plane shipped_drawing plan (pos x) (pos y)) x limit run → x + limit ≤ (size_of plan).0
    → map tag_of (drop x (start_row plan y)) ≡ replicate run.1 (tag_of run.0) ++ map tag_of (drop (x + run.1) (start_row plan y))
run_next plan y x limit run is inside =
    let cells : List State = replicate run.1 run.0 in
    let long : length cells ≡ run.1 = length-replicate run.1 run.0 in
    let are : AreCellsOfRow plan y x cells = λ i lt. (
    let lt' : i < run.1 = omega (arith, lt, long) in get_or-replicate run.1 i run.0 Empty lt' ∙ sym (is.alike i lt')) in
    ap (map tag_of) (piece_next plan y x cells are (omega (arith, long, is.within, inside)))
    ∙ map-append tag_of cells (drop (x + length cells) (start_row plan y))
    ∙ ap₂ (λ tags k. tags ++ map tag_of (drop (x + k) (start_row plan y))) (run_tags run.1 run.0) long

pub tags_none : (plan : Plan) (y x : ℕ) → (size_of plan).0 ≤ x → map tag_of (drop x (start_row plan y)) ≡ []
tags_none plan y x h = cells_none (start_row plan y) x (omega (arith, row_long plan y, h))

rows_long : (plan : Plan) → length (start_grid plan).rows ≡ (size_of plan).1
rows_long plan = length-map-range_with_len (start_row plan) 0 (size_of plan).1

-- the rest of the rows begins with the row that is next
pub row_next : (plan : Plan) (y : ℕ) → y < (size_of plan).1 → drop y (start_grid plan).rows ≡ start_row plan y ∷ drop (y + 1) (start_grid plan).rows
row_next plan y lt =
    drop_more (start_grid plan).rows y [] (omega (arith, rows_long plan, lt))
    ∙ ap (λ r. r ∷ drop (y + 1) (start_grid plan).rows) (get_or-map-range_with_len (start_row plan) 0 (size_of plan).1 y y [] lt (omega arith))

-- after the rows only the `!` is left
pub rows_none : (plan : Plan) (held : List ℕ) (column ends y : ℕ) → (size_of plan).1 ≤ y
    → text_left held column (rows_left ends (drop y (start_grid plan).rows)) ≡ text_left held column []
rows_none plan held column ends y h = past_rows (start_grid plan).rows held column ends y (omega (arith, rows_long plan, h))

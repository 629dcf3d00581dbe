-- The cells of a block's row, by its runs.
use Rattle.std.proofs.Common.{◌≡◌, refl, sym, ◌∙◌, ap, ℕ, zero, suc, ◌+◌, ◌-◌, ◌*◌, ◌/◌, ◌%◌, ◌<◌, ◌≤◌, List, [], ◌∷◌, ◌++◌, map, take, drop, set, length, replicate, get_or, All, subst, arith, append_assoc, length-drop, length-take-le, drop_of_length-le}
use Rattle.std.proofs.lemmas.List.{append-nil, drop_more, ext_get_or, get_or-take, get_or-drop, get_or-replicate, length-append, length-replicate, map-append, take_all, take_more, take_more_set}
use Rattle.std.proofs.lemmas.List.Elements.{All-append}
use Rattle.std.proofs.lemmas.List.FromFn.{length-map-range_with_len, get_or-map-range_with_len}
use Rattle.std.proofs.Math.Seq.{take-add}
use Rattle.ww_rule.specs.declared.pattern.State.{State}
use Rattle.ww_rule.specs.declared.pattern.State.TheVariants.{Empty}
use Rattle.tiling.specs.Tiling.{Slot}
use Rattle.tile_library.specs.RowRuns.{IsRowRun}
use Rattle.lane_core.specs.declared.plan.Plan.{Plan}
use Rattle.lane_core.specs.Plans.{size_of}
use Rattle.plan_layout.specs.Tape.{drawn_tiling}
use Rattle.grid_assembly.specs.PlanDrawing.{AreCellsOfRow, start_row}
use Rattle.pattern_writing.specs.Writer.{tag_of}
use Rattle.rle_write.specs.declared.rows.Run.{Run}
use Rattle.rle_write.specs.Dark.{IsDark, bare_slot, bare_row}
use Rattle.rle_write.specs.Runs.{IsCellRun, spelled}
use Rattle.rle_write.proofs.PlanLefts.{piece_next}
use Rattle.rle_write.proofs.Tags.{run_tags}

-- Runs.

spelled_joined : (runs others : List Run) → spelled (runs ++ others) ≡ spelled runs ++ spelled others
spelled_joined [] others = refl
spelled_joined (run ∷ runs) others =
    ap (λ l. replicate run.count run.tag ++ l) (spelled_joined runs others)
    ∙ sym (append_assoc (replicate run.count run.tag) (spelled runs) (spelled others))

-- the first of the runs, and the others
spelled_cut : (n : ℕ) (runs : List Run) → spelled runs ≡ spelled (take n runs) ++ spelled (drop n runs)
spelled_cut zero runs = refl
spelled_cut (suc n) [] = refl
spelled_cut (suc n) (run ∷ runs) =
    ap (λ l. replicate run.count run.tag ++ l) (spelled_cut n runs)
    ∙ sym (append_assoc (replicate run.count run.tag) (spelled (take n runs)) (spelled (drop n runs)))

pub spelled_split : (n : ℕ) (runs : List Run) → spelled runs ≡ spelled (take n runs) ++ spelled (take (length runs - n) (drop n runs))
spelled_split n runs =
    spelled_cut n runs
    ∙ ap (λ l. spelled (take n runs) ++ spelled l) (sym (take_all (length runs - n) (drop n runs) (omega (arith, length-drop n runs))))

pub spelled_parts : (n : ℕ) (runs : List Run)
    → length (spelled runs) ≡ length (spelled (take n runs)) + length (spelled (take (length runs - n) (drop n runs)))
spelled_parts n runs =
    ap length (spelled_split n runs) ∙ length-append (spelled (take n runs)) (spelled (take (length runs - n) (drop n runs)))

-- one more run in a list that is filled
pub spelled_more : (runs : List Run) (i : ℕ) (run : Run) → i < length runs
    → spelled (take (i + 1) (set runs i run)) ≡ spelled (take i runs) ++ replicate run.count run.tag
spelled_more runs i run lt =
    ap spelled (take_more_set runs i run lt) ∙ spelled_joined (take i runs) (run ∷ [])
    ∙ ap (λ l. spelled (take i runs) ++ l) (append-nil (replicate run.count run.tag))

-- one more run of a list
pub spelled_taken : (runs : List Run) (i : ℕ) (d : Run) → i < length runs
    → spelled (take (i + 1) runs) ≡ spelled (take i runs) ++ replicate (get_or runs i d).count (get_or runs i d).tag
spelled_taken runs i d lt =
    let run : Run = get_or runs i d in
    ap spelled (take_more runs i d lt) ∙ spelled_joined (take i runs) (run ∷ [])
    ∙ ap (λ l. spelled (take i runs) ++ l) (append-nil (replicate run.count run.tag))

pub cells_more : (runs : List Run) (i : ℕ) (run : Run) → i < length runs → All IsCellRun (take i runs) → IsCellRun run
    → All IsCellRun (take (i + 1) (set runs i run))
cells_more runs i run lt all more =
    subst (All IsCellRun) (sym (take_more_set runs i run lt)) (All-append IsCellRun (take i runs) (run ∷ []) all
    (λ k d lt. (let first : k ≡ 0 = omega (arith, lt) in subst (λ k. IsCellRun (get_or (run ∷ []) k d)) (sym first) more)))

-- more runs after the first n of a list
pub spelled_put : (old new more : List Run) (n : ℕ) → take (n + length more) new ≡ take n old ++ more
    → spelled (take (n + length more) new) ≡ spelled (take n old) ++ spelled more
spelled_put old new more n put = ap spelled put ∙ spelled_joined (take n old) more

pub cells_put : (old new more : List Run) (n : ℕ) → take (n + length more) new ≡ take n old ++ more
    → All IsCellRun (take n old) → All IsCellRun more → All IsCellRun (take (n + length more) new)
cells_put old new more n put before cells =
    subst (All IsCellRun) (sym put) (All-append IsCellRun (take n old) more before cells)

-- A block's row.

row_long : (slot : Slot) (y : ℕ) → length (bare_row slot y) ≡ 32
row_long slot y = length-map-range_with_len (λ x. bare_slot slot x y) 0 32

row_cell : (slot : Slot) (y x : ℕ) → x < 32 → get_or (bare_row slot y) x Empty ≡ bare_slot slot x y
row_cell slot y x lt = get_or-map-range_with_len (λ x. bare_slot slot x y) 0 32 x x Empty lt (omega arith)

-- the row up to the end of a run
pub row_more : (slot : Slot) (y x : ℕ) (state : State) (count : ℕ) → IsRowRun (λ x. bare_slot slot x y) x (32 - x) (state, count)
    → map tag_of (take (x + count) (bare_row slot y)) ≡ map tag_of (take x (bare_row slot y)) ++ replicate count (tag_of state)
row_more slot y x state count is =
    let row : List State = bare_row slot y in
    let room : count ≤ length (drop x row) = omega (arith, length-drop x row, row_long slot y, is.some, is.within) in
    let here : take count (drop x row) ≡ replicate count state =
    ext_get_or Empty (take count (drop x row)) (replicate count state) (length-take-le count (drop x row) room ∙ sym (length-replicate count state))
    (λ i lt. (
    let lt' : i < count = omega (arith, lt, length-take-le count (drop x row) room) in
    get_or-take count (drop x row) i Empty lt' ∙ get_or-drop x row i Empty ∙ row_cell slot y (x + i) (omega (arith, lt', is.within))
    ∙ is.alike i lt' ∙ sym (get_or-replicate count i state Empty lt'))) in
    ap (map tag_of) (take-add x count row ∙ ap (λ l. take x row ++ l) here)
    ∙ map-append tag_of (take x row) (replicate count state)
    ∙ ap (λ l. map tag_of (take x row) ++ l) (run_tags count state)

-- the rest of a row begins with the cells of a block
pub block_next : (plan : Plan) (y k : ℕ) (slot : Slot) → IsDark plan y → slot ≡ drawn_tiling plan k (y / 16) → 32 * k + 32 ≤ (size_of plan).0
    → map tag_of (drop (32 * k) (start_row plan y)) ≡ map tag_of (bare_row slot (y % 16)) ++ map tag_of (drop (32 * (k + 1)) (start_row plan y))
block_next plan y k slot dark stands inside =
    let row : List State = start_row plan y in
    let cells : List State = bare_row slot (y % 16) in
    let long : length cells ≡ 32 = row_long slot (y % 16) in
    let are : AreCellsOfRow plan y (32 * k) cells = λ i lt. (
    let lt' : i < 32 = omega (arith, lt, long) in
    row_cell slot (y % 16) i lt' ∙ ap (λ s. bare_slot s i (y % 16)) stands ∙ sym (dark k i lt')) in
    let next : 32 * k + length cells ≡ 32 * (k + 1) = omega (arith, long) in
    ap (map tag_of) (piece_next plan y (32 * k) cells are (omega (arith, long, inside)) ∙ ap (λ x. cells ++ drop x row) next)
    ∙ map-append tag_of cells (drop (32 * (k + 1)) row)

-- Runs one by one.

pub spelled_next : (runs : List Run) (i : ℕ) (d : Run) → i < length runs
    → spelled (drop i runs) ≡ replicate (get_or runs i d).count (get_or runs i d).tag ++ spelled (drop (i + 1) runs)
spelled_next runs i d lt = ap spelled (drop_more runs i d lt)

pub spelled_long : (runs : List Run) (i : ℕ) (d : Run) → i < length runs
    → length (spelled (drop i runs)) ≡ (get_or runs i d).count + length (spelled (drop (i + 1) runs))
spelled_long runs i d lt =
    let run : Run = get_or runs i d in
    ap length (spelled_next runs i d lt) ∙ length-append (replicate run.count run.tag) (spelled (drop (i + 1) runs))
    ∙ ap (λ n. n + length (spelled (drop (i + 1) runs))) (length-replicate run.count run.tag)

pub spelled_none : (runs : List Run) (i : ℕ) → length runs ≤ i → spelled (drop i runs) ≡ []
spelled_none runs i past = ap spelled (drop_of_length-le runs past)

-- Injections inside a box.
use Rattle.std.proofs.Common.{ℕ, ◌<◌, ◌+◌, ◌*◌, Bool, true, false, List, [], ◌∷◌}
use Rattle.std.proofs.lemmas.List.Elements.{All-nil, All-cons, All-head, All-tail, All-append}
use Rattle.std.specs.Prelude.{flat_map}
use Rattle.std.specs.List.{range_with_len}
use Rattle.ww_rule.specs.declared.pattern.Injection.{Injection}
use Rattle.ww_rule.specs.Grid.{AreInBox}
use Rattle.ww_rule.specs.Injections.{injections_of_row, injections_from, AreInside}
use Rattle.pattern_reading.specs.declared.ports.Ports.{Ports}
use Rattle.pattern_reading.specs.Ports.{cells_of}
use Rattle.streams.specs.declared.streams.Streams.{Streams}
use Rattle.drive.specs.Driving.{cycle_rows, injections_of}
use Rattle.drive.proofs.Streamed.{at_cycle}

row_inside : (width height g : ℕ) (cells : List (ℕ × ℕ)) (bits : List Bool) → AreInBox width height cells → AreInside width height (injections_of_row g cells bits)
row_inside width height g [] bits inside = All-nil (λ (i : Injection). (i.x < width) × (i.y < height))
row_inside width height g (cell ∷ cells) [] inside = All-nil (λ (i : Injection). (i.x < width) × (i.y < height))
row_inside width height g (cell ∷ cells) (false ∷ bits) inside =
    row_inside width height g cells bits (All-tail (λ (cell : ℕ × ℕ). (cell.0 < width) × (cell.1 < height)) cell cells inside)
row_inside width height g (cell ∷ cells) (true ∷ bits) inside =
    let Fits : ℕ × ℕ → Type 0 = λ cell. (cell.0 < width) × (cell.1 < height) in
    All-cons (λ (i : Injection). (i.x < width) × (i.y < height)) (record { generation = g; x = cell.0; y = cell.1 }) (injections_of_row g cells bits)
    (All-head Fits cell cells inside)
    (row_inside width height g cells bits (All-tail Fits cell cells inside))

-- so are those of rows
rows_inside : (width height g p : ℕ) (cells : List (ℕ × ℕ)) (rows : List (List Bool)) → AreInBox width height cells → AreInside width height (injections_from g p cells rows)
rows_inside width height g p cells [] inside = All-nil (λ (i : Injection). (i.x < width) × (i.y < height))
rows_inside width height g p cells (row ∷ rows) inside =
    All-append (λ (i : Injection). (i.x < width) × (i.y < height)) (injections_of_row g cells row) (injections_from (g + p) p cells rows)
    (row_inside width height g cells row inside)
    (rows_inside width height (g + p) p cells rows inside)

-- those of all contexts and cycles too
pub injections_inside : (width height : ℕ) (ports : Ports) (streams : Streams) → AreInBox width height (cells_of ports.ins) → AreInside width height (injections_of ports streams)
injections_inside width height ports streams inside = go (range_with_len 0 streams.cycles)
  where
    go : (cycles : List ℕ) → AreInside width height (flat_map (at_cycle ports streams) cycles)
    go [] = All-nil (λ (i : Injection). (i.x < width) × (i.y < height))
    go (cycle ∷ cycles) =
        All-append (λ (i : Injection). (i.x < width) × (i.y < height)) (at_cycle ports streams cycle) (flat_map (at_cycle ports streams) cycles)
        (rows_inside width height (cycle * ports.p) 32 (cells_of ports.ins) (cycle_rows streams cycle) inside)
        (go cycles)

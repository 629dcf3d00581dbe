-- Injections, row after row and input after input.
use Rattle.std.proofs.Common.{ℕ, ◌≡◌, ◌<◌, ◌+◌, ◌*◌, sym, ap, ◌∙◌, Bool, cond, List, [], ◌∷◌, ◌++◌, length, take, get_or, arith}
use Rattle.std.proofs.lemmas.List.{append_assoc, append-nil, length-map, get_or-map, take_more, length-take-le}
use Rattle.pattern_reading.specs.declared.ports.PortLine.{PortLine}
use Rattle.pattern_reading.specs.Ports.{cells_of}
use Rattle.ww_rule.specs.Injections.{injections_of_row, injections_from}

-- one more input, with its bit
pub row_more : (g : ℕ) (cells : List (ℕ × ℕ)) (bits : List Bool) (cell : ℕ × ℕ) (bit : Bool) → length cells ≡ length bits
    → injections_of_row g (cells ++ cell ∷ []) (bits ++ bit ∷ []) ≡ injections_of_row g cells bits ++ cond bit (record { generation = g; x = cell.0; y = cell.1 } ∷ []) []
row_more g [] [] cell bit e = append-nil (cond bit (record { generation = g; x = cell.0; y = cell.1 } ∷ []) [])
row_more g [] (b ∷ bits) cell bit e = cc
row_more g (c ∷ cells) [] cell bit e = cc
row_more g (c ∷ cells) (b ∷ bits) cell bit e =
    ap (λ later. cond b (record { generation = g; x = c.0; y = c.1 } ∷ []) [] ++ later) (row_more g cells bits cell bit (omega arith))
    ∙ sym (append_assoc (cond b (record { generation = g; x = c.0; y = c.1 } ∷ []) []) (injections_of_row g cells bits) (cond bit (record { generation = g; x = cell.0; y = cell.1 } ∷ []) []))

-- one more row
pub rows_more : (g p : ℕ) (cells : List (ℕ × ℕ)) (rows : List (List Bool)) (row : List Bool) (n : ℕ) → n ≡ g + length rows * p
    → injections_from g p cells (rows ++ row ∷ []) ≡ injections_from g p cells rows ++ injections_of_row n cells row
rows_more g p cells [] row n e =
    append-nil (injections_of_row g cells row) ∙ ap (λ g. injections_of_row g cells row) (omega arith)
rows_more g p cells (r ∷ rows) row n e =
    ap (λ later. injections_of_row g cells r ++ later) (rows_more (g + p) p cells rows row n (omega arith))
    ∙ sym (append_assoc (injections_of_row g cells r) (injections_from (g + p) p cells rows) (injections_of_row n cells row))

-- the inputs so far, and the next one, with its bit
pub row_turn : (g : ℕ) (inputs : List PortLine) (row : List Bool) (n : ℕ) (input : PortLine) (bit d : Bool) → n < length inputs → n < length row → input ≡ get_or inputs n input → bit ≡ get_or row n d
    → injections_of_row g (take (n + 1) (cells_of inputs)) (take (n + 1) row) ≡ injections_of_row g (take n (cells_of inputs)) (take n row) ++ cond bit (record { generation = g; x = input.x; y = input.y } ∷ []) []
row_turn g inputs row n input bit d in_inputs in_row input_is bit_is =
    let cells = cells_of inputs in
    let cell : ℕ × ℕ = (input.x, input.y) in
    let long : length cells ≡ length inputs = length-map inputs (λ line. (line.x, line.y)) in
    let in_cells : n < length cells = omega arith in
    let at : get_or cells n cell ≡ cell = get_or-map (λ (line : PortLine). (line.x, line.y)) inputs n input cell in_inputs ∙ ap (λ (line : PortLine). (line.x, line.y)) (sym input_is) in
    let more_cells : take (n + 1) cells ≡ take n cells ++ cell ∷ [] = take_more cells n cell in_cells ∙ ap (λ (c : ℕ × ℕ). take n cells ++ c ∷ []) at in
    let more_row : take (n + 1) row ≡ take n row ++ bit ∷ [] = take_more row n d in_row ∙ ap (λ (b : Bool). take n row ++ b ∷ []) (sym bit_is) in
    let same : length (take n cells) ≡ length (take n row) = length-take-le n cells (omega arith) ∙ sym (length-take-le n row (omega arith)) in
    ap (λ (cells : List (ℕ × ℕ)). injections_of_row g cells (take (n + 1) row)) more_cells
    ∙ ap (λ (row : List Bool). injections_of_row g (take n cells ++ cell ∷ []) row) more_row
    ∙ row_more g (take n cells) (take n row) cell bit same

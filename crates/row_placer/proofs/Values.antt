-- Values by their numbers.
use Rattle.std.proofs.Common.{◌≡◌, refl, sym, ◌∙◌, ap, ap₂, ℕ, zero, suc, ◌+◌, ◌<◌, Bool, true, false, cond, List, [], ◌∷◌, ◌++◌, length, get_or, map, arith}
use Rattle.std.specs.Prelude.{◌&&◌, ◌||◌, not, fold}
use Rattle.std.proofs.lemmas.List.{length_push, length-map, get_or-map, get_or_append_left, get_or-append-add, get_or_push}
use Rattle.cell_core.specs.declared.cells.Src.{Src}
use Rattle.cell_core.specs.declared.cells.Src.TheVariants.{Input, Latch, One, Zero, Cell as Made}
use Rattle.cell_core.specs.declared.cells.Cell.{Cell}
use Rattle.cell_core.specs.declared.cells.Cell.TheVariants.{Or, Xor, AndNot}
use Rattle.cell_core.specs.declared.list.CellList.{CellList}
use Rattle.row_placer.specs.declared.job.Job.{Job}
use Rattle.row_placer.specs.declared.job.NumberedCell.{NumberedCell}
use Rattle.row_placer.specs.Told.{Agrees, gate_bit}
use Rattle.cell_core.specs.Loops.{loop_count, names_one}
use Rattle.cell_core.specs.Meaning.{source_bit, cell_bit, cell_bits, bit_of}
use Rattle.row_placer.specs.Numbers.{number, gate_of, IsThere, ReadsThere, ReadsWhatIsThere}
use Rattle.cell_core.specs.Meaning.{Fits}

-- the bits of all values, by number
abbrev pub value_bits : CellList → List Bool → List Bool → List Bool
value_bits list inputs state = inputs ++ (state ++ (cond (names_one list) (true ∷ []) [] ++ (false ∷ cell_bits inputs state list.cells)))

abbrev pub value_bit : CellList → List Bool → List Bool → ℕ → Bool
value_bit list inputs state v = get_or (value_bits list inputs state) v false

past : (xs ys : List Bool) (n k m : ℕ) → length xs ≡ n → m ≡ n + k → get_or (xs ++ ys) m false ≡ get_or ys k false
past xs ys n k m long e = (let at : m ≡ length xs + k = omega (arith, long, e) in ap (λ i. get_or (xs ++ ys) i false) at) ∙ get_or-append-add xs ys k false

-- a source that is there has its value's bit
pub numbered : (list : CellList) (inputs state : List Bool) (n : ℕ) (src : Src) → Fits list inputs state → IsThere list n src → value_bit list inputs state (number list src) ≡ bit_of list inputs state src
numbered list inputs state n (Input i) f there = get_or_append_left inputs _ false i (omega (arith, there, f.row))
numbered list inputs state n (Latch i) f there = past inputs _ list.inputs i (list.inputs + i) f.row refl ∙ get_or_append_left state _ false i (omega (arith, there, f.latches))
numbered list inputs state n One f there =
    past inputs _ list.inputs (length list.starts) (list.inputs + length list.starts) f.row refl
    ∙ past state _ (length list.starts) 0 (length list.starts) f.latches (omega arith)
    ∙ ap (λ b. get_or (cond b (true ∷ []) [] ++ (false ∷ cell_bits inputs state list.cells)) 0 false) there
numbered list inputs state n Zero f there =
    past inputs _ list.inputs (loop_count list) (list.inputs + loop_count list) f.row refl
    ∙ past state _ (length list.starts) (cond (names_one list) 1 0) (loop_count list) f.latches refl
    ∙ by (names_one list)
  where
    by : (b : Bool) → get_or (cond b (true ∷ []) [] ++ (false ∷ cell_bits inputs state list.cells)) (cond b 1 0) false ≡ false
    by true = refl
    by false = refl
numbered list inputs state n (Made i) f there =
    past inputs _ list.inputs (loop_count list + 1 + i) (list.inputs + loop_count list + 1 + i) f.row (omega arith)
    ∙ past state _ (length list.starts) (cond (names_one list) 1 0 + 1 + i) (loop_count list + 1 + i) f.latches (omega arith)
    ∙ by (names_one list)
  where
    by : (b : Bool) → get_or (cond b (true ∷ []) [] ++ (false ∷ cell_bits inputs state list.cells)) (cond b 1 0 + 1 + i) false ≡ get_or (cell_bits inputs state list.cells) i false
    by true = past (true ∷ false ∷ []) (cell_bits inputs state list.cells) 2 i (1 + 1 + i) refl (omega arith)
    by false = past (false ∷ []) (cell_bits inputs state list.cells) 1 i (0 + 1 + i) refl (omega arith)

-- cells read the bits of cells before them
abbrev step_of : List Bool → List Bool → List Bool → Cell → List Bool
step_of inputs state made cell = made ++ cell_bit inputs state made cell ∷ []

front_bits : (inputs state : List Bool) (cells : List Cell) (acc : List Bool) (i : ℕ) → i < length acc → get_or (fold (step_of inputs state) acc cells) i false ≡ get_or acc i false
front_bits inputs state [] acc i below = refl
front_bits inputs state (c ∷ cs) acc i below =
    front_bits inputs state cs (step_of inputs state acc c) i (omega (arith, below, length_push acc (cell_bit inputs state acc c)))
    ∙ get_or_append_left acc (cell_bit inputs state acc c ∷ []) false i below

same_source : (list : CellList) (inputs state made made' : List Bool) (n : ℕ) → ((i : ℕ) → i < n → get_or made i false ≡ get_or made' i false) → (src : Src) → IsThere list n src
    → source_bit inputs state made src ≡ source_bit inputs state made' src
same_source list inputs state made made' n same (Input i) there = refl
same_source list inputs state made made' n same (Latch i) there = refl
same_source list inputs state made made' n same One there = refl
same_source list inputs state made made' n same Zero there = refl
same_source list inputs state made made' n same (Made i) there = same i there

same_cell : (list : CellList) (inputs state made made' : List Bool) (n : ℕ) → ((i : ℕ) → i < n → get_or made i false ≡ get_or made' i false) → (cell : Cell) → ReadsThere list n cell
    → cell_bit inputs state made cell ≡ cell_bit inputs state made' cell
same_cell list inputs state made made' n same (Or a b) there = ap₂ (λ x y. x || y) (same_source list inputs state made made' n same a there.0) (same_source list inputs state made made' n same b there.1)
same_cell list inputs state made made' n same (Xor a b) there = ap₂ (λ x y. (x || y) && not (x && y)) (same_source list inputs state made made' n same a there.0) (same_source list inputs state made made' n same b there.1)
same_cell list inputs state made made' n same (AndNot a b) there = ap₂ (λ x y. x && not y) (same_source list inputs state made made' n same a there.0) (same_source list inputs state made made' n same b there.1)

cell_is : (list : CellList) (inputs state : List Bool) (cells : List Cell) (acc : List Bool) (g n : ℕ) (d : Cell) → g < length cells → n ≡ length acc + g → ReadsThere list n (get_or cells g d)
    → get_or (fold (step_of inputs state) acc cells) n false ≡ cell_bit inputs state (fold (step_of inputs state) acc cells) (get_or cells g d)
cell_is list inputs state [] acc g n d within is there = absurd (omega (arith, within))
cell_is list inputs state (c ∷ cs) acc zero n d within is there =
    let b = cell_bit inputs state acc c in
    let at : n ≡ length acc = omega (arith, is) in
    let long : n < length (acc ++ b ∷ []) = omega (arith, at, length_push acc b) in
    front_bits inputs state cs (acc ++ b ∷ []) n long
    ∙ get_or_push acc b false n (sym at)
    ∙ same_cell list inputs state acc (fold (step_of inputs state) (acc ++ b ∷ []) cs) n
    (λ i below. sym (front_bits inputs state (c ∷ cs) acc i (omega (arith, below, at)))) c there
cell_is list inputs state (c ∷ cs) acc (suc g) n d within is there =
    cell_is list inputs state cs (step_of inputs state acc c) g n d (omega (arith, within)) (omega (arith, is, length_push acc (cell_bit inputs state acc c))) there

-- so the values' bits are those that the gates make
gate_value : (list : CellList) (inputs state : List Bool) (n : ℕ) (cell : Cell) → Fits list inputs state → ReadsThere list n cell
    → cell_bit inputs state (cell_bits inputs state list.cells) cell ≡ gate_bit (gate_of list cell).kind (value_bit list inputs state (gate_of list cell).first) (value_bit list inputs state (gate_of list cell).second)
gate_value list inputs state n (Or a b) f there = sym (ap₂ (λ x y. x || y) (numbered list inputs state n a f there.0) (numbered list inputs state n b f there.1))
gate_value list inputs state n (Xor a b) f there = sym (ap₂ (λ x y. (x || y) && not (x && y)) (numbered list inputs state n a f there.0) (numbered list inputs state n b f there.1))
gate_value list inputs state n (AndNot a b) f there = sym (ap₂ (λ x y. x && not y) (numbered list inputs state n a f there.0) (numbered list inputs state n b f there.1))

pub agrees : (list : CellList) (job : Job) (inputs state : List Bool) → ReadsWhatIsThere list → job.base ≡ list.inputs + loop_count list + 1 → job.gates ≡ map (gate_of list) list.cells → Fits list inputs state
    → Agrees job (value_bit list inputs state)
agrees list job inputs state sound base gates f g d within =
    let long : length job.gates ≡ length list.cells = ap length gates ∙ length-map list.cells (gate_of list) in
    let low : g < length list.cells = omega (arith, within, long) in
    let c = get_or list.cells g (Or Zero Zero) in
    let there = sound.cells g (Or Zero Zero) low in
    let gate : get_or job.gates g d ≡ gate_of list c = ap (λ gs. get_or gs g d) gates ∙ get_or-map (gate_of list) list.cells g (Or Zero Zero) d low in
    ap (λ b. value_bit list inputs state (b + g)) base
    ∙ numbered list inputs state (g + 1) (Made g) f (omega arith)
    ∙ cell_is list inputs state list.cells [] g g (Or Zero Zero) low (omega arith) there
    ∙ gate_value list inputs state g c f there
    ∙ ap (λ (q : NumberedCell). gate_bit q.kind (value_bit list inputs state q.first) (value_bit list inputs state q.second)) (sym gate)

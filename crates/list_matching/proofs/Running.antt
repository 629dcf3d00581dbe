-- Lists that are matched run alike.
use Rattle.std.proofs.Common.{◌≡◌, refl, sym, ◌∙◌, ap, ap₂, subst₂, ℕ, zero, suc, ◌+◌, ◌<◌, ◌≤◌, ⊎_elim, Bool, true, false, ◌&&◌, ◌||◌, not, List, length, map, get_or, slice_get, Some, arith}
use Rattle.std.proofs.lemmas.Bool.{and_parts, cases_lt, ltb-true}
use Rattle.std.proofs.lemmas.List.{get_or_default, get_or_past, length-map}
use Rattle.std.proofs.Math.ListN.{get_or-map}
use Rattle.std.proofs.Math.Bool.{or_comm, and_comm}
use Rattle.std.proofs.lemmas.Option.{get_or_from_slice_get, slice_get_within}
use Rattle.lists.specs.Items.{list_at}
use Rattle.cell_core.specs.declared.cells.Src.{Src}
use Rattle.cell_core.specs.declared.cells.Src.TheVariants.{Input, Latch, One, Zero, Cell as Made}
use Rattle.cell_core.specs.declared.cells.Cell.{Cell}
use Rattle.cell_core.specs.declared.cells.Cell.TheVariants.{Or, Xor, AndNot}
use Rattle.cell_core.specs.declared.list.CellList.{CellList}
use Rattle.cell_core.specs.Sources.{is_there, reads_there}
use Rattle.cell_core.specs.Meaning.{source_bit, cell_bit, cell_bits, bit_of}
use Rattle.cell_core.proofs.Bits.{length-cell_bits}
use Rattle.cell_core.proofs.OwnBits.{cell_in_order, bit_of_cell}
use Rattle.cell_meaning.specs.Same.{cell_over}
use Rattle.routed_circuits.specs.Runs.{src_at, list_state, list_bit}
use Rattle.list_matching.specs.Alike.{RunAlike}
use Rattle.list_matching.specs.Matched.{AreStandIns, StandsForCell, StandsForLatch, made_at, stand_in, turned_cell}

-- a turned cell makes the same bit
turned_alike : (inputs state made : List Bool) (cell : Cell) → cell_bit inputs state made (turned_cell cell) ≡ cell_bit inputs state made cell
turned_alike inputs state made (Or a b) = or_comm (source_bit inputs state made b) (source_bit inputs state made a)
turned_alike inputs state made (Xor a b) = ap₂ (λ x y. x && not y) (or_comm (source_bit inputs state made b) (source_bit inputs state made a)) (and_comm (source_bit inputs state made b) (source_bit inputs state made a))
turned_alike inputs state made (AndNot a b) = refl

-- ---- one cycle
-- the states agree: each latch has the bit of what stands for it
record Agree (wanted : CellList) (latches : List Src) (inputs state other : List Bool) : Type 0 where
  bits : (l : ℕ) → get_or state l false ≡ bit_of wanted inputs other (src_at latches l)

-- the first n cells have the bits of what stands for them
abbrev CellsAgree : (found wanted : CellList) → (cells : List Src) → (inputs state other : List Bool) → (n : ℕ) → Type 0
CellsAgree found wanted cells inputs state other n = (i : ℕ) → i < n → bit_of found inputs state (Made i) ≡ bit_of wanted inputs other (src_at cells i)

source_agrees : (found wanted : CellList) (cells latches : List Src) (inputs state other : List Bool) → Agree wanted latches inputs state other
    → (n count few : ℕ) → CellsAgree found wanted cells inputs state other n → (src : Src) → is_there count few n src ≡ true
    → bit_of found inputs state src ≡ bit_of wanted inputs other (stand_in cells latches src)
source_agrees found wanted cells latches inputs state other agree n count few below (Input i) there = refl
source_agrees found wanted cells latches inputs state other agree n count few below (Latch l) there = agree.bits l
source_agrees found wanted cells latches inputs state other agree n count few below One there = refl
source_agrees found wanted cells latches inputs state other agree n count few below Zero there = refl
source_agrees found wanted cells latches inputs state other agree n count few below (Made i) there = below i (ltb-true i n there)

cell_agrees : (found wanted : CellList) (cells latches : List Src) (inputs state other : List Bool) → Agree wanted latches inputs state other
    → (n count few : ℕ) → CellsAgree found wanted cells inputs state other n → (cell : Cell) → reads_there count few n cell ≡ true
    → cell_bit inputs state (cell_bits inputs state found.cells) cell ≡ cell_bit inputs other (cell_bits inputs other wanted.cells) (cell_over (stand_in cells latches) cell)
cell_agrees found wanted cells latches inputs state other agree n count few below (Or a b) there =
    ap₂ (λ x y. x || y) (source_agrees found wanted cells latches inputs state other agree n count few below a (and_parts _ _ there).0)
    (source_agrees found wanted cells latches inputs state other agree n count few below b (and_parts _ _ there).1)
cell_agrees found wanted cells latches inputs state other agree n count few below (Xor a b) there =
    ap₂ (λ x y. (x || y) && not (x && y)) (source_agrees found wanted cells latches inputs state other agree n count few below a (and_parts _ _ there).0)
    (source_agrees found wanted cells latches inputs state other agree n count few below b (and_parts _ _ there).1)
cell_agrees found wanted cells latches inputs state other agree n count few below (AndNot a b) there =
    ap₂ (λ x y. x && not y) (source_agrees found wanted cells latches inputs state other agree n count few below a (and_parts _ _ there).0)
    (source_agrees found wanted cells latches inputs state other agree n count few below b (and_parts _ _ there).1)

-- what stands for a cell has the cell's bit over what stands for its operands
stand_in_bit : (wanted : CellList) (inputs other : List Bool) (src : Src) (cell : Cell) → StandsForCell wanted.cells src cell
    → bit_of wanted inputs other src ≡ cell_bit inputs other (cell_bits inputs other wanted.cells) cell
stand_in_bit wanted inputs other src cell (m, is, at) =
    let made = cell_bits inputs other wanted.cells in
    let here : (c : Cell) → slice_get wanted.cells m ≡ Some c → bit_of wanted inputs other src ≡ cell_bit inputs other made c =
    λ c there. ap (bit_of wanted inputs other) is ∙ bit_of_cell wanted m c inputs other (within m c there) ∙ ap (cell_bit inputs other made) (get_or_from_slice_get wanted.cells m c c there) in
    ⊎_elim (λ e. here cell e) (λ e. here (turned_cell cell) e ∙ turned_alike inputs other made cell) at
  where
    within : (m : ℕ) (c : Cell) → slice_get wanted.cells m ≡ Some c → m < length wanted.cells
    within m c there = slice_get_within wanted.cells m c there

-- past the last cell both bits are 0
past_agrees : (found wanted : CellList) (cells : List Src) (inputs state other : List Bool) → length cells ≡ length found.cells → (n : ℕ) → length found.cells ≤ n
    → bit_of found inputs state (Made n) ≡ bit_of wanted inputs other (src_at cells n)
past_agrees found wanted cells inputs state other all n past =
    get_or_past (cell_bits inputs state found.cells) n false (omega (arith, length-cell_bits inputs state found.cells))
    ∙ sym (ap (bit_of wanted inputs other) (get_or_past cells n Zero (omega arith)))

cells_agree : (found wanted : CellList) (cells latches : List Src) → AreStandIns found wanted cells latches → (inputs state other : List Bool)
    → Agree wanted latches inputs state other → (n : ℕ) → CellsAgree found wanted cells inputs state other n
cells_agree found wanted cells latches matched inputs state other agree zero i below = absurd (omega arith)
cells_agree found wanted cells latches matched inputs state other agree (suc n) i below =
    let before : CellsAgree found wanted cells inputs state other n = cells_agree found wanted cells latches matched inputs state other agree n in
    ⊎_elim (λ (lt : i < n). before i lt) (λ (ge : n ≤ i). here i (omega arith) before) (cases_lt i n)
  where
    inside : (i : ℕ) → i ≡ n → i < length found.cells → CellsAgree found wanted cells inputs state other n → bit_of found inputs state (Made i) ≡ bit_of wanted inputs other (src_at cells i)
    inside i is lt before =
        let cell = made_at found.cells i in
        let e : 0 + i ≡ n = omega (arith, is) in
        let reads : reads_there found.inputs (length found.starts) n cell ≡ true =
        ap (λ k. reads_there found.inputs (length found.starts) k cell) (sym e) ∙ cell_in_order found.inputs (length found.starts) 0 found.cells i (Or Zero Zero) lt found.in_order in
        bit_of_cell found i (Or Zero Zero) inputs state lt
        ∙ cell_agrees found wanted cells latches inputs state other agree n found.inputs (length found.starts) before cell reads
        ∙ sym (stand_in_bit wanted inputs other (src_at cells i) (cell_over (stand_in cells latches) cell) (matched.cells_stand i lt))

    here : (i : ℕ) → i ≡ n → CellsAgree found wanted cells inputs state other n → bit_of found inputs state (Made i) ≡ bit_of wanted inputs other (src_at cells i)
    here i is before =
        ⊎_elim (λ (lt : i < length found.cells). inside i is lt before) (λ (ge : length found.cells ≤ i). past_agrees found wanted cells inputs state other matched.all_cells i ge) (cases_lt i (length found.cells))

-- each source has the bit of what stands for it
all_agree : (found wanted : CellList) (cells latches : List Src) → AreStandIns found wanted cells latches → (inputs state other : List Bool)
    → Agree wanted latches inputs state other → (src : Src) → bit_of found inputs state src ≡ bit_of wanted inputs other (stand_in cells latches src)
all_agree found wanted cells latches matched inputs state other agree (Input i) = refl
all_agree found wanted cells latches matched inputs state other agree (Latch l) = agree.bits l
all_agree found wanted cells latches matched inputs state other agree One = refl
all_agree found wanted cells latches matched inputs state other agree Zero = refl
all_agree found wanted cells latches matched inputs state other agree (Made i) =
    cells_agree found wanted cells latches matched inputs state other agree (suc i) i (omega arith)

-- ---- all cycles
start_agrees : (found wanted : CellList) (to : Src → Src) (inputs : List Bool) (l : ℕ) (src : Src) → StandsForLatch found wanted to l src
    → get_or found.starts l false ≡ bit_of wanted inputs wanted.starts src
start_agrees found wanted to inputs l (Latch k) (inside, same, reads) = same
start_agrees found wanted to inputs l One (same, reads) = same
start_agrees found wanted to inputs l (Input i) none = absurd none
start_agrees found wanted to inputs l Zero none = absurd none
start_agrees found wanted to inputs l (Made i) none = absurd none

-- the bit that a latch's data have is that of what stands for it, a cycle later
step_agrees : (found wanted : CellList) (to : Src → Src) (inputs next other : List Bool) (l : ℕ) (src : Src) → StandsForLatch found wanted to l src
    → bit_of wanted inputs other (to (src_at found.latches l)) ≡ bit_of wanted next (map (bit_of wanted inputs other) wanted.latches) src
step_agrees found wanted to inputs next other l (Latch k) (inside, same, reads) =
    ap (bit_of wanted inputs other) reads ∙ sym (get_or-map (bit_of wanted inputs other) wanted.latches k Zero)
step_agrees found wanted to inputs next other l One (same, reads) = ap (bit_of wanted inputs other) reads
step_agrees found wanted to inputs next other l (Input i) none = absurd none
step_agrees found wanted to inputs next other l Zero none = absurd none
step_agrees found wanted to inputs next other l (Made i) none = absurd none

states_agree : (found wanted : CellList) (cells latches : List Src) → AreStandIns found wanted cells latches → (rows : List (List Bool)) (t : ℕ)
    → Agree wanted latches (list_at rows t) (list_state found rows t) (list_state wanted rows t)
states_agree found wanted cells latches matched rows zero =
    record {
      bits = λ l. ⊎_elim
          (λ (lt : l < length found.latches). start_agrees found wanted (stand_in cells latches) (list_at rows 0) l (src_at latches l) (matched.latches_stand l lt))
          (λ (ge : length found.latches ≤ l). get_or_past found.starts l false (omega (arith, found.starts_fit, ge))
          ∙ sym (ap (bit_of wanted (list_at rows 0) wanted.starts) (get_or_past latches l Zero (omega (arith, matched.all_latches, ge)))))
          (cases_lt l (length found.latches));
    }
states_agree found wanted cells latches matched rows (suc t) =
    let before : Agree wanted latches (list_at rows t) (list_state found rows t) (list_state wanted rows t) = states_agree found wanted cells latches matched rows t in
    let reads : (l : ℕ) → get_or (list_state found rows (suc t)) l false ≡ bit_of wanted (list_at rows t) (list_state wanted rows t) (stand_in cells latches (src_at found.latches l)) =
    λ l. get_or-map (bit_of found (list_at rows t) (list_state found rows t)) found.latches l Zero
    ∙ all_agree found wanted cells latches matched (list_at rows t) (list_state found rows t) (list_state wanted rows t) before (src_at found.latches l) in
    record {
      bits = λ l. reads l ∙ ⊎_elim
          (λ (lt : l < length found.latches). step_agrees found wanted (stand_in cells latches) (list_at rows t) (list_at rows (suc t)) (list_state wanted rows t) l (src_at latches l) (matched.latches_stand l lt))
          (λ (ge : length found.latches ≤ l). ap (λ s. bit_of wanted (list_at rows t) (list_state wanted rows t) (stand_in cells latches s)) (get_or_past found.latches l Zero ge)
          ∙ sym (ap (bit_of wanted (list_at rows (suc t)) (list_state wanted rows (suc t))) (get_or_past latches l Zero (omega (arith, matched.all_latches, ge)))))
          (cases_lt l (length found.latches));
    }

-- ports that stand for the wanted ones show their bits
ports_agree : (found wanted : CellList) (cells latches : List Src) → AreStandIns found wanted cells latches → (sources others : List Src)
    → map (stand_in cells latches) sources ≡ others → (rows : List (List Bool)) (t i : ℕ)
    → list_bit found rows t (src_at sources i) ≡ list_bit wanted rows t (src_at others i)
ports_agree found wanted cells latches matched sources others stand rows t i =
    all_agree found wanted cells latches matched (list_at rows t) (list_state found rows t) (list_state wanted rows t) (states_agree found wanted cells latches matched rows t) (src_at sources i)
    ∙ ap (list_bit wanted rows t) (sym (get_or-map (stand_in cells latches) sources i Zero) ∙ ap (λ l. src_at l i) stand)

pub matched_run_alike : (found wanted : CellList) (cells latches : List Src) → AreStandIns found wanted cells latches → RunAlike found wanted
matched_run_alike found wanted cells latches matched =
    record {
      inputs = matched.inputs;
      outs = sym (length-map found.outs (stand_in cells latches)) ∙ ap length matched.outs_stand;
      nets = sym (length-map found.nets (stand_in cells latches)) ∙ ap length matched.nets_stand;
      out_bits = ports_agree found wanted cells latches matched found.outs wanted.outs matched.outs_stand;
      net_bits = ports_agree found wanted cells latches matched found.nets wanted.nets matched.nets_stand;
    }

-- ---- what the tests look at
-- a cell that is there has one default or another
pub stands_at : (wanted found : List Cell) (cells latches : List Src) (n : ℕ) (d : Src) (e : Cell) → n < length found → length cells ≡ length found
    → (over : Cell) → over ≡ cell_over (stand_in cells latches) (get_or found n e) → StandsForCell wanted (get_or cells n d) over
    → StandsForCell wanted (src_at cells n) (cell_over (stand_in cells latches) (made_at found n))
stands_at wanted found cells latches n d e lt all over is stands =
    subst₂ (λ src cell. StandsForCell wanted src cell) (get_or_default cells n d Zero (omega (arith, lt, all)))
    (is ∙ ap (cell_over (stand_in cells latches)) (get_or_default found n e (Or Zero Zero) lt)) stands

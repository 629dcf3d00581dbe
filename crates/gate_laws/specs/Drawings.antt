-- Gates that are drawn in a window of cells.
use Rattle.std.specs.Prelude.{pos, ℕ, ◌+◌, ◌*◌, ◌/◌, ◌%◌, ◌<◌, ◌≤◌, ◌≡◌, ◌≢◌, ◌↔◌, ◌⊎◌, ◌==◌, ◌&&◌, nat_le, cond, Bool, true, false, List, [], ◌∷◌, map, get_or, length, All}
use Rattle.std.specs.List.{list_any}
use Rattle.lists.specs.Items.{flag_at, list_at}
use Rattle.ww_rule.specs.declared.pattern.State.{State}
use Rattle.ww_rule.specs.declared.pattern.State.TheVariants.{Empty, Head, Tail, Conductor}
use Rattle.ww_rule.specs.Wireworld.{Plane}
use Rattle.gate_laws.specs.Rows.{Port}
use Rattle.tile_timing.specs.Window.{shown}
use Rattle.gate_laws.specs.declared.window.InCell.{InCell}
use Rattle.gate_laws.specs.declared.window.OutCell.{OutCell}
use Rattle.gate_laws.specs.Gates.{Gate}

abbrev pub in_port_of : InCell → Port
in_port_of input = ((pos input.x, pos input.y), input.generation)

abbrev pub out_port_of : OutCell → Port
out_port_of out = ((pos out.x, pos out.y), out.delay)

abbrev pub out_table : OutCell → List Bool
out_table out = out.table

-- the number that bits make, the first of them lowest
abbrev pub number_of_bits : List Bool → ℕ
number_of_bits [] = 0
number_of_bits (bit ∷ bits) = cond bit 1 0 + 2 * number_of_bits bits

abbrev pub no_in : InCell
no_in = record { x = 0; y = 0; generation = 0 }

abbrev pub in_at : List InCell → ℕ → InCell
in_at ins i = get_or ins i no_in

-- the gate that is drawn in a window, with its ports in these cells, and for each output a table of
-- its bits by the number that the bits of the inputs make
abbrev pub window_gate : List State → (width : ℕ) → List InCell → List OutCell → (time : ℕ) → Gate
window_gate cells width ins outs time =
    record {
      plane = shown cells width;
      ins = map in_port_of ins;
      outs = map out_port_of outs;
      answer = λ bits o. flag_at (list_at (map out_table outs) o) (number_of_bits bits);
      time = time;
    }

-- the cell x, y is this one or beside it
abbrev pub is_beside : ℕ → ℕ → InCell → Bool
is_beside x y cell =
    nat_le x (cell.x + 1) && nat_le cell.x (x + 1) && nat_le y (cell.y + 1) && nat_le cell.y (y + 1)

-- the cell number k of the window is as in the drawing, or a tail with no input beside it
abbrev pub IsCalmAt : List State → List State → (width : ℕ) → List InCell → ℕ → Type 0
IsCalmAt base now width ins k =
    (get_or now k Empty ≡ get_or base k Empty)
    ⊎ ((get_or now k Empty ≡ Tail) × (get_or base k Empty ≡ Conductor)
    × (list_any (is_beside (k % width) (k / width)) ins ≡ false))

-- it is no head, or the input is not beside it
abbrev pub IsDarkBeside : List State → (width : ℕ) → InCell → ℕ → Type 0
IsDarkBeside now width input k =
    (get_or now k Empty ≢ Head) ⊎ (is_beside (k % width) (k / width) input ≡ false)

-- the cell of the input is a conductor
abbrev pub Conducts : List State → (width : ℕ) → InCell → Type 0
Conducts cells width input = shown cells width (pos input.x) (pos input.y) ≡ Conductor

-- the cell of the input is a conductor, and no head is beside it
pub record IsReadyInput (now : List State) (width : ℕ) (input : InCell) : Type 0 where
  pub conduct : Conducts now width input
  pub alone : (k : ℕ) → k < length now → IsDarkBeside now width input k

-- the generation after this one, which is 0 again at the gate's time
abbrev pub next_time : (time g : ℕ) → ℕ
next_time time g = cond (g + 1 == time) 0 (g + 1)

-- all inputs of a generation are ready
abbrev pub AreInputsReady : List State → (width : ℕ) → List InCell → (generation : ℕ) → Type 0
AreInputsReady now width ins generation =
    (i : ℕ) → i < length ins → (in_at ins i).generation ≡ generation
    → IsReadyInput now width (in_at ins i)

-- the ports are in time at a generation: each input is a head at its own generation alone, if its
-- bit is 1, and each output after its delay alone, if its table has a 1 at this number
abbrev pub IsInputInTime : Plane → List InCell → List Bool → (g i : ℕ) → Type 0
IsInputInTime p ins bits g i =
    (p (pos (in_at ins i).x) (pos (in_at ins i).y) ≡ Head)
    ↔ ((g == (in_at ins i).generation && flag_at bits i) ≡ true)

abbrev pub IsOutputInTime : Plane → (number g : ℕ) → OutCell → Type 0
IsOutputInTime p number g out =
    (p (pos out.x) (pos out.y) ≡ Head)
    ↔ ((g == out.delay && flag_at out.table number) ≡ true)

-- the input's cell is in a window of so many cells
pub record IsInside (length width : ℕ) (input : InCell) : Type 0 where
  pub low : input.x < width
  pub within : input.y * width + input.x < length

-- the cells of the inputs are conductors
abbrev pub HasInputs : List State → (width : ℕ) → List InCell → Type 0
HasInputs base width ins = (i : ℕ) → i < length ins → Conducts base width (in_at ins i)

-- the drawing fits a window of so many cells, and the test's limits
pub record IsSized (cells : List State) (width : ℕ) (ins : List InCell) (time : ℕ) : Type 0 where
  pub wide : 0 < width
  pub narrow : width < 65536
  pub whole : length cells % width ≡ 0
  pub small : length cells ≤ 1024
  pub few : length ins ≤ 3
  pub long : 3 ≤ time

-- all ports are in time at a generation
pub record ArePortsInTime (p : Plane) (ins : List InCell) (bits : List Bool)
    (outs : List OutCell) (g : ℕ) : Type 0 where
  pub ins_are : (i : ℕ) → i < length ins → IsInputInTime p ins bits g i
  pub outs_are : All (IsOutputInTime p (number_of_bits bits) g) outs

-- The cells are conductors or empty, and conductors at the ports; the generations of the ports are
-- below the time.
pub record HasCells (cells : List State) (width : ℕ) (ins : List InCell) (outs : List OutCell)
    (time : ℕ) : Type 0 where
  pub unlit : All (λ cell. (cell ≡ Empty) ⊎ (cell ≡ Conductor)) cells
  pub inputs : HasInputs cells width ins
  pub inside : All (IsInside (length cells) width) ins
  pub early : All (λ (input : InCell). input.generation < time) ins
  pub outputs : All (λ (out : OutCell). (shown cells width (pos out.x) (pos out.y) ≡ Conductor)
      × (out.delay < time)) outs

-- What a design means: bits for its nets that solve the equations of its lines, cycle by cycle.
use Rattle.std.specs.Prelude.{ℕ, zero, suc, ◌≡◌, ◌==◌, List, [], Bool, false, map, get_or, length, Option, Some, None, slice_get, Contains, All}
use Rattle.netlist_core.specs.declared.model.Design.{Design}
use Rattle.netlist_core.specs.declared.model.Model.{Model}
use Rattle.netlist_core.specs.declared.model.Cover.{Cover}
use Rattle.netlist_core.specs.declared.model.LatchRow.{LatchRow}
use Rattle.netlist_core.specs.Names.{Name}
use Rattle.netlist_meaning.specs.Places.{Place, model_at, latch_at, main_outputs}
use Rattle.netlist_meaning.specs.Nets.{Net, IsNet, Joined, IsClockNet, IsInNames}
use Rattle.netlist_meaning.specs.CoverValue.{cover_value}

-- a bit for each net, by its place and name. At a clock net, and where there is no net, the bit
-- means nothing
abbrev pub Valuation : Type 0
Valuation = Place → Name → Bool

-- a bit for each place and number of a latch
abbrev pub LatchState : Type 0
LatchState = Place → ℕ → Bool

-- the bits solve the equations of the design, for the bits of its IN names and the state of its
-- latches
pub record IsValuation (design : Design) (inputs : List Bool) (state : LatchState)
    (bits : Valuation) : Type 0 where
  -- the main inputs have the input bits, one for each IN name
  pub in_names : List Name
  pub are_in_names : IsInNames design in_names
  pub inputs_given : map (bits []) in_names ≡ inputs
  -- joined nets agree, except clock nets: no equation is about these in a design whose clock nets
  -- are neither read nor driven
  pub joined_agree : (a b : Net) → Joined design a b → ¬ IsClockNet design a
      → bits a.place a.name ≡ bits b.place b.name
  -- the output of each cover, in each place, is the cover's value
  pub covers_hold : (place : Place) (model : Model) (cover : Cover)
      → model_at design place ≡ Some model → Contains model.covers cover
      → bits place cover.out ≡ cover_value cover.rows cover.on (map (bits place) cover.ins)
  -- each latch output is its state bit
  pub latches_hold : (place : Place) (number : ℕ) (latch : LatchRow)
      → latch_at design place number ≡ Some latch → bits place latch.output ≡ state place number

-- two valuations count as the same if they agree on each net of the design that is no clock net
abbrev pub AgreeOnNets : Design → Valuation → Valuation → Type 0
AgreeOnNets design bits others =
    (net : Net) → IsNet design net → ¬ IsClockNet design net
    → bits net.place net.name ≡ others net.place net.name

-- a latch with init 1 starts as 1, each other as 0
abbrev pub start_bit : Option LatchRow → Bool
start_bit None = false
start_bit (Some latch) = latch.init == 1

-- the start state
abbrev pub start_state : Design → LatchState
start_state design place number = start_bit (latch_at design place number)

-- the bit of a latch's input net
abbrev pub data_bit : (Name → Bool) → Option LatchRow → Bool
data_bit bits None = false
data_bit bits (Some latch) = bits latch.input

-- the next state of a latch is its input net's bit
abbrev pub latches_after : Design → Valuation → LatchState
latches_after design bits place number = data_bit (bits place) (latch_at design place number)

-- the state of a cycle: in cycle 0 the given one, and later the next state of the cycle before
abbrev pub latches_in : Design → LatchState → (ℕ → Valuation) → ℕ → LatchState
latches_in design start run zero = start
latches_in design start run (suc cycle) = latches_after design (run cycle)

-- a valuation for each row of input bits, from a given state on
abbrev pub IsRunFrom : Design → LatchState → List (List Bool) → (ℕ → Valuation) → Type 0
IsRunFrom design start rows run =
    (cycle : ℕ) (row : List Bool) → slice_get rows cycle ≡ Some row
    → IsValuation design row (latches_in design start run cycle) (run cycle)

-- a run from the start state on. `run cycle` is the valuation of that cycle, counted from 0; from
-- the number of rows on it means nothing
abbrev pub IsRun : Design → List (List Bool) → (ℕ → Valuation) → Type 0
IsRun design rows run = IsRunFrom design (start_state design) rows run

-- rows of input bits: each has one bit for each IN name
abbrev pub AreInputRows : Design → List (List Bool) → Type 0
AreInputRows design rows =
    (names : List Name) × IsInNames design names × All (λ row. length row ≡ length names) rows

-- the bits of the main outputs, in order; and the bit of one of them by its number from 0, which
-- means something only below the number of outputs
abbrev pub output_bits : Design → Valuation → List Bool
output_bits design bits = map (bits []) (main_outputs design)

abbrev pub output_bit : Design → Valuation → ℕ → Bool
output_bit design bits output = get_or (output_bits design bits) output false

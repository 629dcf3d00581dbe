-- What the definitions mean for single designs.
use Rattle.std.specs.Prelude.{map, ℕ, zero, suc, cond, ◌+◌, ◌*◌, ◌^◌, ◌<◌, ◌≡◌, ◌≢◌, List, [], ◌∷◌, Bool, false, not, length, All, ◌==◌, slice_get, get_or, Some, codes}
use Rattle.netlist_core.specs.declared.model.Design.{Design}
use Rattle.netlist_core.specs.Names.{Name}
use Rattle.netlist_meaning.specs.InOrder.{nets_in_order}
use Rattle.netlist_meaning.specs.FlatOf.{class_of_net}
use Rattle.netlist_meaning.specs.Nets.{Net, net_at, IsInNames}
use Rattle.netlist_meaning.specs.Valuation.{Valuation, IsRun, output_bits}
use Rattle.netlist_examples.specs.Designs.{toggle_design, loop_design, adder_design, wide_design, tower_design, clocked_design, read_clock_design, two_clocks_design, latch_design, circle_design, shared_design, half_clocked_design, read_main_clock_design}
use Rattle.netlist_rules.specs.Clocks.{IsClockRead, IsTwoClocks, HasOneClock}
use Rattle.netlist_meaning.specs.Loop.{IsCombinationalLoop}
use Rattle.netlist_meaning.specs.Weight.{weight}

-- 0 in even cycles, and 1 in odd ones
abbrev pub is_odd_cycle : ℕ → Bool
is_odd_cycle zero = false
is_odd_cycle (suc n) = not (is_odd_cycle n)

-- there is a run on every list of rows without bits, and in every run the one output is 0 and 1 in
-- turn
pub record IsToggle (design : Design) : Type 0 where
  pub runs : (rows : List (List Bool)) → All (λ row. length row ≡ 0) rows
      → (run : ℕ → Valuation) × IsRun design rows run
  pub gives : (rows : List (List Bool)) (run : ℕ → Valuation) → IsRun design rows run → (cycle : ℕ)
      → cycle < length rows → output_bits design (run cycle) ≡ is_odd_cycle cycle ∷ []

-- a latch that starts as 0 and takes the inverse of its output is a toggle
abbrev pub LatchToggles : Type 0
LatchToggles = (n q : Name) → n ≢ q → IsToggle (toggle_design n q)

-- a circle through a latch is no loop
abbrev pub LatchBreaksLoop : Type 0
LatchBreaksLoop =
    (n q : Name) → n ≢ q → (nets : List Net) → ¬ IsCombinationalLoop (toggle_design n q) nets

-- a cover that reads its own output is a combinational loop
abbrev pub CoverReadsItself : Type 0
CoverReadsItself = IsCombinationalLoop loop_design (net_at [] (codes "x") ∷ [])

-- the weight of a tower of models, in which each model but the last places the next one twice
abbrev pub TowerWeighs : Type 0
TowerWeighs = (n : ℕ) → n < 2 ^ 64 → weight (tower_design n) + 2 ≡ 3 * 2 ^ n

-- the weights of single designs
pub record HasWeights : Type 0 where
  pub adder : weight adder_design ≡ 74
  pub widest : weight (wide_design 8190) ≡ 8192
  pub too_wide : weight (wide_design 8191) ≡ 8193
  pub tower : weight (tower_design 40) ≡ 3298534883326

-- the latches' control gets no IN name
abbrev pub ControlIsNoInput : Type 0
ControlIsNoInput = IsInNames clocked_design (codes "d" ∷ [])

-- a cover that reads the control is a fault, on the cover's line
abbrev pub CoverReadsClock : Type 0
CoverReadsClock = IsClockRead read_clock_design 5 (codes "clk")

-- a second latch with another control is a fault, on the latch's line
abbrev pub LatchHasOtherClock : Type 0
LatchHasOtherClock = IsTwoClocks two_clocks_design 6 (codes "e")

-- the number that bits spell, the lowest bit first
abbrev pub number_spelled : List Bool → ℕ
number_spelled [] = 0
number_spelled (bit ∷ bits) = cond bit 1 0 + 2 * number_spelled bits

-- there is a run on every list of rows of five bits a0 a1 b0 b1 ci, and in every run the outputs of
-- each cycle are the sum
pub record IsAdder (design : Design) : Type 0 where
  pub runs : (rows : List (List Bool)) → All (λ row. length row ≡ 5) rows
      → (run : ℕ → Valuation) × IsRun design rows run
  pub adds : (rows : List (List Bool)) (run : ℕ → Valuation) → IsRun design rows run
      → (cycle : ℕ) (a0 a1 b0 b1 ci : Bool)
      → slice_get rows cycle ≡ Some (a0 ∷ a1 ∷ b0 ∷ b1 ∷ ci ∷ [])
      → number_spelled (output_bits design (run cycle))
      ≡ number_spelled (a0 ∷ a1 ∷ []) + number_spelled (b0 ∷ b1 ∷ []) + number_spelled (ci ∷ [])

abbrev pub AdderAdds : Type 0
AdderAdds = IsAdder adder_design

-- in cycle 0 the given bit, and in each later cycle the row of the cycle before
abbrev pub delayed : Bool → List (List Bool) → ℕ → List Bool
delayed first rows zero = first ∷ []
delayed first rows (suc cycle) = get_or rows cycle []

-- there is a run on every list of rows of one bit, and in every run the output is the first bit and
-- then the input of the cycle before
pub record IsDelay (first : Bool) (design : Design) : Type 0 where
  pub runs : (rows : List (List Bool)) → All (λ row. length row ≡ 1) rows
      → (run : ℕ → Valuation) × IsRun design rows run
  pub gives : (rows : List (List Bool)) (run : ℕ → Valuation) → IsRun design rows run → (cycle : ℕ)
      → cycle < length rows → output_bits design (run cycle) ≡ delayed first rows cycle

-- a latch delays its input; it starts as 1 if its init is 1, and as 0 for any other init
abbrev pub LatchDelays : Type 0
LatchDelays = (init : ℕ) → IsDelay (init == 1) (latch_design init)

-- a latch with init 2 and a control among the inputs also delays its input, and starts as 0
abbrev pub ClockedLatchDelays : Type 0
ClockedLatchDelays = IsDelay false clocked_design

-- a circle through pins is a loop, and each of its joined nets names it
pub record IsLoopThroughPins : Type 0 where
  pub outside : IsCombinationalLoop circle_design (net_at [] (codes "x") ∷ [])
  pub input : IsCombinationalLoop circle_design (net_at (0 ∷ []) (codes "i") ∷ [])
  pub output : IsCombinationalLoop circle_design (net_at (0 ∷ []) (codes "o") ∷ [])

-- latches of two places whose controls are joined by a pin have one clock, and its name at the main
-- model is no IN name
pub record HasSharedClock : Type 0 where
  pub one_clock : HasOneClock shared_design
  pub in_names : IsInNames shared_design (codes "d" ∷ [])

-- a second latch without a control is a fault, with `-` for its control
abbrev pub LatchHasNoClock : Type 0
LatchHasNoClock = IsTwoClocks half_clocked_design 5 (codes "-")

-- a `.clock` name of the main model that is no input is a clock net, without any latch
abbrev pub CoverReadsMainClock : Type 0
CoverReadsMainClock = IsClockRead read_main_clock_design 5 (codes "e")

-- the classes of the two-bit adder's nets: a0 a1 b0 b1 ci s0 s1 c k, and in each full adder a b c s
-- co
abbrev pub AdderHasClasses : Type 0
AdderHasClasses =
    map (class_of_net adder_design) (nets_in_order adder_design) ≡ 0 ∷ 1 ∷ 2 ∷ 3 ∷ 4 ∷ 5 ∷ 6 ∷ 7 ∷ 8
    ∷ 0 ∷ 2 ∷ 4 ∷ 5 ∷ 8 ∷ 1 ∷ 3 ∷ 8 ∷ 6 ∷ 7 ∷ []

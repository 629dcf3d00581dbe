-- Drawings of gates that keep their laws, and the gates that they draw.
use Rattle.std.specs.Prelude.{pos, ℕ, ◌+◌, ◌<◌, ◌≤◌, ◌≡◌, ◌%◌, ◌⊎◌, Bool, true, ◌&&◌, ◌||◌, not, List, [], length, get_or}
use Rattle.lists.specs.Items.{flag_at}
use Rattle.gate_laws.specs.Rows.{Port}
use Rattle.gate_laws.specs.Gates.{Gate, KeepsGateLaw, IsGateForPeriod}
use Rattle.gate_laws.specs.Drawings.{window_gate, in_at, number_of_bits}
use Rattle.gate_laws.specs.declared.window.InCell.{InCell}
use Rattle.gate_laws.specs.declared.window.OutCell.{OutCell}
use Rattle.gate_laws.specs.Crossings.{Crossing, KeepsCrossingLaw, spread}
use Rattle.gate_laws.specs.Drawn.{window_crossing}
use Rattle.gate_library.specs.declared.gate.Answer.{Answer}
use Rattle.gate_library.specs.declared.gate.Answer.TheVariants.{Copy, Or, Xor, AndNot}
use Rattle.gate_library.specs.declared.gate.Timing.{Timing}
use Rattle.gate_library.specs.declared.gate.Timing.TheVariants.{Together, Apart}
use Rattle.gate_library.specs.declared.gate.GateDrawing.{GateDrawing}
use Rattle.gate_library.specs.declared.ports.PortCell.{PortCell}

-- the gate that is drawn, if its inputs are lit together
abbrev pub gate_together : GateDrawing → Gate
gate_together d = window_gate d.cells d.width d.ins d.outs d.time

abbrev pub own_cell : InCell → ℕ × ℕ
own_cell input = (input.x, input.y)

abbrev pub input_cell : GateDrawing → ℕ → ℕ × ℕ
input_cell d i = own_cell (in_at d.ins i)

-- the crossing that is drawn, if they are lit apart
abbrev pub crossing_apart : GateDrawing → Crossing
crossing_apart d =
    window_crossing d.cells d.width (input_cell d 0) (input_cell d 1) d.outs d.time

-- The gate that is drawn. If its inputs are lit apart, the second is lit so many generations after
-- the first.
abbrev pub gate_by : Timing → GateDrawing → (later : ℕ) → Gate
gate_by Together d later = gate_together d
gate_by Apart d later = spread (crossing_apart d) later

abbrev pub gate_at : GateDrawing → (later : ℕ) → Gate
gate_at d later = gate_by d.timing d later

-- it keeps the law of gates, or that of crossings
abbrev pub KeepsLawOf : Timing → GateDrawing → Type 0
KeepsLawOf Together d = KeepsGateLaw (gate_together d)
KeepsLawOf Apart d = (length d.ins ≡ 2) × KeepsCrossingLaw (crossing_apart d)

-- an answer to bits of inputs
abbrev pub answer_bit : List Bool → Answer → Bool
answer_bit bits (Copy i) = flag_at bits i
answer_bit bits (Or i j) = flag_at bits i || flag_at bits j
answer_bit bits (Xor i j) =
    (flag_at bits i || flag_at bits j) && not (flag_at bits i && flag_at bits j)
answer_bit bits (AndNot i j) = flag_at bits i && not (flag_at bits j)

abbrev pub answer_at : GateDrawing → ℕ → Answer
answer_at d o = get_or d.answers o (Copy 0)

-- The drawing keeps its law. No two of its inputs are one cell. Each output has the bit that its
-- answer says, whatever those of the inputs are.
pub record IsLawful (d : GateDrawing) : Type 0 where
  pub wide : 0 < d.width
  pub law : KeepsLawOf d.timing d
  pub inputs : (i j : ℕ) → i < length d.ins → j < length d.ins → input_cell d i ≡ input_cell d j
      → i ≡ j
  pub answers : (later : ℕ) (bits : List Bool) → length bits ≡ length d.ins → (o : ℕ)
      → o < length d.outs → (gate_at d later).answer bits o ≡ answer_bit bits (answer_at d o)

-- What an output's table says of its answer: for bits of so many inputs that are lit together it
-- has the same bit; of inputs that are lit apart it has the one that it copies.
abbrev pub SaysAnswer : Timing → (count : ℕ) → OutCell → Answer → Type 0
SaysAnswer Together count out answer =
    (bits : List Bool) → length bits ≡ count
    → flag_at out.table (number_of_bits bits) ≡ answer_bit bits answer
SaysAnswer Apart count out answer =
    ((answer ≡ Copy 0) × (flag_at out.table 1 ≡ true))
    ⊎ ((answer ≡ Copy 1) × (flag_at out.table 2 ≡ true))

abbrev pub no_out : OutCell
no_out = record { x = 0; y = 0; delay = 0; table = [] }

-- The gate can be used at this period: not before its time; or the generations of its two inputs
-- are so far apart within each period, both ways.
abbrev pub FitsPeriod : Timing → (time period later : ℕ) → Type 0
FitsPeriod Together time period later = time ≤ period
FitsPeriod Apart time period later =
    (time ≤ later % period) × (later % period + time ≤ period)

-- what is drawn is a gate at each period that it fits
abbrev pub LawfulAreGatesAtPeriod : Type 0
LawfulAreGatesAtPeriod =
    (d : GateDrawing) → IsLawful d → (period later : ℕ) → FitsPeriod d.timing d.time period later
    → IsGateForPeriod period (gate_at d later)

-- a port of a drawing, or of a gate that stands somewhere
abbrev pub port_in_cell : PortCell → Port
port_in_cell port = ((pos port.x, pos port.y), port.generation)

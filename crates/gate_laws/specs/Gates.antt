-- Gates: drawings that answer bits at their inputs by bits at their outputs.
use Rattle.std.specs.Prelude.{ℤ, ℕ, zero, suc, ◌-◌, ◌<◌, ◌≤◌, ◌≡◌, ◌↔◌, ◌⊎◌, ◌==◌, Bool, true, false, ◌&&◌, ◌||◌, List, [], ◌∷◌, length, Some, slice_get, Contains}
use Rattle.std.specs.Ordering.{int_eq}
use Rattle.ww_rule.specs.declared.pattern.State.TheVariants.{Empty, Head, Tail, Conductor}
use Rattle.ww_rule.specs.Wireworld.{Plane, driven}
use Rattle.gate_laws.specs.Signals.{cell_state, IsReady}
use Rattle.gate_laws.specs.Wires.{IsNear}
use Rattle.gate_laws.specs.Rows.{Port, AnswersEachRow}

-- A gate: a drawing with ports, which is used again and again. A port is a cell, and a generation of
-- a use: an input is lit then if its bit is 1, an output if its bit of the answer is. So an output's
-- generation is its delay. The answer gives the bit of each output, by its number, for the bits of
-- the inputs. The next use begins `time` generations after this one, or later. An output may be an
-- input's cell, as in a gate of one cell, and a gate may have no outputs.
pub record Gate : Type 0 where
  pub plane : Plane
  pub ins : List Port
  pub outs : List Port
  pub answer : List Bool → ℕ → Bool
  pub time : ℕ

-- is the cell at x, y an input whose bit is 1, at the generation of this input?
abbrev pub is_lit_input : List Port → List Bool → (g : ℕ) → ℤ → ℤ → Bool
is_lit_input [] bits g x y = false
is_lit_input (port ∷ ports) [] g x y = false
is_lit_input (port ∷ ports) (bit ∷ bits) g x y =
    (bit && g == port.1 && int_eq port.0.0 x && int_eq port.0.1 y) || is_lit_input ports bits g x y

-- the gate after so many generations, where each input whose bit is 1 is made a head at its own
abbrev pub used : Gate → List Bool → ℕ → Plane
used gate bits g = driven (is_lit_input gate.ins bits) gate.plane g

-- At the port's generation and at no other below the gate's time its cell is a head, exactly if its
-- bit is 1.
abbrev pub ShowsOnce : Gate → List Bool → Port → Bool → Type 0
ShowsOnce gate bits port bit =
    (g : ℕ) → g < gate.time
    → (cell_state (used gate bits g) port.0 ≡ Head) ↔ ((g ≡ port.1) × (bit ≡ true))

-- an input of the gate is this cell or beside it
abbrev pub IsBesideInput : Gate → ℤ × ℤ → Type 0
IsBesideInput gate cell = (input : Port) × Contains gate.ins input × IsNear input.0 cell

-- The cell is as in the drawing, or a tail with no input beside it.
abbrev pub IsCalmCell : Gate → Plane → ℤ × ℤ → Type 0
IsCalmCell gate p cell =
    (cell_state p cell ≡ cell_state gate.plane cell)
    ⊎ ((cell_state p cell ≡ Tail) × (cell_state gate.plane cell ≡ Conductor)
    × ¬ IsBesideInput gate cell)

-- What a gate does with these bits. Each input is a head at its own generation, if its bit is 1,
-- and at no other. Each output is a head after its delay, if its bit of the answer is 1, and at no
-- other generation. One generation before its own each input is ready; one that is lit at
-- generation 0, one generation before the gate's time. At that time all is calm.
pub record AnswersInTime (gate : Gate) (bits : List Bool) : Type 0 where
  pub ins : (i : ℕ) (port : Port) (bit : Bool) → slice_get gate.ins i ≡ Some port
      → slice_get bits i ≡ Some bit → ShowsOnce gate bits port bit
  pub outs : (o : ℕ) (port : Port) → slice_get gate.outs o ≡ Some port
      → ShowsOnce gate bits port (gate.answer bits o)
  pub ready : (port : Port) → Contains gate.ins port → (g : ℕ) → port.1 ≡ suc g
      → IsReady (used gate bits g) port.0
  pub ready_again : (port : Port) → Contains gate.ins port → port.1 ≡ 0
      → IsReady (used gate bits (gate.time - 1)) port.0
  pub calm : (cell : ℤ × ℤ) → IsCalmCell gate (used gate bits gate.time) cell

-- The cells are conductors, the ports among them, and each port's generation is below the gate's
-- time. So two uses never overlap: a gate that could take new bits before its last output is lit
-- keeps the law of gates with a longer time.
pub record IsGateDrawn (gate : Gate) : Type 0 where
  pub long : 3 ≤ gate.time
  pub cells : (cell : ℤ × ℤ) → (cell_state gate.plane cell ≡ Empty)
      ⊎ (cell_state gate.plane cell ≡ Conductor)
  pub ins : (port : Port) → Contains gate.ins port
      → (cell_state gate.plane port.0 ≡ Conductor) × (port.1 < gate.time)
  pub outs : (port : Port) → Contains gate.outs port
      → (cell_state gate.plane port.0 ≡ Conductor) × (port.1 < gate.time)

-- the law of gates: the gate is drawn, and answers each row of bits in time
pub record KeepsGateLaw (gate : Gate) : Type 0 where
  pub drawn : IsGateDrawn gate
  pub answers : (bits : List Bool) → length bits ≡ length gate.ins → AnswersInTime gate bits

-- the first bits of a row
abbrev pub front_bits : ℕ → (ℕ → Bool) → List Bool
front_bits zero row = []
front_bits (suc count) row = row 0 ∷ front_bits count (λ i. row (suc i))

-- what a gate makes of a row of bits
abbrev pub gate_answer : Gate → (ℕ → Bool) → ℕ → Bool
gate_answer gate row o = gate.answer (front_bits (length gate.ins) row) o

-- A gate that keeps its law answers each row of bits at every period that is not below its time.
abbrev pub GatesAnswerEachRow : Type 0
GatesAnswerEachRow =
    (gate : Gate) → KeepsGateLaw gate → (period : ℕ) → gate.time ≤ period
    → AnswersEachRow period gate.plane gate.ins gate.outs (gate_answer gate)

-- The gate's cells are conductors, and at this period it is a part: it answers the row of bits of
-- each cycle. The first cycle of each port begins at its generation. Nothing is said of the gate's
-- time.
pub record IsGateForPeriod (period : ℕ) (gate : Gate) : Type 0 where
  pub cells : (cell : ℤ × ℤ) → (cell_state gate.plane cell ≡ Empty)
      ⊎ (cell_state gate.plane cell ≡ Conductor)
  pub answers : AnswersEachRow period gate.plane gate.ins gate.outs (gate_answer gate)

-- a gate that keeps its law is one for each period from its time on
abbrev pub LawfulAreGates : Type 0
LawfulAreGates =
    (gate : Gate) → KeepsGateLaw gate → (period : ℕ) → gate.time ≤ period → IsGateForPeriod period gate

-- Crossings: gates with two inputs, of which the second may be lit at any generation that is far
-- enough from those of the first.
use Rattle.std.specs.Prelude.{ℤ, ℕ, suc, ◌+◌, ◌<◌, ◌≤◌, ◌≡◌, ◌%◌, Bool, true, false, cond, List, [], ◌∷◌, length}
use Rattle.lists.specs.Items.{flag_at}
use Rattle.ww_rule.specs.Wireworld.{Plane}
use Rattle.gate_laws.specs.Rows.{Port, AnswersEachRow}
use Rattle.gate_laws.specs.Gates.{Gate, IsGateDrawn, AnswersInTime, KeepsGateLaw, gate_answer, IsGateForPeriod}

-- A crossing: its cells; the cells of its two inputs; its outputs, each with its delay after the
-- input that lights it; its answer to the bits of the inputs, of which one is 1 at most; and the
-- generations after which either input may be lit.
pub record Crossing : Type 0 where
  pub plane : Plane
  pub first : ℤ × ℤ
  pub second : ℤ × ℤ
  pub outs : List Port
  pub answer : List Bool → ℕ → Bool
  pub time : ℕ

-- the crossing with one input lit alone, at generation 0
abbrev pub alone : Crossing → Gate
alone c =
    record {
      plane = c.plane;
      ins = (c.first, 0) ∷ (c.second, 0) ∷ [];
      outs = c.outs;
      answer = c.answer;
      time = c.time;
    }

-- is this an output that the second input lights?
abbrev pub is_of_second : Crossing → ℕ → Bool
is_of_second c o = c.answer (false ∷ true ∷ []) o

-- The law of crossings: the cells are conductors, each input alone is answered in time, and each
-- output answers one of the inputs at most, and is dark without them.
pub record KeepsCrossingLaw (c : Crossing) : Type 0 where
  pub drawn : IsGateDrawn (alone c)
  pub by_first : (bit : Bool) → AnswersInTime (alone c) (bit ∷ false ∷ [])
  pub by_second : (bit : Bool) → AnswersInTime (alone c) (false ∷ bit ∷ [])
  pub by_none : (o : ℕ) → o < length c.outs → c.answer (false ∷ false ∷ []) o ≡ false
  pub by_one : (o : ℕ) → o < length c.outs → is_of_second c o ≡ true
      → c.answer (true ∷ false ∷ []) o ≡ false

-- the outputs, those so many generations later that the second input lights
abbrev pub spread_outs : (is_second : ℕ → Bool) → (d : ℕ) → List Port → List Port
spread_outs is_second d [] = []
spread_outs is_second d (port ∷ ports) =
    (port.0, cond (is_second 0) d 0 + port.1) ∷ spread_outs (λ o. is_second (suc o)) d ports

-- the answer of each output to the bit of its own input
abbrev pub spread_answer : Crossing → List Bool → ℕ → Bool
spread_answer c bits o =
    cond (is_of_second c o) (c.answer (false ∷ flag_at bits 1 ∷ []) o)
    (c.answer (flag_at bits 0 ∷ false ∷ []) o)

-- the crossing as a gate whose second input is lit d generations after the first
abbrev pub spread : Crossing → (d : ℕ) → Gate
spread c d =
    record {
      plane = c.plane;
      ins = (c.first, 0) ∷ (c.second, d) ∷ [];
      outs = spread_outs (is_of_second c) d c.outs;
      answer = spread_answer c;
      time = d + c.time;
    }

-- A crossing that keeps its law is a gate that keeps the law of gates for each difference that is
-- not below its time.
abbrev pub SpreadCrossingsAreLawful : Type 0
SpreadCrossingsAreLawful =
    (c : Crossing) → KeepsCrossingLaw c → (d : ℕ) → c.time ≤ d → KeepsGateLaw (spread c d)

-- So at each period it answers each row of bits, for each difference, also beyond the period, if
-- the inputs' generations are far enough apart within each period. Where the second input comes
-- first, exchange the two: the crossing's law says the same of both.
abbrev pub CrossingsAnswerEachRow : Type 0
CrossingsAnswerEachRow =
    (c : Crossing) → KeepsCrossingLaw c → (period d : ℕ) → c.time ≤ d % period
    → d % period + c.time ≤ period
    → AnswersEachRow period (spread c d).plane (spread c d).ins (spread c d).outs
    (gate_answer (spread c d))

-- and is a gate for this period
abbrev pub CrossingsAreGates : Type 0
CrossingsAreGates =
    (c : Crossing) → KeepsCrossingLaw c → (period d : ℕ) → c.time ≤ d % period
    → d % period + c.time ≤ period → IsGateForPeriod period (spread c d)

-- An output that the second input lights has that input's bit, and one that the first lights has
-- the first's.
abbrev pub CrossingsCopy : Type 0
CrossingsCopy =
    (c : Crossing) → KeepsCrossingLaw c → (d : ℕ) (bits : List Bool) (o : ℕ) → o < length c.outs
    → (is_of_second c o ≡ true → (spread c d).answer bits o ≡ flag_at bits 1)
    × (c.answer (true ∷ false ∷ []) o ≡ true → (spread c d).answer bits o ≡ flag_at bits 0)

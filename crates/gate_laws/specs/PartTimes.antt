-- Laws of the times of a part's ports: other ports that are lit alike may stand for them, and they
-- may begin cycles later.
use Rattle.std.specs.Prelude.{ℕ, suc, ◌+◌, ◌*◌, ◌<◌, ◌≤◌, ◌≡◌, Bool, false, List, [], ◌∷◌, length}
use Rattle.ww_rule.specs.Wireworld.{Plane}
use Rattle.gate_laws.specs.Rows.{Port, signal_of, PartMeaning, IsPart, IsCausalMeaning, row_of_both}
use Rattle.gate_laws.specs.Laws.{AreLitAlike}
use Rattle.gate_laws.specs.PortWires.{nth_port}

-- Ports with their bits, and other ports with other bits: the two of each number are one cell, and
-- lit at the same generations.
pub record ArePortsLitAlike (period : ℕ) (ports others : List Port)
    (bits other_bits : ℕ → ℕ → Bool) : Type 0 where
  pub count : length ports ≡ length others
  pub alike : (i : ℕ) → i < length ports
      → AreLitAlike period (signal_of (nth_port ports i) (λ t. bits t i))
      (signal_of (nth_port others i) (λ t. other_bits t i))

-- Other ports may stand for a part's if they are lit alike: the new inputs, whatever their bits
-- are, as the part's inputs with the bits that `taken` makes of these, and the new outputs with the
-- bits of the second meaning as the part's outputs with the bits of its own. So a second meaning
-- may stand for the first if it has the same bits at each output. Whether later cycles count for
-- the second meaning is not said.
abbrev pub PartsLitAlike : Type 0
PartsLitAlike =
    (period : ℕ) (p : Plane) (ins outs inputs outputs : List Port) (meaning second : PartMeaning)
    (taken : (ℕ → ℕ → Bool) → ℕ → ℕ → Bool)
    → ((bits : ℕ → ℕ → Bool) → ArePortsLitAlike period ins inputs (taken bits) bits)
    → ((bits : ℕ → ℕ → Bool)
    → ArePortsLitAlike period outs outputs (meaning (taken bits)) (second bits))
    → IsPart period p ins outs meaning → IsPart period p inputs outputs second

-- each port begun so many cycles later
abbrev pub cycles_later : (period : ℕ) → (later : ℕ → ℕ) → List Port → List Port
cycles_later period later [] = []
cycles_later period later (port ∷ ports) =
    (port.0, port.1 + later 0 * period) ∷ cycles_later period (λ i. later (suc i)) ports

-- the bits of each port, held back so many cycles, in which they are 0
abbrev pub held_back : (later : ℕ → ℕ) → (ℕ → ℕ → Bool) → ℕ → ℕ → Bool
held_back later bits t i = row_of_both (later i) (λ u. false) (λ u. bits u i) t

-- what a meaning makes of bits that are held back so many cycles, without so many first bits of
-- each output
abbrev pub meaning_later : (later outs_later : ℕ → ℕ) → PartMeaning → PartMeaning
meaning_later later outs_later meaning bits t o =
    meaning (held_back later bits) (outs_later o + t) o

-- Inputs of a part may begin some cycles later: before, the part gets 0 from them. So may an output
-- if its bits before are then 0, whatever bits come. No later cycle comes to count if
-- `outs_later o` is at most `later i` for all numbers o and i, also those past the last port, of
-- which the two may say anything. (Of inputs that begin earlier it says nothing: these may bring
-- bits in cycles in which the part is not known to take any.)
abbrev pub PartsBeginLater : Type 0
PartsBeginLater =
    (period : ℕ) → 0 < period → (p : Plane) (ins outs : List Port) (meaning : PartMeaning)
    (later outs_later : ℕ → ℕ)
    → ((bits : ℕ → ℕ → Bool) (t o : ℕ) → o < length outs → t < outs_later o
    → meaning (held_back later bits) t o ≡ false)
    → IsPart period p ins outs meaning
    → IsPart period p (cycles_later period later ins) (cycles_later period outs_later outs)
    (meaning_later later outs_later meaning)
    × (((i o : ℕ) → outs_later o ≤ later i) → IsCausalMeaning meaning
    → IsCausalMeaning (meaning_later later outs_later meaning))

-- Signals of rows of bits, parts, and planes that answer row by row.
use Rattle.std.specs.Prelude.{ℤ, pos, ℕ, zero, suc, ◌/◌, ◌%◌, ◌≤◌, ◌==◌, ◌≡◌, ◌≢◌, Bool, ◌&&◌, List, [], ◌∷◌, map}
use Rattle.lists.specs.Items.{flag_at, list_at}
use Rattle.ww_rule.specs.declared.pattern.State.TheVariants.{Head, Tail}
use Rattle.ww_rule.specs.Wireworld.{Plane}
use Rattle.gate_laws.specs.Signals.{Signal, CarriesSignals}

-- a port: a cell, and the generation of its first cycle
abbrev pub Port : Type 0
Port = (ℤ × ℤ) × ℕ

abbrev pub signal_of : Port → (ℕ → Bool) → Signal
signal_of port bit = record { cell = port.0; first = port.1; bit = bit }

-- the signals of ports, whose bits are given by cycle and by the number of the port
abbrev pub signals_at : List Port → (cycle_bit : ℕ → ℕ → Bool) → List Signal
signals_at [] bits = []
signals_at (port ∷ ports) bits =
    signal_of port (λ t. bits t 0) ∷ signals_at ports (λ t i. bits t (suc i))

-- the signals of rows of bits, one row a cycle; after the rows all bits are 0
abbrev pub signals_of_rows : List (ℕ × ℕ) → List (List Bool) → List Signal
signals_of_rows cells rows =
    signals_at (map (λ cell. ((pos cell.0, pos cell.1), 0)) cells)
    (λ t i. flag_at (list_at rows t) i)

-- the signal with each cycle stretched to so many: its bit, and then bits that are 0
abbrev pub stretched : (times : ℕ) → Signal → Signal
stretched times s =
    record { cell = s.cell; first = s.first; bit = λ t. t % times == 0 && s.bit (t / times) }

-- the plane has no heads and no tails
pub record HasNoElectrons (p : Plane) : Type 0 where
  pub heads : (x y : ℤ) → p x y ≢ Head
  pub tails : (x y : ℤ) → p x y ≢ Tail

-- What a part makes of bits, which are given by cycle and by the number of the input: bits by cycle
-- and by the number of the output.
abbrev pub PartMeaning : Type 0
PartMeaning = (ℕ → ℕ → Bool) → ℕ → ℕ → Bool

-- The plane is a part with this meaning: whatever the bits at its inputs are, it carries them to
-- what the meaning makes of them, at its outputs. Nets stand among the outputs: each port has a
-- time of its own.
abbrev pub IsPart : (period : ℕ) → Plane → (ins outs : List Port) → PartMeaning → Type 0
IsPart period p ins outs meaning =
    (bits : ℕ → ℕ → Bool) → CarriesSignals period p (signals_at ins bits)
    (signals_at outs (meaning bits))

-- what is made of the bits in a cycle depends on no later cycle
abbrev pub IsCausalMeaning : PartMeaning → Type 0
IsCausalMeaning meaning =
    (bits others : ℕ → ℕ → Bool) (t : ℕ) → ((u : ℕ) → u ≤ t → bits u ≡ others u)
    → meaning bits t ≡ meaning others t

-- The plane answers each row of input bits by one row of output bits, which depends on no other
-- row.
abbrev pub AnswersEachRow : (period : ℕ) → Plane → (ins outs : List Port)
    → (answer : (ℕ → Bool) → ℕ → Bool) → Type 0
AnswersEachRow period p ins outs answer = IsPart period p ins outs (λ bits t. answer (bits t))

-- a row of bits: these for the first ports, and those for the ports after them
abbrev pub row_of_both : (count : ℕ) → (first rest : ℕ → Bool) → ℕ → Bool
row_of_both zero first rest i = rest i
row_of_both (suc count) first rest zero = first 0
row_of_both (suc count) first rest (suc i) = row_of_both count (λ j. first (suc j)) rest i

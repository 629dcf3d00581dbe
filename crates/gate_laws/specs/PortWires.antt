-- Wires from the outputs of a part to its inputs.
use Rattle.std.specs.Prelude.{ℤ, pos, ℕ, suc, ◌+◌, ◌*◌, ◌<◌, ◌≤◌, ◌≡◌, Bool, false, List, ◌++◌, length, map, get_or, slice_get, Some, Contains}
use Rattle.lists.specs.Items.{flag_at}
use Rattle.ww_rule.specs.Wireworld.{Plane}
use Rattle.gate_laws.specs.Rows.{Port, signal_of, signals_at, PartMeaning, IsPart, IsCausalMeaning, row_of_both}
use Rattle.gate_laws.specs.Wires.{Wire, AreWiresDrawn}

-- A wire from an output of a part, given by its number, to an input. It is as many cycles long as
-- it has start bits; without any it is a plain connection.
pub record PortWire : Type 0 where
  pub size : ℕ
  pub path : ℕ → ℤ × ℤ
  pub output : ℕ
  pub input : Port
  pub starts : List Bool

abbrev pub nth_port : List Port → ℕ → Port
nth_port ports i = get_or ports i ((pos 0, pos 0), 0)

-- the wire as it is drawn: the signal at its end has the start bits, and that at its beginning none
abbrev pub drawn_wire : (outs : List Port) → PortWire → Wire
drawn_wire outs wire =
    record {
      size = wire.size;
      path = wire.path;
      from = signal_of (nth_port outs wire.output) (λ t. false);
      to = signal_of wire.input (flag_at wire.starts);
    }

-- The wire begins at an output. What leaves the output in a cycle is at the wire's end in the cycle
-- that is as many later as there are start bits. A start bit that would be in the wire's first
-- cell, or before it in the part, is 0.
pub record ComesInTime (period : ℕ) (outs : List Port) (wire : PortWire) : Type 0 where
  pub source : wire.output < length outs
  pub time : (nth_port outs wire.output).1 + suc wire.size
      ≡ wire.input.1 + length wire.starts * period
  pub clear : (t : ℕ) → wire.size ≤ wire.input.1 + t * period → flag_at wire.starts t ≡ false

-- one plane is the other with these wires; the inputs here are those that are left
pub record HasPortWires (period : ℕ) (wires : List PortWire) (ins outs : List Port)
    (before after : Plane) : Type 0 where
  pub in_time : (wire : PortWire) → Contains wires wire → ComesInTime period outs wire
  pub drawn : AreWiresDrawn period (map (drawn_wire outs) wires) (signals_at ins (λ t i. false))
      before after

-- the inputs at the ends of wires, and those that are left
abbrev pub all_inputs : List PortWire → List Port → List Port
all_inputs wires ins = map (λ wire. wire.input) wires ++ ins

-- the bits of all inputs: those that are fed, by cycle and by the number of the wire, and those of
-- the inputs that are left
abbrev pub with_fed : List PortWire → (fed bits : ℕ → ℕ → Bool) → ℕ → ℕ → Bool
with_fed wires fed bits t = row_of_both (length wires) (fed t) (bits t)

-- The bits at the end of a wire with m start bits are these, and m cycles later those of the output
-- where the wire begins, if these and the bits of the inputs that are left come to the part: the
-- wire is a row of m latches.
pub record FeedsBack (wires : List PortWire) (meaning : PartMeaning)
    (bits fed : ℕ → ℕ → Bool) : Type 0 where
  pub starts : (i : ℕ) (wire : PortWire) → slice_get wires i ≡ Some wire
      → (t : ℕ) → t < length wire.starts → fed t i ≡ flag_at wire.starts t
  pub later : (i : ℕ) (wire : PortWire) → slice_get wires i ≡ Some wire
      → (t : ℕ) → fed (length wire.starts + t) i ≡ meaning (with_fed wires fed bits) t wire.output

-- The part with the wires is a part without the inputs at their ends: whatever the bits of the
-- others are, there are bits that the wires feed back, and no others, and the outputs show what the
-- part makes of both. If no later cycle counts for the part, none does for the new one.
pub record IsFedPart (period : ℕ) (wires : List PortWire) (ins outs : List Port)
    (meaning : PartMeaning) (after : Plane) : Type 0 where
  pub fed : PartMeaning
  pub feeds : (bits : ℕ → ℕ → Bool) → FeedsBack wires meaning bits (fed bits)
  pub only : (bits other : ℕ → ℕ → Bool) → FeedsBack wires meaning bits other
      → (t i : ℕ) → i < length wires → other t i ≡ fed bits t i
  pub part : IsPart period after ins outs (λ bits. meaning (with_fed wires (fed bits) bits))
  pub causal : IsCausalMeaning meaning
      → IsCausalMeaning (λ bits. meaning (with_fed wires (fed bits) bits))

-- wires from outputs of a part to inputs make a part of it again
abbrev pub PartsFeed : Type 0
PartsFeed =
    (period : ℕ) → 3 ≤ period → (wires : List PortWire) (ins outs : List Port)
    (before after : Plane) (meaning : PartMeaning)
    → HasPortWires period wires ins outs before after
    → IsPart period before (all_inputs wires ins) outs meaning
    → IsFedPart period wires ins outs meaning after

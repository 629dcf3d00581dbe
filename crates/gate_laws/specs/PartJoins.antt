-- Parts joined one way by wires, and wires that begin or end at lone cells.
use Rattle.std.specs.Prelude.{ℕ, zero, suc, ◌+◌, ◌≤◌, Bool, false, List, [], ◌∷◌, ◌++◌, length}
use Rattle.lists.specs.Items.{flag_at}
use Rattle.ww_rule.specs.Wireworld.{Plane}
use Rattle.gate_laws.specs.Rows.{Port, PartMeaning, IsPart, IsCausalMeaning, row_of_both}
use Rattle.gate_laws.specs.PortWires.{PortWire, HasPortWires, all_inputs, with_fed}
use Rattle.gate_laws.specs.Laws.{IsLoneCell, StandApart, side_by_side}

-- What comes by wires if the outputs show these bits, by cycle and by the number of the wire: its
-- start bits, and then the bits of its output. Past the last wire it is 0.
abbrev pub comes_by_wires : List PortWire → (shown : ℕ → ℕ → Bool) → ℕ → ℕ → Bool
comes_by_wires [] shown t i = false
comes_by_wires (wire ∷ wires) shown t zero =
    row_of_both (length wire.starts) (flag_at wire.starts) (λ u. shown u wire.output) t
comes_by_wires (wire ∷ wires) shown t (suc i) = comes_by_wires wires shown t i

-- The meaning of two parts, if wires lead from outputs of the first to the first inputs of the
-- second. The first part has so many inputs and outputs, which come first. After them come the
-- second's inputs that are left, and all its outputs.
abbrev pub joined_meaning : List PortWire → (ins outs : ℕ) → PartMeaning → PartMeaning
    → PartMeaning
joined_meaning wires ins outs meaning second bits t =
    row_of_both outs (meaning bits t)
    (second (with_fed wires (comes_by_wires wires (meaning bits)) (λ u i. bits u (ins + i))) t)

-- two parts that stand apart, and wires from outputs of the first to the first inputs of the
-- second, are a part
abbrev pub PartsJoin : Type 0
PartsJoin =
    (period : ℕ) → 3 ≤ period → (wires : List PortWire) (p q after : Plane)
    (ins outs inputs outputs : List Port) (meaning second : PartMeaning) → StandApart p q
    → HasPortWires period wires (ins ++ inputs) outs (side_by_side p q) after
    → IsPart period p ins outs meaning → IsPart period q (all_inputs wires inputs) outputs second
    → IsPart period after (ins ++ inputs) (outs ++ outputs)
    (joined_meaning wires (length ins) (length outs) meaning second)
    × (IsCausalMeaning meaning → IsCausalMeaning second
    → IsCausalMeaning (joined_meaning wires (length ins) (length outs) meaning second))

-- a lone cell is a part: it is an input, and an output that shows the input's bits
abbrev pub LoneCellsAreParts : Type 0
LoneCellsAreParts =
    (period : ℕ) → 3 ≤ period → (p : Plane) (port : Port) → IsLoneCell p port.0
    → IsPart period p (port ∷ []) (port ∷ []) (λ bits. bits)

-- the meaning with one more output after so many, at the wire's end
abbrev pub meaning_along : PortWire → (outs : ℕ) → PartMeaning → PartMeaning
meaning_along wire outs meaning bits t =
    row_of_both outs (meaning bits t) (comes_by_wires (wire ∷ []) (meaning bits) t)

-- A part, and a wire from one of its outputs to a lone cell, are a part with one more output, the
-- lone cell: it shows the wire's start bits, and then the bits of the output.
abbrev pub LoneCellsEndWires : Type 0
LoneCellsEndWires =
    (period : ℕ) → 3 ≤ period → (wire : PortWire) (p lone after : Plane) (ins outs : List Port)
    (meaning : PartMeaning) → IsLoneCell lone wire.input.0 → StandApart p lone
    → HasPortWires period (wire ∷ []) ins outs (side_by_side p lone) after
    → IsPart period p ins outs meaning
    → IsPart period after ins (outs ++ wire.input ∷ []) (meaning_along wire (length outs) meaning)
    × (IsCausalMeaning meaning → IsCausalMeaning (meaning_along wire (length outs) meaning))

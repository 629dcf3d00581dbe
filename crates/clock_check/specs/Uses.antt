-- The uses of nets in a flat netlist, and the earliest use of a clock net.
use Rattle.std.specs.Prelude.{ℕ, suc, ◌==◌, ◌&&◌, ◌||◌, nat_lt, Bool, cond, List, [], ◌∷◌, ◌++◌, flat_map, Option, Some, None}
use Rattle.netlist_core.specs.declared.flat.NetId.{NetId}
use Rattle.netlist_core.specs.declared.flat.Node.{Node}
use Rattle.netlist_core.specs.declared.flat.FlatPort.{FlatPort}
use Rattle.netlist_core.specs.declared.flat.FlatLatch.{FlatLatch}
use Rattle.netlist_core.specs.declared.flat.Flat.{Flat}
use Rattle.netlist_meaning.specs.Flat.{class_of, is_clock_class}
use Rattle.clock_check.specs.declared.uses.NetUse.{NetUse}

-- the uses by some words of a line; the first word has that position
abbrev pub uses_on : ℕ → ℕ → List NetId → List NetUse
uses_on line position [] = []
uses_on line position (net ∷ nets) =
    record { line = line; position = position; net = net } ∷ uses_on line (suc position) nets

abbrev pub uses_of_node : Node → List NetUse
uses_of_node node = uses_on node.line 0 (node.ins ++ node.out ∷ [])

abbrev pub uses_of_latch : FlatLatch → List NetUse
uses_of_latch latch = uses_on latch.line 0 (latch.input ∷ latch.output ∷ [])

-- the uses by outputs; the first output has that position
abbrev pub uses_of_outs : ℕ → List FlatPort → List NetUse
uses_of_outs position [] = []
uses_of_outs position (port ∷ ports) =
    record { line = port.line; position = position; net = port.net }
    ∷ uses_of_outs (suc position) ports

abbrev pub flat_uses : Flat → List NetUse
flat_uses flat =
    flat_map uses_of_node flat.nodes ++ flat_map uses_of_latch flat.latches
    ++ uses_of_outs 0 flat.outs

-- whether a use stands before another
abbrev pub stands_before : NetUse → NetUse → Bool
stands_before a b = nat_lt a.line b.line || ((a.line == b.line) && nat_lt a.position b.position)

-- the earlier of two uses
abbrev pub earlier : Option NetUse → NetUse → NetUse
earlier None next = next
earlier (Some found) next = cond (stands_before next found) next found

-- the earliest use of a clock net so far, or one more use if that is of a clock net and earlier
abbrev pub earliest_with : Flat → Option NetUse → NetUse → Option NetUse
earliest_with flat found next =
    cond (is_clock_class flat (class_of flat next.net)) (Some (earlier found next)) found

-- the earliest use of a clock net so far and among more uses
abbrev pub earliest_among : Flat → Option NetUse → List NetUse → Option NetUse
earliest_among flat found [] = found
earliest_among flat found (next ∷ uses) = earliest_among flat (earliest_with flat found next) uses

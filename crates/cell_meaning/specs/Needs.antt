-- What a flat netlist asks of its cells.
use Rattle.std.specs.Prelude.{ℕ, ◌==◌, ◌&&◌, ◌||◌, not, Bool, List, length, take, sum_by}
use Rattle.std.specs.List.{list_any}
use Rattle.netlist_core.specs.declared.flat.Node.{Node}
use Rattle.netlist_core.specs.declared.flat.Flat.{Flat}
use Rattle.netlist_core.specs.OwnWeight.{rows_weight}

-- the row has no `1` under the first so many nets
abbrev pub has_no_positive : ℕ → List ℕ → Bool
has_no_positive count row = not (list_any (λ character. character == 49) (take count row))

-- a cover needs constant 1: a row has no `1`, or there are rows and they end in `0`
abbrev pub needs_one : Node → Bool
needs_one node =
    list_any (has_no_positive (length node.ins)) node.rows
    || (not node.on && not (length node.rows == 0))

-- some cover needs constant 1
abbrev pub any_needs_one : Flat → Bool
any_needs_one flat = list_any needs_one flat.nodes

-- the weight of all covers
abbrev pub covers_weight : Flat → ℕ
covers_weight flat = sum_by (λ (node : Node). rows_weight node.rows) flat.nodes

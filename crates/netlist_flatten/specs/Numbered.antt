-- The places of a design by their numbers, and the nets that stand before each.
use Rattle.std.specs.Prelude.{ℕ, List, [], get_or, take, flat_map}
use Rattle.netlist_core.specs.declared.model.Design.{Design}
use Rattle.netlist_meaning.specs.Places.{Place}
use Rattle.netlist_meaning.specs.Nets.{Net}
use Rattle.netlist_meaning.specs.InOrder.{places_in_order, nets_at}

-- the place of that number
abbrev pub place_at : Design → ℕ → Place
place_at design k = get_or (places_in_order design) k []

-- the nets at the places before place k: their count is the number of its first net
abbrev pub nets_before : Design → ℕ → List Net
nets_before design k = flat_map (nets_at design) (take k (places_in_order design))

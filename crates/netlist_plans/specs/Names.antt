-- The names of a flat netlist whose design is that of a text.
use Rattle.std.specs.Prelude.{ℕ, List}
use Rattle.netlist_core.specs.declared.model.Design.{Design}
use Rattle.netlist_core.specs.declared.flat.Flat.{Flat}
use Rattle.netlist_meaning.specs.FlatOf.{IsFlatOf}
use Rattle.blif_text.specs.Faults.{IsDesignOf}
use Rattle.plan_ports.specs.Tables.{HasPortNames}

-- the names of the flat netlist of a text's design can stand in a port table
abbrev pub TextsHavePortNames : Type 0
TextsHavePortNames =
    (text : List ℕ) (design : Design) (flat : Flat) → IsDesignOf text design → IsFlatOf design flat
    → HasPortNames flat

-- Texts of routed circuits carry flat netlists.
use Rattle.std.specs.Prelude.{ℕ, Bool, List}
use Rattle.netlist_core.specs.declared.flat.Flat.{Flat}
use Rattle.netlist_core.specs.declared.model.Design.{Design}
use Rattle.netlist_meaning.specs.FlatValuation.{AreFlatRows, IsFlatRun, start_bits}
use Rattle.netlist_meaning.specs.FlatOf.{IsFlatOf}
use Rattle.netlist_rules.specs.ModelFaults.{AreFaultless}
use Rattle.netlist_rules.specs.Clocks.{HasNoClockFault}
use Rattle.cell_core.specs.declared.list.CellList.{CellList}
use Rattle.carries.specs.FlatNets.{NamesFlat, CarriesFlat}
use Rattle.carries.specs.Nets.{CarriesNets}
use Rattle.plan_carries.specs.Compiled.{ComputesFlat}
use Rattle.routed_circuits.specs.Tables.{SpellsListRuns}

-- the flat netlist has a run on all rows of input bits: so has each that is sound and has an order
-- (`has_run` of plan_carries)
abbrev pub HasFlatRuns : Flat → Type 0
HasFlatRuns flat =
    (rows : List (List Bool)) → AreFlatRows flat rows
    → (run : ℕ → ℕ → Bool) × IsFlatRun flat (start_bits flat) rows run

-- The text of a routed circuit carries each flat netlist that its list computes, if its table has the
-- netlist's names.
abbrev pub RoutedTextsCarry : Type 0
RoutedTextsCarry =
    (text : List ℕ) (flat : Flat) (list : CellList) → (shown : SpellsListRuns text list)
    → NamesFlat shown.ports flat → HasFlatRuns flat → ComputesFlat flat list → CarriesFlat text flat

-- so it carries the design of the netlist, and the design's nets
abbrev pub RoutedDesignsAreCarried : Type 0
RoutedDesignsAreCarried =
    (text : List ℕ) (design : Design) (flat : Flat) (list : CellList)
    → AreFaultless design.models → HasNoClockFault design → IsFlatOf design flat
    → (shown : SpellsListRuns text list) → NamesFlat shown.ports flat
    → HasFlatRuns flat → ComputesFlat flat list → CarriesNets text design

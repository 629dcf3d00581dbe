-- Lists in which what is 1 at zero is kept as its complement.
use Rattle.std.proofs.Common.{◌*◌, ◌≤◌, List, length}
use Rattle.netlist_core.specs.declared.flat.Flat.{Flat}
use Rattle.netlist_meaning.specs.Flat.{IsSound}
use Rattle.cell_core.specs.declared.cells.Src.{Src}
use Rattle.cell_core.specs.declared.list.CellList.{CellList}
use Rattle.cell_meaning.specs.Needs.{covers_weight}
use Rattle.cell_polarity.specs.Complements.{Complements}
use Rattle.cell_polarity.proofs.Mapped.{complements_are_mapped, complements_have_bits}
use Rattle.netlist_plans.specs.Lists.{MapsFlat}

pub maps_low : (flat : Flat) (old new : CellList) (kept still : List Src) → IsSound flat → MapsFlat flat old kept → Complements old kept new still
    → length new.cells ≤ 2 * covers_weight flat → MapsFlat flat new still
maps_low flat old new kept still sound maps complements few = record {
  mapped = complements_are_mapped flat old new kept still sound maps.mapped complements few;
  bits = λ inputs state bits solves. complements_have_bits flat old new kept still inputs state bits complements (maps.bits inputs state bits solves);
}

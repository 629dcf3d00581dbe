-- What a netlist's list of cells stays when what is 1 at zero is kept as its complement.
use Rattle.std.specs.Prelude.{ℕ, ◌+◌, ◌*◌, ◌≤◌, ◌≡◌, Bool, false, List, length}
use Rattle.std.specs.List.{list_any}
use Rattle.netlist_core.specs.declared.flat.Flat.{Flat}
use Rattle.netlist_meaning.specs.Flat.{IsSound}
use Rattle.cell_core.specs.declared.cells.Src.{Src}
use Rattle.cell_core.specs.declared.list.CellList.{CellList}
use Rattle.cell_core.specs.Loops.{names_one}
use Rattle.cell_meaning.specs.Mapped.{IsMappedWith, HasBits}
use Rattle.cell_meaning.specs.Needs.{covers_weight}
use Rattle.cell_polarity.specs.Zero.{zero_bit}
use Rattle.cell_polarity.specs.Needed.{needed}
use Rattle.cell_polarity.specs.Complements.{Complements}

-- a list with complements, of one that is mapped from a flat netlist, is mapped from it too, if it
-- has no more cells than the covers' weight allows
abbrev pub ComplementsAreMapped : Type 0
ComplementsAreMapped =
    (flat : Flat) (old new : CellList) (kept still : List Src) → IsSound flat
    → IsMappedWith flat old kept → Complements old kept new still
    → length new.cells ≤ 2 * covers_weight flat → IsMappedWith flat new still

-- and if the ports and nets of the one have certain bits, so do those of the other
abbrev pub ComplementsHaveBits : Type 0
ComplementsHaveBits =
    (flat : Flat) (old new : CellList) (kept still : List Src) (inputs state : List Bool)
    (bits : ℕ → Bool) → Complements old kept new still → HasBits flat old inputs state bits
    → HasBits flat new inputs state bits

-- where no needed source is 1 at zero, a list with complements does not name constant 1, and has at
-- most two cells for each cell and one for each kept source
abbrev pub ComplementsSpareOne : Type 0
ComplementsSpareOne =
    (old new : CellList) (kept still : List Src) → Complements old kept new still
    → list_any (zero_bit old) (needed old kept) ≡ false
    → (names_one new ≡ false) × (length new.cells ≤ 2 * length old.cells + length kept)

-- A list that is mapped from a flat netlist stays so when it is rewritten.
use Rattle.std.specs.Prelude.{ℕ, ◌≡◌, Bool, true, List, Contains}
use Rattle.netlist_core.specs.declared.flat.Flat.{Flat}
use Rattle.netlist_meaning.specs.Flat.{FlatDriver, FlatDrives, IsSound}
use Rattle.netlist_meaning.specs.FlatValuation.{IsFlatValuation}
use Rattle.cell_core.specs.declared.cells.Src.{Src}
use Rattle.cell_core.specs.declared.list.CellList.{CellList}
use Rattle.cell_meaning.specs.Listed.{listed_classes}
use Rattle.cell_meaning.specs.Mapped.{IsMapped, IsMappedWith, HasBits}
use Rattle.cell_meaning.specs.Same.{Rewrites}

-- if the netlist's nets are listed, each class that is driven is that of a listed net
abbrev pub AreDrivenListed : Flat → Type 0
AreDrivenListed flat =
    flat.listed ≡ true → (class : ℕ) (d : FlatDriver) → FlatDrives flat d class
    → Contains (listed_classes flat) class

-- a list that computes the same as a mapped one, and keeps the covers of one cell, is mapped from
-- the same netlist
abbrev pub MappedStays : Type 0
MappedStays =
    (flat : Flat) (old new : CellList) (singles : List Src) → IsSound flat
    → IsMappedWith flat old singles → Rewrites old singles new → IsMapped flat new

-- if the ports and nets of a list have certain bits, so do those of a list that rewrites it
abbrev pub BitsStay : Type 0
BitsStay =
    (flat : Flat) (old new : CellList) (kept : List Src) (inputs state : List Bool)
    (bits : ℕ → Bool) → Rewrites old kept new → HasBits flat old inputs state bits
    → HasBits flat new inputs state bits

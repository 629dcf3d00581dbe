-- What is asked of cells that a search found for a cover.
use Rattle.std.specs.Prelude.{ℕ, ◌≤◌, ◌≡◌, ◌⊎◌, Bool, true, List, [], length}
use Rattle.netlist_meaning.specs.CoverValue.{cover_value}
use Rattle.cell_core.specs.declared.cells.Src.{Src}
use Rattle.cell_core.specs.Sources.{is_there, are_in_order, is_one, read_one}
use Rattle.cell_core.specs.Meaning.{bit_in}
use Rattle.cover_cells.specs.declared.search.Found.{Found}
use Rattle.cover_cells.specs.Covers.{CoverNeedsOne, most_cells_of_cover}

-- the cells read only so many nets and cells before them
pub record StandsAlone (nets : ℕ) (found : Found) : Type 0 where
  pub in_order : are_in_order nets 0 0 found.cells ≡ true
  pub there : is_there nets 0 (length found.cells) found.root ≡ true

-- constant 1 is read by a cell, or is the root
abbrev pub ReadsOneRoot : Found → Type 0
ReadsOneRoot found = (read_one found.cells ≡ true) ⊎ (is_one found.root ≡ true)

-- the cells have the cover's value, are few, and use constant 1 only if the cover needs it
pub record Suits (sources : List Src) (rows : List (List ℕ)) (on : Bool)
    (found : Found) : Type 0 where
  pub alone : StandsAlone (length sources) found
  pub few : length found.cells ≤ most_cells_of_cover rows on
  pub one : ReadsOneRoot found → CoverNeedsOne sources rows on
  pub bits : (bits : List Bool) → length bits ≡ length sources
      → bit_in found.cells bits [] found.root ≡ cover_value rows on bits

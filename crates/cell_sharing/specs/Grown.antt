-- What contracts claim of a list to which cells were added.
use Rattle.std.specs.Prelude.{ℕ, ◌≤◌, ◌≡◌, Bool, true, IsTrue, List, map, length}
use Rattle.cell_core.specs.declared.cells.Src.{Src}
use Rattle.cell_core.specs.declared.cells.Cell.{Cell}
use Rattle.cell_core.specs.declared.list.CellList.{CellList}
use Rattle.cell_core.specs.Sources.{is_there, are_there, is_one, read_one}
use Rattle.cell_core.specs.Meaning.{bit_in}
use Rattle.cell_core.specs.Adding.{Adds}

abbrev pub HasSource : CellList → Src → Type 0
HasSource list src = IsTrue (is_there list.inputs (length list.starts) (length list.cells) src)

abbrev pub HasSources : CellList → List Src → Type 0
HasSources list sources =
    IsTrue (are_there list.inputs (length list.starts) (length list.cells) sources)

abbrev pub bits_of : CellList → List Src → List Bool → List Bool → List Bool
bits_of list sources inputs state = map (bit_in list.cells inputs state) sources

-- at most so many cells were added, and one of them reads constant 1 only for this reason
pub record Grows (old new : CellList) (count : ℕ) (reason : Type 0) : Type 0 where
  pub more : List Cell
  pub adds : Adds old new more
  pub few : length more ≤ count
  pub ones : read_one more ≡ true → reason

-- besides, the source is there, is constant 1 only for the reason, and has the wanted bit under all
-- inputs and states
pub record Answers (old new : CellList) (count : ℕ) (reason : Type 0) (src : Src)
    (wanted : List Bool → List Bool → Bool) : Type 0 where
  pub grows : Grows old new count reason
  pub there : HasSource new src
  pub one : is_one src ≡ true → reason
  pub bit : (inputs state : List Bool) → bit_in new.cells inputs state src ≡ wanted inputs state

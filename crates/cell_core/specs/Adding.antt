-- Lists to which cells are added.
use Rattle.std.specs.Prelude.{ℕ, ◌≡◌, Bool, IsTrue, List, ◌++◌, length}
use Rattle.cell_core.specs.declared.cells.Src.{Src}
use Rattle.cell_core.specs.declared.cells.Cell.{Cell}
use Rattle.cell_core.specs.declared.list.CellList.{CellList}
use Rattle.cell_core.specs.Sources.{is_there}
use Rattle.cell_core.specs.Meaning.{bit_in}

-- the new list has these cells more, and all else is as before
pub record Adds (old new : CellList) (more : List Cell) : Type 0 where
  pub inputs : new.inputs ≡ old.inputs
  pub cells : new.cells ≡ old.cells ++ more
  pub outs : new.outs ≡ old.outs
  pub latches : new.latches ≡ old.latches
  pub starts : new.starts ≡ old.starts
  pub nets : new.nets ≡ old.nets

-- appending cells changes the bit of no source that is there
abbrev pub AppendingKeepsBits : Type 0
AppendingKeepsBits =
    (cells more : List Cell) (inputs state : List Bool) (latches count : ℕ) (src : Src)
    → IsTrue (is_there count latches (length cells) src)
    → bit_in (cells ++ more) inputs state src ≡ bit_in cells inputs state src

-- Ends of lists of cells.
use Rattle.std.specs.Prelude.{ℕ, ◌≡◌, IsTrue, List, length}
use Rattle.cell_core.specs.declared.cells.Cell.{Cell}
use Rattle.cell_core.specs.Sources.{are_in_order, are_there}
use Rattle.route_filling.specs.declared.lists_of.Ends.{Ends}

-- the cells and the ends read what is there, if there are so many inputs, and each latch has a start bit
pub record FitsCells (inputs : ℕ) (cells : List Cell) (ends : Ends) : Type 0 where
  pub starts_fit : length ends.starts.items ≡ length ends.latches.items
  pub cells_are : IsTrue (are_in_order inputs (length ends.starts.items) 0 cells)
  pub outs_are : IsTrue (are_there inputs (length ends.starts.items) (length cells) ends.outs.items)
  pub nets_are : IsTrue (are_there inputs (length ends.starts.items) (length cells) ends.nets.items)
  pub latches_are : IsTrue (are_there inputs (length ends.starts.items) (length cells) ends.latches.items)

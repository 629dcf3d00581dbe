use Rattle.std.proofs.Common.{◌≡◌, Bool, List, length}
use Rattle.cell_core.specs.Tables.{table_bit}
use Rattle.cover_cells.proofs.Products.{so_far}
use Rattle.cover_cells.proofs.words.row_word.Given as goal

abbrev pub invariant-loop-i : goal.invariant-loop-i
invariant-loop-i l = (bits : List Bool) → length bits ≡ l.nets → table_bit bits l.word ≡ so_far l.i l.row bits

use Rattle.std.proofs.Common.{◌≡◌, Bool, List, length, take}
use Rattle.netlist_meaning.specs.CoverValue.{any_holds}
use Rattle.cell_core.specs.Tables.{table_bit}
use Rattle.cover_cells.proofs.words.rows_word.Given as goal

abbrev pub invariant-loop-row : goal.invariant-loop-row
invariant-loop-row l = (bits : List Bool) → length bits ≡ l.nets → table_bit bits l.word ≡ any_holds (take l.row-index l.rows) bits

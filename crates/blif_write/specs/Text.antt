-- The text of the netlist that is lifted from a list of cells.
use Rattle.std.specs.Prelude.{ℕ, List, map}
use Rattle.netlist_core.specs.Names.{Name}
use Rattle.blif_text.specs.declared.logical.Logical.{Logical}
use Rattle.cell_core.specs.declared.list.CellList.{CellList}
use Rattle.lifted_designs.specs.Lines.{lifted_lines}
use Rattle.lifted_designs.specs.Words.{text_of}

-- the text of the words of these lines: a space stands between two words, and byte 10 after each
-- line
abbrev pub worded_text : List Logical → List ℕ
worded_text lines = text_of (map (λ line. line.words) lines)

-- the text of the lifted netlist, if the inputs and the outputs have these names
abbrev pub lifted_text : (ins outs : List Name) → CellList → List ℕ
lifted_text ins outs list = worded_text (lifted_lines ins outs list)

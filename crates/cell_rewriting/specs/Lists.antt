-- Lists to which a list with kept sources is rewritten.
use Rattle.std.specs.Prelude.{List}
use Rattle.cell_core.specs.declared.cells.Src.{Src}
use Rattle.cell_core.specs.declared.list.CellList.{CellList}
use Rattle.cell_rewriting.specs.declared.rebuilding.KeptList.{KeptList}
use Rattle.cell_meaning.specs.Same.{IsRewritten}

-- the list is one to which the old one, with its kept sources, is rewritten
abbrev pub IsRewrittenFrom : KeptList → CellList → Type 0
IsRewrittenFrom from new = (still : List Src) × IsRewritten from.list from.kept.items new still

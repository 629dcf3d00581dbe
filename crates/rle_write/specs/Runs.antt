-- Runs of equal cells, and the cells that they spell.
use Rattle.std.specs.Prelude.{◌≢◌, ◌≤◌, ◌<◌, ℕ, zero, suc, List, [], ◌∷◌, ◌++◌, replicate}
use Rattle.pattern_writing.specs.Writer.{row_end}
use Rattle.rle_write.specs.declared.rows.Run.{Run}

-- a tag of cells is a byte, and is not that of row ends
pub record IsCellTag (tag : ℕ) : Type 0 where
  pub other : tag ≢ row_end
  pub byte : tag < 256

-- a run has cells, and they have a tag of cells
pub record IsCellRun (run : Run) : Type 0 where
  pub some : 1 ≤ run.count
  pub cell : IsCellTag run.tag

-- the tags of the cells of runs
abbrev pub spelled : List Run → List ℕ
spelled [] = []
spelled (run ∷ runs) = replicate run.count run.tag ++ spelled runs

-- tags, so many times
abbrev pub repeated : ℕ → List ℕ → List ℕ
repeated zero tags = []
repeated (suc n) tags = tags ++ repeated n tags

-- What columns do to bits on lanes.
use Rattle.std.specs.Prelude.{ℕ, Bool, List, fold, All, AllPairs}
use Rattle.lane_core.specs.declared.instr.Column.{Column}
use Rattle.lane_core.specs.Instrs.{after_instrs, IsOnLanes, AreApart}

-- the bits after a column: its instructions share no lane, so they may be done in any order
abbrev pub after_column : List Bool → Column → List Bool
after_column bits column = after_instrs column.instrs bits

-- the bits after columns, the first of them first
abbrev pub after_columns : List Column → List Bool → List Bool
after_columns columns bits = fold after_column bits columns

-- the lanes of all instructions of the column are among the first so many
abbrev pub IsColumnOnLanes : ℕ → Column → Type 0
IsColumnOnLanes lanes column = All (IsOnLanes lanes) column.instrs

-- no two instructions of the column share a lane
abbrev pub IsColumnApart : Column → Type 0
IsColumnApart column = AllPairs AreApart column.instrs

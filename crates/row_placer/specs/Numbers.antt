-- Sources by their numbers: inputs, latches, constant 1 if it is named, constant 0, cells.
use Rattle.std.specs.Prelude.{ℕ, ◌+◌, ◌<◌, ◌≡◌, Bool, true, List, get_or, length, All}
use Rattle.cell_core.specs.declared.cells.Src.{Src}
use Rattle.cell_core.specs.declared.cells.Src.TheVariants.{Input, Latch, One, Zero, Cell as Made}
use Rattle.cell_core.specs.declared.cells.Cell.{Cell}
use Rattle.cell_core.specs.declared.cells.Cell.TheVariants.{Or, Xor, AndNot}
use Rattle.cell_core.specs.declared.list.CellList.{CellList}
use Rattle.cell_core.specs.Loops.{names_one, loop_count}
use Rattle.row_placer.specs.declared.job.CellKind.TheVariants as kind
use Rattle.row_placer.specs.declared.job.NumberedCell.{NumberedCell}

-- the number of a source
abbrev pub number : CellList → Src → ℕ
number list (Input i) = i
number list (Latch i) = list.inputs + i
number list One = list.inputs + length list.starts
number list Zero = list.inputs + loop_count list
number list (Made i) = list.inputs + loop_count list + 1 + i

abbrev pub gate_of : CellList → Cell → NumberedCell
gate_of list (Or a b) = record { kind = kind.Or; first = number list a; second = number list b }
gate_of list (Xor a b) = record { kind = kind.Xor; first = number list a; second = number list b }
gate_of list (AndNot a b) =
    record { kind = kind.AndNot; first = number list a; second = number list b }

-- a source that is there, in a list whose first n cells are there
abbrev pub IsThere : CellList → ℕ → Src → Type 0
IsThere list n (Input i) = i < list.inputs
IsThere list n (Latch i) = i < length list.starts
IsThere list n One = names_one list ≡ true
IsThere list n Zero = Unit {0}
IsThere list n (Made i) = i < n

abbrev pub ReadsThere : CellList → ℕ → Cell → Type 0
ReadsThere list n (Or a b) = IsThere list n a × IsThere list n b
ReadsThere list n (Xor a b) = IsThere list n a × IsThere list n b
ReadsThere list n (AndNot a b) = IsThere list n a × IsThere list n b

pub record ReadsWhatIsThere (list : CellList) : Type 0 where
  pub fits : length list.latches ≡ length list.starts
  pub cells : (g : ℕ) (d : Cell) → g < length list.cells → ReadsThere list g (get_or list.cells g d)
  pub outs : All (IsThere list (length list.cells)) list.outs
  pub latches : All (IsThere list (length list.cells)) list.latches
  pub nets : All (IsThere list (length list.cells)) list.nets

-- constant 0 is among the sources only if the flag is set
abbrev pub NamesZero : List Src → Bool → Type 0
NamesZero srcs flag = All (λ src. src ≡ Zero → flag ≡ true) srcs

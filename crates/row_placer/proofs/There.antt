-- Sources that are there.
use Rattle.std.proofs.Common.{◌≡◌, ap, ℕ, ◌+◌, ◌<◌, ◌≤◌, cond, arith}
use Rattle.cell_core.specs.declared.cells.Src.{Src}
use Rattle.cell_core.specs.declared.cells.Src.TheVariants.{Input, Latch, One, Zero, Cell as Made}
use Rattle.cell_core.specs.declared.cells.Cell.{Cell}
use Rattle.cell_core.specs.declared.cells.Cell.TheVariants.{Or, Xor, AndNot}
use Rattle.cell_core.specs.declared.list.CellList.{CellList}
use Rattle.cell_core.specs.Loops.{loop_count, names_one}
use Rattle.row_placer.specs.Numbers.{IsThere, ReadsThere, number, gate_of}
use Rattle.row_placer.specs.Uses.{ReadsBelow}

pub there_later : (list : CellList) (n m : ℕ) (src : Src) → n ≤ m → IsThere list n src → IsThere list m src
there_later list n m (Input i) le there = there
there_later list n m (Latch i) le there = there
there_later list n m One le there = there
there_later list n m Zero le there = there
there_later list n m (Made i) le there = omega (arith, le, there)

pub reads_later : (list : CellList) (n m : ℕ) (cell : Cell) → n ≤ m → ReadsThere list n cell → ReadsThere list m cell
reads_later list n m (Or a b) le there = (there_later list n m a le there.0, there_later list n m b le there.1)
reads_later list n m (Xor a b) le there = (there_later list n m a le there.0, there_later list n m b le there.1)
reads_later list n m (AndNot a b) le there = (there_later list n m a le there.0, there_later list n m b le there.1)

-- their numbers are below the number of the next cell
pub number_low : (list : CellList) (n : ℕ) (src : Src) → IsThere list n src → number list src < list.inputs + loop_count list + 1 + n
number_low list n (Input i) there = omega (arith, there)
number_low list n (Latch i) there = omega (arith, there)
number_low list n One there = let one : cond {A = ℕ} (names_one list) 1 0 ≡ 1 = ap (λ b. cond {A = ℕ} b 1 0) there in omega (arith, one)
number_low list n Zero there = omega arith
number_low list n (Made i) there = omega (arith, there)

pub gate_low : (list : CellList) (n : ℕ) (cell : Cell) → ReadsThere list n cell → ReadsBelow (list.inputs + loop_count list + 1 + n) (gate_of list cell)
gate_low list n (Or a b) there = (number_low list n a there.0, number_low list n b there.1)
gate_low list n (Xor a b) there = (number_low list n a there.0, number_low list n b there.1)
gate_low list n (AndNot a b) there = (number_low list n a there.0, number_low list n b there.1)

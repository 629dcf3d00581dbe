use Rattle.std.proofs.Common.{◌≡◌, ◌++◌, take}
use Rattle.drive.specs.Runs.{planes_of}
use Rattle.drive.specs.Shown.{bits_on}
use Rattle.drive.proofs.bits.push_bits.Given as goal

abbrev pub invariant-loop-x : goal.invariant-loop-x
invariant-loop-x l = l.row.items ≡ l.fn.row.items ++ bits_on (planes_of l.run l.run.generation) (take l.x-index l.cells)

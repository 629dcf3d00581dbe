use Rattle.std.proofs.Common.{◌≡◌, take}
use Rattle.streams.specs.Rows.{bits_across}
use Rattle.streams.proofs.columns.bits_across.Given as goal

abbrev pub invariant-loop-bits : goal.invariant-loop-bits
invariant-loop-bits l = l.column.items ≡ bits_across (take l.bits-index l.lists) l.place

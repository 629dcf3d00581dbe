use Rattle.std.proofs.Common.{◌≡◌, take}
use Rattle.column_packer.specs.Numbers.{column_numbers}
use Rattle.column_packer.proofs.Table.{IsTable}
use Rattle.column_packer.proofs.numbering.column_numbers.Given as goal

abbrev pub invariant-loop-instr : goal.invariant-loop-instr
invariant-loop-instr l =
    IsTable l.fn.lanes l.used.items (take l.instr-index l.instrs) × (l.numbers.items ≡ column_numbers (take l.instr-index l.instrs))

use Rattle.std.proofs.Common.{◌≡◌, ◌++◌, map, take}
use Rattle.blifww_tool.specs.Lines.{bit_digit}
use Rattle.blifww_tool.proofs.lines.push_bits.Given as goal

abbrev pub invariant-loop-bit : goal.invariant-loop-bit
invariant-loop-bit l = l.line.items ≡ l.fn.line.items ++ map bit_digit (take l.bit-index l.bits)

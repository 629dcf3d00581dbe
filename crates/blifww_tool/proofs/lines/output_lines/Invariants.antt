use Rattle.std.proofs.Common.{◌≡◌, take, length, flat_map, zip}
use Rattle.blifww_tool.specs.Lines.{bits_line}
use Rattle.blifww_tool.proofs.lines.output_lines.Given as goal

abbrev pub invariant-loop-name : goal.invariant-loop-name
invariant-loop-name l = l.lines.items ≡ flat_map (λ p. bits_line p.0 p.1) (take (length l.yielded) (zip l.names l.bits))

use Rattle.std.proofs.Common.{◌≡◌, ◌++◌, flat_map, take}
use Rattle.blifww_tool.specs.Summary.{output_lines}
use Rattle.blifww_tool.proofs.summary.push_outputs.Given as goal

abbrev pub invariant-loop-output : goal.invariant-loop-output
invariant-loop-output l = l.lines.items ≡ l.fn.lines.items ++ flat_map output_lines (take l.output-index l.outputs)

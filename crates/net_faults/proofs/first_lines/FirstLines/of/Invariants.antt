use Rattle.std.proofs.Common.{take}
use Rattle.net_faults.specs.Numbering.{numbered_ports}
use Rattle.net_faults.specs.FirstLines.{AreFirstLines}
use Rattle.net_faults.proofs.first_lines.FirstLines.of.Given as goal

abbrev pub invariant-loop-word : goal.invariant-loop-word
invariant-loop-word l = AreFirstLines l.names l.lines (numbered_ports (take l.word-index l.words))

use Rattle.std.proofs.Common.{◌≡◌, ◌+◌, drop}
use Rattle.std.specs.List.{prefix_len}
use Rattle.blif_text.specs.Models.{stays_in_model}
use Rattle.blif_reader.proofs.splitting.count_lines.Given as goal

abbrev pub invariant-loop-i : goal.invariant-loop-i
invariant-loop-i l = l.i + prefix_len stays_in_model (drop l.i l.lines) ≡ prefix_len stays_in_model l.lines

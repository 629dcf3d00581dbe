use Rattle.std.proofs.Common.{◌≡◌, ◌+◌, drop}
use Rattle.std.specs.List.{prefix_len}
use Rattle.blif_text.specs.Models.{is_row}
use Rattle.blif_reader.proofs.covers.count_rows.Given as goal

abbrev pub invariant-loop-i : goal.invariant-loop-i
invariant-loop-i l = l.i + prefix_len is_row (drop l.i l.lines) ≡ prefix_len is_row l.lines

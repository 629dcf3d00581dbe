use Rattle.std.proofs.Common.{◌≡◌, ◌==◌, ◌+◌, not, drop}
use Rattle.std.specs.List.{prefix_len}
use Rattle.port_table.proofs.table.bytes_before_space.Given as goal

abbrev pub invariant-loop-i : goal.invariant-loop-i
invariant-loop-i l = prefix_len (λ b. not (b == 32)) l.entry ≡ l.i + prefix_len (λ b. not (b == 32)) (drop l.i l.entry)

use Rattle.std.proofs.Common.{◌≡◌, replicate, Option, None, List, ℕ}
use Rattle.netlist_flatten.proofs.tables.no_names.Given as goal

abbrev pub invariant-loop : goal.invariant-loop
invariant-loop l = l.names.items ≡ replicate {A = Option (List (List ℕ))} l.counter None

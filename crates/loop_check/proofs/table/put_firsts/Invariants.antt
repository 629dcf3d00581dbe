use Rattle.std.proofs.Common.{◌≡◌, ℕ, ◌<◌, ◌≤◌, length, get_or}
use Rattle.netlist_core.specs.declared.flat.NetId.{NetId}
use Rattle.loop_check.specs.Tables.{IsFirstFor}
use Rattle.loop_check.proofs.table.put_firsts.Given as goal

abbrev pub invariant-loop-k : goal.invariant-loop-k
invariant-loop-k l = ((i : ℕ) (d : NetId) → i < l.k → IsFirstFor l.flat (get_or l.fn.nets i d) (get_or l.nets i d)) × ((i : ℕ) (d : NetId) → l.k ≤ i → i < length l.fn.nets → get_or l.nets i d ≡ get_or l.fn.nets i d)

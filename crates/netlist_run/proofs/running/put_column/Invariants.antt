use Rattle.std.proofs.Common.{◌≡◌, ℕ, ◌<◌, get_or, slice_get, unwrap_or, [], false}
use Rattle.netlist_run.proofs.running.put_column.Given as goal

abbrev pub invariant-loop-k : goal.invariant-loop-k
invariant-loop-k l = (i : ℕ) → i < l.k → get_or l.row i false ≡ unwrap_or (slice_get (get_or l.lists i []) l.place) false

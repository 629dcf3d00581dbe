-- Eight drawings for each shape so far.
use Rattle.std.proofs.Common.{◌≡◌, vec_len, ◌+◌, ◌*◌}
use Rattle.gate_library.proofs.library.add_all.Given as goal

abbrev pub invariant-loop-turn : goal.invariant-loop-turn
invariant-loop-turn l = vec_len l.drawings ≡ 8 * l.shape-index + l.turn-index

abbrev pub invariant-loop-shape : goal.invariant-loop-shape
invariant-loop-shape l = vec_len l.drawings ≡ 8 * l.shape-index

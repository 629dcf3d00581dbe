use Rattle.std.proofs.Common.{◌≡◌, ℕ, ◌<◌, get_or, false}
use Rattle.netlist_meaning.specs.Flat.{class_of}
use Rattle.netlist_eval.specs.Eval.{class_bit}
use Rattle.netlist_eval.proofs.Valuations.{no_latch}
use Rattle.netlist_eval.proofs.settle.read_state.Given as goal

abbrev pub invariant-loop-k : goal.invariant-loop-k
invariant-loop-k l = (i : ℕ) → i < l.k → get_or l.state i false ≡ class_bit l.bits (class_of l.flat (get_or l.flat.latches i no_latch).input)

use Rattle.std.proofs.Common.{ℕ, ◌<◌, get_or, [], take, length}
use Rattle.gate_laws.specs.declared.window.TheConstants.{CHOICES}
use Rattle.gate_laws.specs.Gates.{AnswersInTime}
use Rattle.gate_laws.specs.Drawings.{window_gate}
use Rattle.gate_laws.proofs.window.always_in_time.Given as goal

abbrev pub invariant-loop-choice : goal.invariant-loop-choice
invariant-loop-choice l =
    (k : ℕ) → k < l.choice-index → AnswersInTime (window_gate l.base l.width l.ins l.outs l.time) (take (length l.ins) (get_or CHOICES k []))

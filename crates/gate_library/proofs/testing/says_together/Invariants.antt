use Rattle.std.proofs.Common.{ℕ, ◌<◌, ◌≡◌, get_or, [], take}
use Rattle.lists.specs.Items.{flag_at}
use Rattle.gate_laws.specs.Drawings.{number_of_bits}
use Rattle.gate_laws.specs.declared.window.TheConstants.{CHOICES}
use Rattle.gate_library.specs.Lawful.{answer_bit}
use Rattle.gate_library.proofs.testing.says_together.Given as goal

abbrev pub invariant-loop-choice : goal.invariant-loop-choice
invariant-loop-choice l =
    (k : ℕ) → k < l.choice-index → flag_at l.out.table (number_of_bits (take l.count (get_or CHOICES k []))) ≡ answer_bit (take l.count (get_or CHOICES k [])) l.answer

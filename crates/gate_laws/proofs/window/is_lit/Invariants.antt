use Rattle.std.proofs.Common.{ℕ, ◌<◌, ◌≡◌, false}
use Rattle.lists.specs.Items.{flag_at}
use Rattle.gate_laws.specs.Drawings.{in_at}
use Rattle.gate_laws.proofs.Lit.{is_lit_there}
use Rattle.gate_laws.proofs.window.is_lit.Given as goal

abbrev pub invariant-loop-i : goal.invariant-loop-i
invariant-loop-i l = (k : ℕ) → k < l.i → is_lit_there (in_at l.ins k) (flag_at l.bits k) l.generation l.x l.y ≡ false

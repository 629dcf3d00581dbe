-- What a latch holds in a cycle of a run.
use Rattle.std.proofs.Common.{ℕ, zero, suc, ◌≡◌, ap, Bool, ◌==◌}
use Rattle.std.specs.Prelude.{Some}
use Rattle.netlist_core.specs.declared.model.LatchRow.{LatchRow}
use Rattle.netlist_core.specs.declared.model.Design.{Design}
use Rattle.netlist_meaning.specs.Places.{Place, latch_at}
use Rattle.netlist_meaning.specs.Valuation.{Valuation, start_bit, start_state, data_bit, latches_in}

abbrev pub held : (ℕ → Valuation) → Place → LatchRow → ℕ → Bool
held run place latch zero = latch.init == 1
held run place latch (suc t) = run t place latch.input

-- whatever its number is
pub held_by : (design : Design) (run : ℕ → Valuation) (t : ℕ) (place : Place) (number : ℕ) (latch : LatchRow) → latch_at design place number ≡ Some latch → latches_in design (start_state design) run t place number ≡ held run place latch t
held_by design run zero place number latch at = ap start_bit at
held_by design run (suc t) place number latch at = ap (data_bit (run t place)) at

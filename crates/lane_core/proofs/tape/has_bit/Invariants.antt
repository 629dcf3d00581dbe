use Rattle.std.proofs.Common.{◌≡◌, ℕ, ◌<◌, false, map}
use Rattle.std.specs.Prelude.{slice_get, unwrap_or}
use Rattle.lane_core.proofs.TapeBits.{is_bit_of}
use Rattle.lane_core.proofs.tape.has_bit.Given as goal

abbrev pub invariant-loop-i : goal.invariant-loop-i
invariant-loop-i l = (k : ℕ) → k < l.i → is_bit_of l.ins (map (λ bits. unwrap_or (slice_get bits l.cycle) false) l.tape) l.lane k ≡ false

use Rattle.std.proofs.Common.{◌≡◌, ◌-◌, ◌++◌, false, length, get_or}
use Rattle.circuit_plans.specs.Circuits.{starts_from, starts_where}
use Rattle.circuit_plans.proofs.loops.starts_of_bits.Given as goal

-- the starts so far, and those of the loops that are left
abbrev pub invariant-loop-number : goal.invariant-loop-number
invariant-loop-number l =
    l.found.items ++ starts_from l.lanes (length l.bits) (λ loop. get_or l.bits loop false) (length l.bits - l.number) l.number
    ≡ starts_where l.lanes (length l.bits) (λ loop. get_or l.bits loop false)

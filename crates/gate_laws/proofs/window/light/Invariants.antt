use Rattle.std.proofs.Common.{◌≡◌, ℕ, pos, ◌/◌, ◌%◌, ◌<◌, get_or, map, cond}
use Rattle.ww_rule.specs.declared.pattern.State.TheVariants.{Empty}
use Rattle.gate_laws.specs.Gates.{is_lit_input}
use Rattle.gate_laws.specs.Drawings.{in_port_of}
use Rattle.ww_rule.specs.declared.pattern.State.TheVariants.{Head}
use Rattle.gate_laws.proofs.window.light.Given as goal

abbrev pub invariant-loop-i : goal.invariant-loop-i
invariant-loop-i l =
    (k : ℕ) → k < l.i → get_or l.cells k Empty ≡ cond (is_lit_input (map in_port_of l.ins) l.bits l.generation (pos (k % l.width)) (pos (k / l.width))) Head (get_or l.from k Empty)

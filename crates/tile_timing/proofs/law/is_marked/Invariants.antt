use Rattle.std.proofs.Common.{◌≡◌, ℕ, pos, ◌/◌, ◌%◌, ◌<◌, get_or, map}
use Rattle.ww_rule.specs.declared.pattern.State.TheVariants.{Empty}
use Rattle.tile_core.specs.Interface.{cell_at, chosen}
use Rattle.tile_timing.specs.Law.{drawing_of, marked}
use Rattle.tile_timing.proofs.law.is_marked.Given as goal

abbrev pub invariant-loop-i : goal.invariant-loop-i
invariant-loop-i l =
    (k : ℕ) → k < l.i → get_or l.cells k Empty ≡ marked (drawing_of l.base) (chosen (map cell_at l.ports) l.bits) l.fn.mark (pos (k % 32)) (pos (k / 32))

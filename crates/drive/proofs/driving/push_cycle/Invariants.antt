use Rattle.std.proofs.Common.{◌≡◌, ◌*◌, ◌++◌, map, take, drop, length}
use Rattle.std.specs.List.{range_with_len}
use Rattle.ww_rule.specs.Injections.{injections_from}
use Rattle.pattern_reading.specs.Ports.{cells_of}
use Rattle.drive.proofs.driving.push_cycle.Given as goal

abbrev pub invariant-loop-context : goal.invariant-loop-context
invariant-loop-context l =
    l.due.items ≡ l.fn.due.items ++ injections_from l.generation 32 (cells_of l.inputs)
    (map (λ context. take (length l.inputs) (drop (context * length l.inputs) l.bits)) (range_with_len 0 l.context))

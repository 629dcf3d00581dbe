use Rattle.std.proofs.Common.{◌≡◌, flat_map}
use Rattle.std.specs.List.{range_with_len}
use Rattle.blifww_tool.specs.Driven.{names_in_context}
use Rattle.blifww_tool.proofs.driven.names_in_contexts.Given as goal

abbrev pub invariant-loop-context : goal.invariant-loop-context
invariant-loop-context l = l.names.items ≡ flat_map (names_in_context l.contexts l.ports) (range_with_len 0 l.context)

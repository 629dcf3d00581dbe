use Rattle.std.proofs.Common.{◌≡◌, map}
use Rattle.std.specs.List.{range_with_len}
use Rattle.streams.specs.Cuts.{with_context}
use Rattle.blifww_tool.proofs.probe.names_in_contexts.Given as goal

abbrev pub invariant-loop-context : goal.invariant-loop-context
invariant-loop-context l = l.names.items ≡ map (λ context. with_context l.contexts context l.name) (range_with_len 0 l.context)

use Rattle.std.proofs.Common.{◌≡◌, ◌++◌, take}
use Rattle.blifww_tool.specs.Driven.{names_in_context}
use Rattle.blifww_tool.proofs.driven.push_names.Given as goal

abbrev pub invariant-loop-port : goal.invariant-loop-port
invariant-loop-port l = l.names.items ≡ l.fn.names.items ++ names_in_context l.contexts (take l.port-index l.ports) l.context

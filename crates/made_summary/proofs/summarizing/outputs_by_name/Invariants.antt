use Rattle.std.proofs.Common.{◌≡◌, map}
use Rattle.std.specs.List.{range_with_len}
use Rattle.made_summary.specs.Summaries.{output_at}
use Rattle.made_summary.proofs.summarizing.outputs_by_name.Given as goal

abbrev pub invariant-loop-k : goal.invariant-loop-k
invariant-loop-k l = l.outputs.items ≡ map (output_at l.names l.simulated l.evaluated) (range_with_len 0 l.k)

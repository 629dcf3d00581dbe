use Rattle.std.proofs.Common.{Bool, List, [], slice_get, unwrap_or, false, arith, ◌∙◌}
use Rattle.netlist_eval.proofs.Rows.{map_told}
use Rattle.netlist_run.proofs.running.put_column.Goals as goal

pub returns : goal.returns
returns c =
    map_told (λ (bits : List Bool). unwrap_or (slice_get bits c.args.place) false) c.args.lists.now [] c.loop-k.row (c.loop-k.auto.row ∙ c.requires.many)
    (λ k l. c.loop-k.invariant k (omega (arith, l, c.loop-k-test.false)))

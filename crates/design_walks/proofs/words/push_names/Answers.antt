use Rattle.std.proofs.Common.{ap, arith}
use Rattle.lists.proofs.Cuts.{added_more}
use Rattle.netlist_core.specs.Names.{at_line}
use Rattle.design_walks.specs.Words.{as_ports}
use Rattle.design_walks.proofs.words.push_names.Goals as goal

pub loop-name-preserved : goal.loop-name-preserved
loop-name-preserved c =
    let name = c.name-item.result in
    added_more (at_line c.args.line) (as_ports c.args.words.now.items) (as_ports c.loop-name.words.items) (as_ports c.push_name.new.words.items) c.args.names.now c.loop-name.name-index name (at_line c.args.line name) (omega arith)
    c.in_ok-push_name.ensures (ap (at_line c.args.line) c.name-item.is) c.loop-name.invariant

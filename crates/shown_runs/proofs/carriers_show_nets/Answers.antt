use Rattle.shown_runs.proofs.ShownNets.{carriers_show_nets, carriers_show_nets_in_contexts}
use Rattle.shown_runs.proofs.carriers_show_nets.Goals as goal

pub returns-clause-contexts : goal.returns-clause-contexts
returns-clause-contexts c = carriers_show_nets_in_contexts

pub returns-clause-one : goal.returns-clause-one
returns-clause-one c = carriers_show_nets

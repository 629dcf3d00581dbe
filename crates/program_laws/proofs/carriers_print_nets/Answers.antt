use Rattle.program_laws.proofs.PrintsNet.{carriers_print_nets}
use Rattle.program_laws.proofs.PrintsNetInContexts.{carriers_print_nets_in_contexts, compiled_print_nets}
use Rattle.program_laws.proofs.carriers_print_nets.Goals as goal

pub returns-clause-one : goal.returns-clause-one
returns-clause-one c = carriers_print_nets c.carriers_show_nets.ensures.one c.carriers_show_runs.ensures c.streams_match.ensures.table

pub returns-clause-contexts : goal.returns-clause-contexts
returns-clause-contexts c =
    carriers_print_nets_in_contexts c.carriers_show_nets.ensures.contexts c.carriers_show_contexts.ensures c.streams_match.ensures.table

pub returns-clause-compiled : goal.returns-clause-compiled
returns-clause-compiled c = compiled_print_nets c.carriers_show_nets.ensures.contexts c.carriers_show_contexts.ensures c.streams_match.ensures.table

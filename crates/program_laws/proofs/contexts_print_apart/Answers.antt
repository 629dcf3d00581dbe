use Rattle.program_laws.proofs.Isolated.{compiled_print_apart, contexts_print_apart, nets_print_apart}
use Rattle.program_laws.proofs.contexts_print_apart.Goals as goal

pub returns-clause-outputs : goal.returns-clause-outputs
returns-clause-outputs c = contexts_print_apart c.carriers_show_contexts.ensures c.streams_match.ensures.table

pub returns-clause-nets : goal.returns-clause-nets
returns-clause-nets c = nets_print_apart c.nets_have_their_bits.ensures c.carriers_show_nets.ensures.contexts c.carriers_show_contexts.ensures c.streams_match.ensures.table

pub returns-clause-compiled : goal.returns-clause-compiled
returns-clause-compiled c = compiled_print_apart c.nets_have_their_bits.ensures c.carriers_show_nets.ensures.contexts c.carriers_show_contexts.ensures c.streams_match.ensures.table

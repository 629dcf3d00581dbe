use Rattle.program_laws.proofs.DumpsNets.{carriers_dump_nets, compiled_dump_nets}
use Rattle.program_laws.proofs.carriers_dump_nets.Goals as goal

pub returns-clause-carriers : goal.returns-clause-carriers
returns-clause-carriers c = carriers_dump_nets c.nets_have_their_bits.ensures c.carriers_show_contexts.ensures c.streams_match.ensures.table

pub returns-clause-compiled : goal.returns-clause-compiled
returns-clause-compiled c = compiled_dump_nets c.nets_have_their_bits.ensures c.carriers_show_contexts.ensures c.streams_match.ensures.table

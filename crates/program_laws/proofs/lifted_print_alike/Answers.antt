use Rattle.program_laws.proofs.LiftsBack.{lifted_in_one_way, lifted_print_alike}
use Rattle.program_laws.proofs.lifted_print_alike.Goals as goal

pub returns-clause-alike : goal.returns-clause-alike
returns-clause-alike c = lifted_print_alike c.carriers_show_runs.ensures c.streams_match.ensures.one

pub returns-clause-one_way : goal.returns-clause-one_way
returns-clause-one_way c = lifted_in_one_way c.draws_one_plan.ensures

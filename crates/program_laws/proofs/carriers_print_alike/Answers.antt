use Rattle.program_laws.proofs.PrintsAlike.{carriers_print_alike, compiled_print_alike}
use Rattle.program_laws.proofs.carriers_print_alike.Goals as goal

pub returns-clause-carriers : goal.returns-clause-carriers
returns-clause-carriers c = carriers_print_alike c.carriers_show_runs.ensures c.streams_match.ensures.one c.texts_are_decided.ensures

pub returns-clause-compiled : goal.returns-clause-compiled
returns-clause-compiled c = compiled_print_alike c.carriers_show_runs.ensures c.streams_match.ensures.one c.texts_are_decided.ensures

use Rattle.program_laws.proofs.OneAnswer.{probe_prints_one, simulate_prints_one, vcd_prints_one, window_prints_one}
use Rattle.program_laws.proofs.driven_print_one_answer.Goals as goal

pub returns-clause-simulate : goal.returns-clause-simulate
returns-clause-simulate c = simulate_prints_one

pub returns-clause-probe : goal.returns-clause-probe
returns-clause-probe c = probe_prints_one

pub returns-clause-window : goal.returns-clause-window
returns-clause-window c = window_prints_one

pub returns-clause-vcd : goal.returns-clause-vcd
returns-clause-vcd c = vcd_prints_one

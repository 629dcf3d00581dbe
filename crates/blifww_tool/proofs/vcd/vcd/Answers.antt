use Rattle.std.proofs.Common.{map, string_bytes}
use Rattle.std.proofs.lemmas.Result.{err_from_is_err_and}
use Rattle.port_table.proofs.SoundTable.{sound_table}
use Rattle.vcd_write.proofs.Alike.{same_waves_are_written_alike}
use Rattle.blifww_tool.specs.Dumping.{waves_of}
use Rattle.blifww_tool.specs.Driven.{simulation_of}
use Rattle.blifww_tool.specs.Simulation.{Simulation}
use Rattle.blifww_tool.proofs.Dumped.{dump_refused, run_refused}
use Rattle.blifww_tool.proofs.vcd.vcd.Goals as goal

pub returns-in_err-driven-clause-refused : goal.returns-in_err-driven-clause-refused
returns-in_err-driven-clause-refused c =
    let p = err_from_is_err_and c.from_residual.result c.from_residual.ensures.1 in
    rw (p.1, p.2) (dump_refused c.args.cycles (map string_bytes c.args.words.now) c.args.text.now c.in_err-driven.field-0.0 c.in_err-driven.ensures.refused)

pub returns-in_err-waves-clause-refused : goal.returns-in_err-waves-clause-refused
returns-in_err-waves-clause-refused c =
    let p = err_from_is_err_and c.from_residual-in_err-waves.result c.from_residual-in_err-waves.ensures.1 in
    let s : Simulation = simulation_of c.in_ok-driven.driven in
    rw (p.1, p.2) (run_refused c.args.cycles (map string_bytes c.args.words.now) c.args.text.now s c.in_err-waves.field-0.0 c.in_ok-driven.ensures.is c.in_err-waves.ensures.refused)

pub returns-clause-printed : goal.returns-clause-printed
returns-clause-printed c =
    let s : Simulation = simulation_of c.in_ok-driven.driven in
    let is = c.in_ok-driven.ensures.is in
    record {
      simulation = s;
      runs = record { is = is; near = c.in_ok-waves.ensures.near; quiet = c.in_ok-waves.ensures.quiet };
      written = same_waves_are_written_alike _ (waves_of s) c.in_ok-waves.ensures.waves;
      says = c.in_ok-waves.ensures.says (sound_table c.args.text.now s.grid.width s.grid.height s.ports is.table);
    }

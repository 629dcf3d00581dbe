use Rattle.std.proofs.Common.{◌∙◌, ap}
use Rattle.blifww_tool.specs.Probing.{net_text}
use Rattle.blifww_tool.specs.Driven.{simulation_in}
use Rattle.blifww_tool.proofs.Probed.{probe_refused}
use Rattle.blifww_tool.proofs.probe.shown.Goals as goal

pub returns-in_ok-net_lines-in-Ok-clause-printed : goal.returns-in_ok-net_lines-in-Ok-clause-printed
returns-in_ok-net_lines-in-Ok-clause-printed c = λ cycles words text is. record {
  bits = c.in-Ok.bits;
  probes = record { simulation = simulation_in c.args.pattern c.args.ports.now c.args.streams.now; is = is; probed = c.in-Ok.ensures.bits };
  lines = c.in_ok-net_lines-in-Ok.ensures ∙ ap (net_text c.args.ports.now.c c.args.name.now) c.as_slice.ensures;
}

pub returns-in-Err-clause-refused : goal.returns-in-Err-clause-refused
returns-in-Err-clause-refused c = λ cycles words text is.
    probe_refused cycles c.args.name.now c.args.path.now words text (simulation_in c.args.pattern c.args.ports.now c.args.streams.now) c.in-Err.error c.refusal.result is c.in-Err.ensures.refused c.refusal.ensures

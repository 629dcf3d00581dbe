use Rattle.std.proofs.Common.{ap, ◌∙◌, List, Bool, flat_map, zip}
use Rattle.std.specs.List.{range_with_len}
use Rattle.std.proofs.lemmas.Result.{err_from_is_err_and}
use Rattle.ww_rule.specs.Grid.{plane_of}
use Rattle.streams.specs.Cuts.{with_context}
use Rattle.pattern_reading.specs.declared.ports.PortLine.{PortLine}
use Rattle.drive.specs.Driving.{shown_at}
use Rattle.blifww_tool.specs.Simulation.{Simulation}
use Rattle.blifww_tool.specs.Driven.{names_in_context, simulation_in}
use Rattle.blifww_tool.proofs.OutputLines.{line, lines_in_contexts}
use Rattle.blifww_tool.proofs.Simulated.{time_refused}
use Rattle.blifww_tool.proofs.simulate.shown.Goals as goal

pub returns-in_err-bits-clause-refused : goal.returns-in_err-bits-clause-refused
returns-in_err-bits-clause-refused c =
    let p = err_from_is_err_and c.from_residual.result c.from_residual.ensures.1 in
    let s : Simulation = simulation_in c.args.pattern c.args.ports.now c.args.streams.now in
    rw (p.1, p.2) (λ cycles words text is. time_refused cycles words text s c.in_err-bits.field-0.0 is c.in_err-bits.ensures.refused)

pub returns-clause-printed : goal.returns-clause-printed
returns-clause-printed c = λ cycles words text is.
    let s : Simulation = simulation_in c.args.pattern c.args.ports.now c.args.streams.now in (
      s,
      record { is = is; near = c.in_ok-bits.ensures.near; quiet = c.in_ok-bits.ensures.quiet },
      c.in_ok-lines.ensures
          ∙ ap (λ (bits : List (List Bool)). flat_map line (zip (flat_map (names_in_context s.ports.c s.ports.outs) (range_with_len 0 s.ports.c)) bits)) (c.as_slice.ensures ∙ c.in_ok-bits.ensures.bits)
          ∙ lines_in_contexts (λ context (p : PortLine). with_context s.ports.c context p.name) (shown_at s.ports s.streams (plane_of s.grid.rows)) s.ports.outs (range_with_len 0 s.ports.c),
    )

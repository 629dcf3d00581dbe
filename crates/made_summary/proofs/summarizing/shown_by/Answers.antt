use Rattle.std.proofs.Common.{subst, sym, ap, ◌∙◌}
use Rattle.ww_rule.specs.Grid.{Grid, AreInBox, plane_of}
use Rattle.pattern_reading.specs.Ports.{cells_of}
use Rattle.std.proofs.lemmas.Option.{none-some}
use Rattle.drive.specs.Driving.{HasSimulateCause, first_miss, last_generation, shown_bits}
use Rattle.made_summary.proofs.summarizing.shown_by.Goals as goal

pub pattern_of-requires : goal.pattern_of-requires
pattern_of-requires c = c.requires.admissible

pub simulate-requires-clause-in_box : goal.simulate-requires-clause-in_box
simulate-requires-clause-in_box c =
    subst (λ (grid : Grid). AreInBox grid.width grid.height (cells_of c.args.planned.now.ports.ins)) (sym c.in-Ok.ensures) c.requires.in_box

pub unreachable-requires : goal.unreachable-requires
unreachable-requires c =
    let ports = c.args.planned.now.ports in
    let streams = c.args.streams.now in
    let g = last_generation ports streams in
    let cause = subst (HasSimulateCause ports streams (plane_of c.in-Ok.pattern.rows) g) c.in-Err-NotQuiet.field-0-is c.in-Err-NotQuiet.ensures.refused in
    none-some _ (sym c.requires.quiet ∙ ap (λ (grid : Grid). first_miss ports streams (plane_of grid.rows) g) (sym c.in-Ok.ensures) ∙ cause.1)

pub returns-in-Ok-simulate-clause-bits : goal.returns-in-Ok-simulate-clause-bits
returns-in-Ok-simulate-clause-bits c =
    c.in-Ok-simulate.ensures.bits ∙ ap (λ (grid : Grid). shown_bits c.args.planned.now.ports c.args.streams.now (plane_of grid.rows)) c.in-Ok.ensures

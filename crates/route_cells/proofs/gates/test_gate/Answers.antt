use Rattle.std.proofs.Common.{◌∙◌, sym, subst}
use Rattle.gate_library.specs.Lawful.{IsLawful}
use Rattle.route_cells.proofs.Sources.{has_port_sources}
use Rattle.route_cells.proofs.gates.test_gate.Goals as goal

pub returns-clause-sources : goal.returns-clause-sources
returns-clause-sources c =
    has_port_sources c.args.t.now c.args.period c.args.k c.in-Some.gate.now c.drawing-drawing.result.now
    (c.in-Some.ensures).1 (c.drawing-drawing.ensures.is ∙ c.in-Some-kind.ensures) (subst IsLawful (sym c.drawing-drawing.ensures.is) c.drawing-drawing.ensures.lawful)
    (record {
      in_time = c.fits_period.ensures c.if-not-fits_period.false;
      ins = c.is_answered.ensures.ins c.if-not-is_answered.false;
      outs = c.is_answered.ensures.outs c.if-not-is_answered.false;
      answers = c.is_answered.ensures.answers c.if-not-is_answered.false;
    })

use Rattle.std.proofs.Common.{◌∙◌, sym, arith}
use Rattle.route_cells.proofs.cells.fits.Goals as goal

pub returns : goal.returns
returns c = λ t.
    record {
      contexts = omega arith;
      ins = omega arith;
      outs = omega arith;
      nets = omega arith;
      plain = sym c.names_one.ensures ∙ c.if-names_one.false;
      few_cells = omega arith;
      few_latches = omega arith;
    }

use Rattle.std.proofs.Common.{arith}
use Rattle.route_cells.proofs.cells.test_all.Goals as goal

pub returns : goal.returns
returns c = (
  record {
    long = c.requires.long;
    cells = c.in_ok-test_cells.ensures;
    computes = record {
      in_time = c.in_ok-test_gates.ensures.in_time;
      sources = c.in_ok-test_gates.ensures.sources;
      delays = λ w low. (c.in_ok-test_wires.ensures w low).0;
      starts = λ w low. (c.in_ok-test_wires.ensures w low).1;
    };
    ports_are = c.in_ok-test_lines.ensures;
  },
  omega arith,
  c.fits.ensures c.if-not-fits.false,
)

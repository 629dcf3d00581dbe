use Rattle.gate_library.proofs.Tested.{kept_together}
use Rattle.gate_library.proofs.testing.keeps_together.Goals as goal

pub returns : goal.returns
returns c = λ t.
    kept_together c.args.d.now c.as_slice-cells.result.now c.as_slice-ins.result.now c.as_slice-outs.result.now c.as_slice-cells.ensures c.as_slice-ins.ensures c.as_slice-outs.ensures (c.keeps_law.ensures t)

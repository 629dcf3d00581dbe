use Rattle.std.proofs.Common.{arith}
use Rattle.gate_library.proofs.Tested.{lawful}
use Rattle.gate_library.proofs.testing.is_lawful.Goals as goal

pub returns : goal.returns
returns c = λ t.
    lawful c.args.d.now c.as_slice-ins.result.now c.as_slice-outs.result.now c.as_slice-answers.result.now c.as_slice-ins.ensures c.as_slice-outs.ensures c.as_slice-answers.ensures (omega arith) (c.keeps_its_law.ensures c.if-not-keeps_its_law.false) (c.are_in_own_cells.ensures c.if-not-are_in_own_cells.false) (c.all_say.ensures t)

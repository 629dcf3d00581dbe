use Rattle.std.proofs.Common.{arith}
use Rattle.model_words.specs.Placed.{AreNamesOfPorts}
use Rattle.model_words.proofs.NumberedPorts.{zipped_more}
use Rattle.model_words.proofs.placed.ports_of.Goals as goal

pub loop-model-preserved : goal.loop-model-preserved
loop-model-preserved c =
    zipped_more AreNamesOfPorts c.loop-model.ports.items c.push.new.self.items c.args.models.now c.loop-model.model-index c.in_ok-of.field-0 c.model-item.result (omega arith) c.model-item.is
    c.in_ok-push.ensures.items
    c.loop-model.invariant
    c.in_ok-of.ensures

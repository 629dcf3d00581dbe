use Rattle.std.proofs.Common.{arith}
use Rattle.netlist_rules.specs.Drivers.{latch_readings}
use Rattle.model_words.specs.Words.{word_ports}
use Rattle.net_faults.proofs.Pushed.{flat_more}
use Rattle.net_faults.proofs.readings.push_latches.Goals as goal

pub loop-latch-preserved : goal.loop-latch-preserved
loop-latch-preserved c =
    flat_more latch_readings (word_ports c.args.words.now.items) (word_ports c.loop-latch.words.items) (word_ports c.push_latch_inputs.new.words.items) c.args.latches.now c.loop-latch.latch-index c.latch-item.result (omega arith) c.latch-item.is
    c.loop-latch.invariant c.in_ok-push_latch_inputs.ensures

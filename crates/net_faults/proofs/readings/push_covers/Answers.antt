use Rattle.std.proofs.Common.{arith}
use Rattle.netlist_rules.specs.Drivers.{cover_readings}
use Rattle.model_words.specs.Words.{word_ports}
use Rattle.net_faults.proofs.Pushed.{flat_more}
use Rattle.net_faults.proofs.readings.push_covers.Goals as goal

pub loop-cover-preserved : goal.loop-cover-preserved
loop-cover-preserved c =
    flat_more cover_readings (word_ports c.args.words.now.items) (word_ports c.loop-cover.words.items) (word_ports c.push_cover_inputs.new.words.items) c.args.covers.now c.loop-cover.cover-index c.cover-item.result (omega arith) c.cover-item.is
    c.loop-cover.invariant c.in_ok-push_cover_inputs.ensures

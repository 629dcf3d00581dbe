use Rattle.std.proofs.Common.{◌∙◌, ap, arith}
use Rattle.model_words.specs.Words.{earliest_word, earliest_after}
use Rattle.pin_faults.specs.NotNamed.{port_unless}
use Rattle.lists.specs.Names.{holds_name}
use Rattle.model_words.proofs.OfferedWords.{filtered_more}
use Rattle.pin_faults.proofs.OfferedWords.{port_offered}
use Rattle.pin_faults.proofs.missing.offer_others.Goals as goal

pub loop-port-preserved : goal.loop-port-preserved
loop-port-preserved c =
    let was = earliest_word c.loop-port.earliest in
    filtered_more (port_unless (holds_name c.args.names.now)) c.args.ports.now c.loop-port.port-index c.port-item.result (earliest_word c.args.earliest.now) was (earliest_word c.offer_if.new.earliest) (omega arith) c.port-item.is c.loop-port.invariant
    (c.offer_if.ensures ∙ ap (earliest_after was) (port_offered c.args.names.now c.port-item.result c.as_slice.result.now c.contains.result c.contains.ensures c.as_slice.ensures))

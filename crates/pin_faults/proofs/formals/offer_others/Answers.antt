use Rattle.std.proofs.Common.{◌∙◌, ap, arith}
use Rattle.model_words.specs.Words.{earliest_word, earliest_after}
use Rattle.model_words.specs.Placed.{has_port}
use Rattle.pin_faults.specs.NotNamed.{formal_unless}
use Rattle.model_words.proofs.OfferedWords.{filtered_more}
use Rattle.pin_faults.proofs.OfferedWords.{formal_offered}
use Rattle.pin_faults.proofs.formals.offer_others.Goals as goal

pub loop-pin-preserved : goal.loop-pin-preserved
loop-pin-preserved c = λ model knows.
    let was = earliest_word c.loop-pin.earliest in
    filtered_more (formal_unless (λ name. has_port name model) c.args.line.now.line) c.as_slice-pin-items.result.now c.loop-pin.pin-index c.pin-item.result (earliest_word c.args.earliest.now) was (earliest_word c.offer_if.new.earliest) (omega arith) c.pin-item.is (c.loop-pin.invariant model knows)
    (c.offer_if.ensures ∙ ap (earliest_after was) (formal_offered (λ name. has_port name model) c.args.line.now.line c.pin-item.result c.as_slice.result.now c.has_port.result (c.has_port.ensures model knows) c.as_slice.ensures))

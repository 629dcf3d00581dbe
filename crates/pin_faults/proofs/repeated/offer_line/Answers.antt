use Rattle.std.proofs.Common.{arith}
use Rattle.model_words.specs.Words.{earliest_word}
use Rattle.pin_faults.proofs.NamesAdded.{formal_added}
use Rattle.pin_faults.proofs.Repeats.{repeated_more}
use Rattle.pin_faults.proofs.repeated.offer_line.Goals as goal

pub loop-pin-preserved : goal.loop-pin-preserved
loop-pin-preserved c =
    let pins = c.as_slice-pin-items.result.now in
    record {
      names = formal_added c.loop-pin.seen c.insert.new.self c.as_slice.result c.args.line.now.line pins c.loop-pin.pin-index c.pin-item.result (omega arith) c.pin-item.is c.as_slice.ensures c.loop-pin.invariant.names c.in_ok-is_new.ensures.updates;
      words = repeated_more c.args.line.now.line (earliest_word c.args.earliest.now) (earliest_word c.loop-pin.earliest) (earliest_word c.offer_if.new.earliest) pins c.loop-pin.pin-index c.pin-item.result c.loop-pin.seen c.as_slice.result.now c.in_ok-is_new.is_new (omega arith) c.pin-item.is c.as_slice.ensures c.loop-pin.invariant.names c.in_ok-is_new.ensures.added c.loop-pin.invariant.words c.offer_if.ensures;
    }

use Rattle.std.proofs.Common.{ap, ◌∙◌, [], arith}
use Rattle.lists.proofs.Cuts.{added_more}
use Rattle.blif_text.specs.Models.{pin_of}
use Rattle.blif_reader.proofs.pins.pins_of.Goals as goal

pub loop-word-preserved : goal.loop-word-preserved
loop-word-preserved c =
    added_more pin_of [] c.loop-word.pins.items c.push.new.self.items c.args.words.now c.loop-word.word-index c.word-item.result c.in_ok-pin_of.field-0 (omega arith)
    c.in_ok-push.ensures.items (c.in_ok-pin_of.ensures ∙ ap pin_of (c.as_slice.ensures ∙ c.word-item.is)) c.loop-word.invariant

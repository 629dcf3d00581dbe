use Rattle.std.proofs.Common.{[], ◌∷◌, ◌++◌, ◌∙◌, Bool, List, ap₂, sym}
use Rattle.std.proofs.lemmas.List.{map_more}
use Rattle.start_words.specs.Flats.{flat_start_bit}
use Rattle.start_words.proofs.starts.Starts.in_context.Goals as goal

pub loop-latch-preserved : goal.loop-latch-preserved
loop-latch-preserved c = λ words are.
    c.in_ok-push.ensures.items
    ∙ ap₂ (λ (bits : List Bool) (bit : Bool). bits ++ bit ∷ []) (c.loop-latch.invariant words are) (c.bit.ensures words are)
    ∙ sym (map_more (flat_start_bit c.args.flat.now words c.args.context) c.as_slice-latches.result.now c.loop-latch.latch-index _ c.loop-latch-test.true)

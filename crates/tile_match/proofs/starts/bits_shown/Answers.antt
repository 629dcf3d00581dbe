use Rattle.std.proofs.Common.{sym, ◌∙◌, ap₂, ◌++◌, [], ◌∷◌, arith}
use Rattle.std.proofs.lemmas.List.FromFn.{map-range_with_len_more}
use Rattle.tile_match.specs.Blocks.{bit_shown}
use Rattle.tile_match.proofs.starts.bits_shown.Goals as goal

pub loop-number-preserved : goal.loop-number-preserved
loop-number-preserved c =
    c.in_ok-push.ensures.items
    ∙ ap₂ (λ xs x. xs ++ x ∷ []) c.loop-number.invariant c.bit_shown.ensures
    ∙ sym (map-range_with_len_more (bit_shown c.args.rows.now c.args.lanes c.args.loops) 0 c.loop-number.number c.loop-number.number (omega arith))

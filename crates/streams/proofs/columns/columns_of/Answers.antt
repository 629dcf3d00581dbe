use Rattle.std.proofs.Common.{◌++◌, ◌∷◌, [], ap, sym, ◌∙◌, map, arith, List, Bool}
use Rattle.std.specs.List.{range_with_len}
use Rattle.std.proofs.lemmas.List.FromFn.{map-range_with_len_more}
use Rattle.streams.specs.Rows.{bits_across}
use Rattle.streams.proofs.columns.columns_of.Goals as goal

pub loop-place-preserved : goal.loop-place-preserved
loop-place-preserved c =
    let place = c.loop-place.place in
    let column = bits_across c.args.lists.now in
    c.in_ok-push.ensures.items
    ∙ ap (λ (columns : List (List Bool)). columns ++ c.of.result ∷ []) c.loop-place.invariant
    ∙ ap (λ (last : List Bool). map column (range_with_len 0 place) ++ last ∷ []) (c.of.ensures ∙ c.in_ok-bits_across.ensures)
    ∙ sym (map-range_with_len_more column 0 place place (omega arith))

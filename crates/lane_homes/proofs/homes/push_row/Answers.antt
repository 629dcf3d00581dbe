use Rattle.std.proofs.Common.{sym, ◌∙◌, ap, ◌+◌, ◌++◌, ◌∷◌, [], map, arith}
use Rattle.std.specs.List.{range_with_len}
use Rattle.std.proofs.lemmas.List.{append_assoc}
use Rattle.std.proofs.lemmas.List.FromFn.{map-range_with_len_more}
use Rattle.lane_homes.proofs.homes.push_row.Goals as goal

pub loop-at-preserved : goal.loop-at-preserved
loop-at-preserved c =
    let old = c.args.lanes.now.items in
    let row = map (λ i. c.args.first + i) (range_with_len 0 c.loop-at.at) in (
      c.in_ok-push.ensures.items ∙ ap (λ xs. xs ++ (c.args.first + c.loop-at.at) ∷ []) c.loop-at.invariant.0
          ∙ append_assoc old row ((c.args.first + c.loop-at.at) ∷ []) ∙ ap (λ xs. old ++ xs) (sym (map-range_with_len_more (λ i. c.args.first + i) 0 c.loop-at.at c.loop-at.at (omega arith))),
      omega (arith, c.loop-at-test.true),
    )

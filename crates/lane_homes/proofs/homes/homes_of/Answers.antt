use Rattle.std.proofs.Common.{rules, ◌≡◌, ◌∙◌, ap, ◌+◌, ◌++◌, map, take, drop}
use Rattle.std.specs.List.{range_with_len}
use Rattle.lane_homes.proofs.Parts.{homes_above}
use Rattle.lane_homes.proofs.homes.homes_of.Goals as goal

pub returns : goal.returns
returns c =
    let upper = c.in_ok-upper.upper.items in
    let row = map (λ i. c.args.above + i) (range_with_len 0 c.args.loops) in
    let ins : c.extend_from_slice.new.self.items ≡ take c.args.inputs upper = search rules in
    let two : c.push_row.new.lanes.items ≡ take c.args.inputs upper ++ row = c.in_ok-push_row.ensures ∙ ap (λ xs. xs ++ row) ins in
    let dark : c.extend_from_slice-2.new.self.items ≡ c.push_row.new.lanes.items ++ drop c.args.inputs upper = search rules in
    homes_above c.args.above c.args.inputs c.args.loops c.args.is_dark upper c.extend_from_slice-2.new.self.items c.in_ok-upper.ensures.long c.in_ok-upper.ensures.apart
    (dark ∙ ap (λ xs. xs ++ drop c.args.inputs upper) two)

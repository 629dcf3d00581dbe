use Rattle.std.proofs.Common.{◌≡◌, ◌+◌, ◌-◌, ◌<◌, subst, ◌∙◌, get_or, arith}
use Rattle.lane_kernel.specs.Around.{next_word}
use Rattle.lane_kernel.proofs.lanes.next_four.Goals as goal

pub returns : goal.returns
returns c =
    let new = c.put_lanes.new.row in
    let word = next_word c.args.stride c.args.heads.now c.args.tails.now c.args.cells.now in
    record {
      long = c.put_lanes.ensures.long;
      inside = λ i ge lt.
          let j = c.args.j in
          let e : j + (i - j) ≡ i = omega (arith, ge) in
          let k : i - j < 4 = omega (arith, ge, lt) in
          subst (λ n. get_or new n 0 ≡ word n) e (c.put_lanes.ensures.here (i - j) k ∙ c.next_lanes-fired.ensures.each (i - j) k);
      outside = c.put_lanes.ensures.others;
    }

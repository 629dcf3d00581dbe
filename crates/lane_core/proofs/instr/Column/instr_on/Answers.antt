use Rattle.std.proofs.Common.{◌≡◌, ◌≤◌, ap, get_or, Some, None, arith}
use Rattle.lane_core.specs.Instrs.{lane_of, instr_on}
use Rattle.lane_core.proofs.Lookup.{instr_on-at, instr_on-past}
use Rattle.lane_core.proofs.instr.Column.instr_on.Goals as goal

pub returns-in_err-instr : goal.returns-in_err-instr
returns-in_err-instr c =
    let sorted = c.args.self.now.sorted_apart in
    let none : instr_on c.as_slice-instrs.result.now c.args.lane ≡ None =
    instr_on-past c.args.lane c.as_slice-instrs.result.now c.ending_above.result (rw c.as_slice-instrs.ensures sorted) c.ending_above.ensures.above (λ e h. absurd (omega (arith, c.in_err-instr.ensures.lookup.3))) in
    cc

pub returns-then-lane : goal.returns-then-lane
returns-then-lane c =
    let found = c.in_ok-instr.ensures.lookup in
    let high : lane_of c.in_ok-instr.field-0.now ≤ c.args.lane = omega arith in
    let on : instr_on c.as_slice-instrs.result.now c.args.lane ≡ Some c.in_ok-instr.field-0.now =
    instr_on-at c.args.lane c.as_slice-instrs.result.now c.ending_above.result c.in_ok-instr.field-0.now c.ending_above.ensures.above c.ending_above.ensures.others found.3.0 found.1 high in
    cc

pub returns-else-lane : goal.returns-else-lane
returns-else-lane c =
    let found = c.in_ok-instr.ensures.lookup in
    let sorted = c.args.self.now.sorted_apart in
    let none : instr_on c.as_slice-instrs.result.now c.args.lane ≡ None =
    instr_on-past c.args.lane c.as_slice-instrs.result.now c.ending_above.result (rw c.as_slice-instrs.ensures sorted) c.ending_above.ensures.above
    (λ e h. (let same : lane_of c.in_ok-instr.field-0.now ≡ lane_of (get_or c.as_slice-instrs.result.now c.ending_above.result e) = ap lane_of (found.3.1 e) in omega arith)) in
    cc

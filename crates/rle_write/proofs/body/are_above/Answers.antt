use Rattle.std.proofs.Common.{◌≡◌, ◌≤◌, ◌<◌, ◌+◌, ◌-◌, ℕ, ap, length, get_or, arith}
use Rattle.std.proofs.lemmas.List.{get_or_default}
use Rattle.lane_core.specs.declared.instr.Instr.TheVariants.{Swap}
use Rattle.lane_core.specs.Instrs.{lane_of}
use Rattle.lane_core.proofs.Lookup.{in_order}
use Rattle.rle_write.proofs.body.are_above.Goals as goal

pub returns-then-count-instrs : goal.returns-then-count-instrs
returns-then-count-instrs c = λ is k d from below.
    (let instrs = c.args.instrs.now in
    let last : ℕ = c.args.count - 1 in
    let inside : last < length instrs = omega (arith, c.if-count-instrs.true, c.if-count-eq0.false) in
    let order : lane_of (get_or instrs k d) + 1 ≤ lane_of (get_or instrs last d) + 1 =
    in_order instrs c.requires k last d (omega (arith, below)) inside in
    let same : lane_of (get_or instrs last d) ≡ lane_of (get_or instrs last (Swap 0)) = ap lane_of (get_or_default instrs last d (Swap 0) inside) in
    omega (arith, order, same, c.is_above.ensures.above is))

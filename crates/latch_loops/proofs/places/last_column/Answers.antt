use Rattle.std.proofs.Common.{◌≡◌, ◌∙◌, sym, ap, subst, ◌<◌, ◌+◌, ◌-◌, length, take, arith}
use Rattle.lane_core.specs.declared.instr.Instr.TheVariants.{Swap}
use Rattle.column_packer.specs.Numbers.{used_by}
use Rattle.column_packer.proofs.Numbers.{numbers_long}
use Rattle.latch_loops.proofs.Uses.{used_here, not_used_here}
use Rattle.latch_loops.proofs.places.last_column.Goals as goal

pub bounds-numbers-left : goal.bounds-numbers-left
bounds-numbers-left c =
    let long : length c.args.numbers.now ≡ length c.args.instrs.now = ap length c.requires.numbers ∙ numbers_long c.args.instrs.now in
    omega (arith, long, c.loop-left-test.true, c.loop-left.invariant.0, c.requires.known)

pub returns-then-is_on : goal.returns-then-is_on
returns-then-is_on c =
    let within : c.loop-left.left - 1 < length c.args.instrs.now = omega (arith, c.loop-left-test.true, c.loop-left.invariant.0, c.requires.known) in
    let back : c.loop-left.left ≡ (c.loop-left.left - 1) + 1 = omega (arith, c.loop-left-test.true) in
    used_here c.args.instrs.now c.args.numbers.now (c.loop-left.left - 1) c.args.lane (used_by (take (c.args.n + 1) c.args.instrs.now) c.args.lane) (Swap 0) c.requires.numbers within
    (subst (λ n. used_by (take n c.args.instrs.now) c.args.lane ≡ used_by (take (c.args.n + 1) c.args.instrs.now) c.args.lane) back c.loop-left.invariant.1)
    (sym c.is_on.ensures ∙ c.if-is_on.true)

pub loop-left-preserved : goal.loop-left-preserved
loop-left-preserved c =
    let within : c.loop-left.left - 1 < length c.args.instrs.now = omega (arith, c.loop-left-test.true, c.loop-left.invariant.0, c.requires.known) in
    let back : c.loop-left.left ≡ (c.loop-left.left - 1) + 1 = omega (arith, c.loop-left-test.true) in (
      omega (arith, c.loop-left.invariant.0),
      not_used_here c.args.instrs.now (c.loop-left.left - 1) c.args.lane (used_by (take (c.args.n + 1) c.args.instrs.now) c.args.lane) (Swap 0) within
          (subst (λ n. used_by (take n c.args.instrs.now) c.args.lane ≡ used_by (take (c.args.n + 1) c.args.instrs.now) c.args.lane) back c.loop-left.invariant.1)
          (sym c.is_on.ensures ∙ c.if-is_on.false),
    )

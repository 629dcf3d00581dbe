use Rattle.std.proofs.Common.{◌≡◌, ◌≢◌, ◌*◌, ◌/◌, ◌-◌, ◌+◌, sym, ◌∙◌, subst, pos, arith}
use Rattle.ww_rule.specs.declared.pattern.State.{State}
use Rattle.tile_library.specs.Drawings.{shipped_drawing}
use Rattle.tile_library.specs.RowRuns.{IsRowRun}
use Rattle.plan_layout.specs.Tape.{drawn_plane}
use Rattle.grid_assembly.specs.West.{tape_end}
use Rattle.grid_assembly.proofs.WestRuns.{some_tiles, next_of, head_run, end_run, long_run}
use Rattle.grid_assembly.proofs.west.wire_run.Goals as goal

pub returns-then-is_head_at : goal.returns-then-is_head_at
returns-then-is_head_at c =
    head_run c.args.plan.now c.args.y c.requires.wire.0 c.requires.wire.1 (some_tiles c.args.plan.now) c.args.x c.requires.west
    (sym c.is_head_at.ensures ∙ c.if-is_head_at.true)

pub returns-then-x-next : goal.returns-then-x-next
returns-then-x-next c =
    let plan = c.args.plan.now in
    subst (λ (state : State). IsRowRun (λ x. drawn_plane shipped_drawing plan (pos x) (pos c.args.y)) c.args.x (tape_end plan - c.args.x) (state, 1)) (sym c.end_of_wire.ensures)
    (end_run plan c.args.y c.requires.wire.0 c.requires.wire.1 (some_tiles plan) c.args.x c.next_cycle-next.result c.requires.west c.if-x-next.true)

pub returns-else-x-next : goal.returns-else-x-next
returns-else-x-next c =
    let plan = c.args.plan.now in
    let next : c.next_cycle-next.result ≡ next_of plan (c.args.x / 32) = c.next_cycle-next.ensures.exact in
    let other : c.args.x + 1 ≢ 32 * next_of plan (c.args.x / 32) = omega (arith, c.if-x-next.false, next) in
    long_run plan c.args.y c.requires.wire.0 c.requires.wire.1 (some_tiles plan) c.args.x c.min.result c.requires.west
    (sym c.is_head_at.ensures ∙ c.if-is_head_at.false) other
    (omega (arith, c.min.ensures, c.tape_end.ensures.exact)) (omega (arith, c.min.ensures, next))
    (omega (arith, c.min.ensures, c.tape_end.ensures.exact, c.requires.west, next, other))

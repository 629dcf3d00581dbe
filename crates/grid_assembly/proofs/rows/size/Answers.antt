use Rattle.std.proofs.Common.{rules, ◌≡◌, ◌+◌, ◌*◌, sym, subst}
use Rattle.ww_rule.specs.Grid.{IsEmptyOutside}
use Rattle.lane_core.specs.Plans.{size_of}
use Rattle.tile_library.specs.Drawings.{shipped_drawing}
use Rattle.plan_layout.specs.Tape.{drawn_plane}
use Rattle.grid_assembly.proofs.Boxed.{stays_in_box}
use Rattle.grid_assembly.proofs.rows.size.Goals as goal

pub returns-then-plan-eq0-clause-outside : goal.returns-then-plan-eq0-clause-outside
returns-then-plan-eq0-clause-outside c =
    let exact : (0, 0) ≡ size_of c.args.plan.now = search rules in
    subst (λ s. IsEmptyOutside s.0 s.1 (drawn_plane shipped_drawing c.args.plan.now)) (sym exact) (stays_in_box shipped_drawing c.args.plan.now c.requires)

pub returns-clause-outside : goal.returns-clause-outside
returns-clause-outside c =
    let exact : (32 * (c.tape_shift.result + (c.len.result + 2 * c.args.plan.now.latches)) + 1, 16 * (c.args.plan.now.lanes + c.args.plan.now.latches)) ≡ size_of c.args.plan.now = search rules in
    subst (λ s. IsEmptyOutside s.0 s.1 (drawn_plane shipped_drawing c.args.plan.now)) (sym exact) (stays_in_box shipped_drawing c.args.plan.now c.requires)

use Rattle.std.proofs.Common.{◌≡◌, ◌+◌, ◌*◌, ◌&&◌, Bool, false, ap, ◌∙◌, length, get_or, drop, List, arith, rules}
use Rattle.std.specs.Prelude.{nat_lt}
use Rattle.std.proofs.lemmas.List.{take_at}
use Rattle.tiling.specs.Tiling.Edge.{Beside, Above}
use Rattle.tiling.specs.MacroStep.{macro_step as next_edges}
use Rattle.macro_grid.specs.Edges.{edge_columns, edge_lanes, lit_of}
use Rattle.plan_layout.specs.Tape.{drawn_tiling}
use Rattle.macro_grid.proofs.Bits.{bits_read}
use Rattle.macro_grid.proofs.Steps.{beside_right, beside_below, above_right, above_below}
use Rattle.macro_grid.proofs.Planes.{drawn_after, steps_of}
use Rattle.macro_grid.proofs.step.macro_step.Goals as goal

pub returns-clause-step : goal.returns-clause-step
returns-clause-step c (Beside q l) =
    let bits = c.step_beside.new.bits in
    let lanes = c.new.inside.lanes in
    let height : lanes ≡ edge_lanes c.args.plan.now = search rules in
    let same : length bits ≡ c.new.inside.beside.len = search rules in
    let long : length bits ≡ edge_columns c.args.plan.now * lanes = search rules in
    ap (λ (v : List Bool). nat_lt l lanes && get_or v (q * lanes + l) false) (take_at bits (drop (length bits) c.new.inside.beside.items) c.new.inside.beside.len same)
    ∙ bits_read (edge_columns c.args.plan.now) lanes bits (λ x y. next_edges (drawn_tiling c.args.plan.now) (lit_of c.args.old.now) (Beside x y))
    long c.step_beside.ensures
    (λ x y far. beside_right c.args.plan.now c.requires.admissible (lit_of c.args.old.now) x y far)
    (λ x y far. beside_below c.args.plan.now c.requires.admissible (lit_of c.args.old.now) x y (omega arith)) q l
returns-clause-step c (Above q l) =
    let bits = c.step_above.new.bits in
    let lanes = c.new.inside.lanes in
    let height : lanes ≡ edge_lanes c.args.plan.now = search rules in
    let same : length bits ≡ c.new.inside.above.len = search rules in
    let long : length bits ≡ edge_columns c.args.plan.now * lanes = search rules in
    ap (λ (v : List Bool). nat_lt l lanes && get_or v (q * lanes + l) false) (take_at bits (drop (length bits) c.new.inside.above.items) c.new.inside.above.len same)
    ∙ bits_read (edge_columns c.args.plan.now) lanes bits (λ x y. next_edges (drawn_tiling c.args.plan.now) (lit_of c.args.old.now) (Above x y))
    long c.step_above.ensures
    (λ x y far. above_right c.args.plan.now c.requires.admissible (lit_of c.args.old.now) x y far)
    (λ x y far. above_below c.args.plan.now c.requires.admissible (lit_of c.args.old.now) x y (omega arith)) q l

pub returns-clause-plane : goal.returns-clause-plane
returns-clause-plane c = λ library law.
    drawn_after c.args.plan.now c.requires.admissible library law (lit_of c.args.old.now) _ (returns-clause-step c)

pub returns-clause-later : goal.returns-clause-later
returns-clause-later c = λ library law. steps_of c.args.plan.now c.requires.admissible library law (lit_of c.args.old.now)

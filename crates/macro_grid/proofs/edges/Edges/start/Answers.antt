use Rattle.std.proofs.Common.{◌≡◌, ◌≤◌, ◌^◌, ◌+◌, ◌*◌, ◌&&◌, Bool, false, ap, ◌∙◌, length, get_or, drop, List, arith, rules}
use Rattle.std.specs.Prelude.{nat_lt}
use Rattle.std.proofs.lemmas.List.{take_at}
use Rattle.std.proofs.Math.Nat.{mul-le-mul_right}
use Rattle.tiling.specs.Tiling.Edge.{Beside, Above}
use Rattle.plan_layout.specs.Tape.{drawn_edges}
use Rattle.macro_grid.specs.Edges.{edge_columns}
use Rattle.macro_grid.proofs.Bits.{bits_read}
use Rattle.macro_grid.proofs.Drawings.{dark_right, dark_below}
use Rattle.macro_grid.proofs.edges.Edges.start.Goals as goal

pub returns-clause-lit : goal.returns-clause-lit
returns-clause-lit c (Beside q l) =
    let bits = c.light_beside.new.bits in
    let lanes = c.edge_lanes-lanes.result in
    let same : length bits ≡ c.in_ok-beside.beside.len = search rules in
    let long : length bits ≡ edge_columns c.args.plan.now * lanes = search rules in
    ap (λ (v : List Bool). nat_lt l lanes && get_or v (q * lanes + l) false) (take_at bits (drop (length bits) c.in_ok-beside.beside.items) c.in_ok-beside.beside.len same)
    ∙ bits_read (edge_columns c.args.plan.now) lanes bits (λ x y. drawn_edges c.args.plan.now (Beside x y))
    long c.light_beside.ensures
    (λ x y far. dark_right c.args.plan.now c.requires.admissible c.requires.starts (Beside x y) far)
    (λ x y far. dark_below c.args.plan.now c.requires.admissible c.requires.starts (Beside x y) (omega arith)) q l
returns-clause-lit c (Above q l) =
    let bits = c.light_above.new.bits in
    let lanes = c.edge_lanes-lanes.result in
    let same : length bits ≡ c.in_ok-above.above.len = search rules in
    let long : length bits ≡ edge_columns c.args.plan.now * lanes = search rules in
    ap (λ (v : List Bool). nat_lt l lanes && get_or v (q * lanes + l) false) (take_at bits (drop (length bits) c.in_ok-above.above.items) c.in_ok-above.above.len same)
    ∙ bits_read (edge_columns c.args.plan.now) lanes bits (λ x y. drawn_edges c.args.plan.now (Above x y))
    long c.light_above.ensures
    (λ x y far. dark_right c.args.plan.now c.requires.admissible c.requires.starts (Above x y) far)
    (λ x y far. dark_below c.args.plan.now c.requires.admissible c.requires.starts (Above x y) (omega arith)) q l

pub light_beside-requires-clause-columns : goal.light_beside-requires-clause-columns
light_beside-requires-clause-columns c =
    let long : length c.deref_mut.result.now ≡ c.edge_columns.result * c.edge_lanes-lanes.result = search rules in
    let few : c.edge_columns.result * c.edge_lanes-lanes.result ≤ 2 ^ 57 * c.edge_lanes-lanes.result = mul-le-mul_right c.edge_lanes-lanes.result c.edge_columns.ensures.few in
    omega (arith, long, few)

pub light_above-requires-clause-columns : goal.light_above-requires-clause-columns
light_above-requires-clause-columns c =
    let long : length c.deref_mut-2.result.now ≡ c.edge_columns.result * c.edge_lanes-lanes.result = search rules in
    let few : c.edge_columns.result * c.edge_lanes-lanes.result ≤ 2 ^ 57 * c.edge_lanes-lanes.result = mul-le-mul_right c.edge_lanes-lanes.result c.edge_columns.ensures.few in
    omega (arith, long, few)

-- The cells of a plan's drawing, block by block.
use Rattle.std.proofs.Common.{pos, ◌==◌, ◌≡◌, refl, sym, ◌∙◌, ap, ℕ, ◌+◌, ◌-◌, ◌*◌, ◌/◌, ◌%◌, ◌<◌, Bool, true, false, cond, length, Some, None, arith}
use Rattle.ww_rule.specs.declared.pattern.State.TheVariants.{Empty, Head, Tail, Conductor}
use Rattle.tile_core.specs.declared.kind.Kind.{Kind}
use Rattle.tile_core.specs.declared.kind.Kind.TheVariants as kind
use Rattle.tile_core.specs.Drawing.{is_cell_of}
use Rattle.tile_library.specs.Drawings.{shipped_drawing}
use Rattle.tiling.specs.Tiling.{Lit, drawn_slot, drawn_piece, heads_of, tails_of, interface_of}
use Rattle.tiling.specs.Tiling.Piece.{Tile}
use Rattle.tiling.specs.Tiling.Slot.{Upper, Lower}
use Rattle.std.proofs.lemmas.Bool.Decides.{nat_tests}
use Rattle.lane_core.specs.declared.instr.Instr.{Instr}
use Rattle.lane_core.specs.declared.instr.Instr.TheVariants.{Swap, Fork, Xor, Or, AndNot}
use Rattle.lane_core.specs.declared.plan.Plan.{Plan}
use Rattle.circuit_plans.specs.Circuits.{IsCircuit}
use Rattle.lane_core.specs.Instrs.{lane_of, instr_on}
use Rattle.plan_layout.specs.Starts.{start_edges}
use Rattle.plan_layout.specs.Layout.{kind_of, body_slot, instrs_of, tiling_of}
use Rattle.plan_layout.proofs.Bare.{bare}
use Rattle.plan_layout.proofs.Parts.{body_at}
use Rattle.grid_assembly.specs.PlanDrawing.{start_grid}
use Rattle.grid_assembly.proofs.Pattern.{patterns_are_planes}
use Rattle.tile_timing.specs.Law.{is_filled}
use Rattle.tile_match.specs.Blocks.{cell_shown, is_filled_in, instr_of_cells, instr_shown, instr_in, column_start}

is_drawn : (wires head tail : Bool) → is_filled (cond wires (cond head Head (cond tail Tail Conductor)) Empty) ≡ wires
is_drawn true true tail = refl
is_drawn true false true = refl
is_drawn true false false = refl
is_drawn false head tail = refl

-- a cell of the drawing, by its block and its place in the block
pub cell_at : (plan : Plan) → IsCircuit plan → (q l x y : ℕ) → x < 32 → y < 16
    → cell_shown (start_grid plan).rows (32 * q + x) (16 * l + y) ≡ drawn_slot shipped_drawing (start_edges plan) q l (tiling_of plan q l) x y
cell_at plan h q l x y narrow low =
    let column : (32 * q + x) / 32 ≡ q = omega arith in
    let lane : (16 * l + y) / 16 ≡ l = omega arith in
    let right : (32 * q + x) % 32 ≡ x = omega arith in
    let down : (16 * l + y) % 16 ≡ y = omega arith in
    ap (λ p. p (pos (32 * q + x)) (pos (16 * l + y))) ((patterns_are_planes plan h.admissible).plane ∙ (bare plan h.no_tape).plane shipped_drawing)
    ∙ ap (λ n. drawn_slot shipped_drawing (start_edges plan) n ((16 * l + y) / 16) (tiling_of plan n ((16 * l + y) / 16)) ((32 * q + x) % 32) ((16 * l + y) % 16)) column
    ∙ ap (λ n. drawn_slot shipped_drawing (start_edges plan) q n (tiling_of plan q n) ((32 * q + x) % 32) ((16 * l + y) % 16)) lane
    ∙ ap (λ n. drawn_slot shipped_drawing (start_edges plan) q l (tiling_of plan q l) n ((16 * l + y) % 16)) right
    ∙ ap (λ n. drawn_slot shipped_drawing (start_edges plan) q l (tiling_of plan q l) x n) down

-- what fills a block of the body: its upper half by the library
abbrev upper_drawing : Kind → ℕ → ℕ → Bool
upper_drawing k x y = shipped_drawing k (pos x) (pos y)

filled_by : (lit : Lit) (q l : ℕ) (k : Kind) (x y : ℕ) → is_filled (drawn_piece shipped_drawing lit q l (Tile k) x y) ≡ upper_drawing k x y
filled_by lit q l k x y =
    is_drawn (shipped_drawing k (pos x) (pos y)) (is_cell_of (pos x) (pos y) (heads_of lit q l (interface_of (Tile k)))) (is_cell_of (pos x) (pos y) (tails_of lit q l (interface_of (Tile k))))

-- what stands in a block of the body
body_is : (plan : Plan) → (c l : ℕ) → c < length plan.columns → l < plan.lanes
    → tiling_of plan (plan.latches + c) l ≡ body_slot l (instr_on (instrs_of plan c) l)
body_is plan c l within low =
    let same : plan.latches + c - plan.latches ≡ c = omega arith in
    body_at plan (plan.latches + c) l (omega arith) (omega arith) low ∙ ap (λ n. body_slot l (instr_on (instrs_of plan n) l)) same

-- the three cells by which a block is read
pub shown_by : (plan : Plan) → IsCircuit plan → (c l : ℕ) → c < length plan.columns → l < plan.lanes
    → instr_in (start_grid plan).rows (column_start plan.latches c) l
    ≡ instr_shown l (λ x y. is_filled (drawn_slot shipped_drawing (start_edges plan) (plan.latches + c) l (body_slot l (instr_on (instrs_of plan c) l)) x y))
shown_by plan h c l within low =
    ap (λ climbs. instr_of_cells l climbs (seen 5 9) (seen 23 8)) (here 3 6 (omega arith) (omega arith))
    ∙ ap (λ falls. instr_of_cells l (drawn 3 6) falls (seen 23 8)) (here 5 9 (omega arith) (omega arith))
    ∙ ap (λ ends. instr_of_cells l (drawn 3 6) (drawn 5 9) ends) (here 23 8 (omega arith) (omega arith))
  where
    seen : ℕ → ℕ → Bool
    seen x y = is_filled_in (start_grid plan).rows (column_start plan.latches c + x) (16 * l + y)

    drawn : ℕ → ℕ → Bool
    drawn x y = is_filled (drawn_slot shipped_drawing (start_edges plan) (plan.latches + c) l (body_slot l (instr_on (instrs_of plan c) l)) x y)

    here : (x y : ℕ) → x < 32 → y < 16 → seen x y ≡ drawn x y
    here x y narrow short =
        ap is_filled (cell_at plan h (plan.latches + c) l x y narrow short)
        ∙ ap (λ slot. is_filled (drawn_slot shipped_drawing (start_edges plan) (plan.latches + c) l slot x y)) (body_is plan c l within low)

-- what is read where a kind stands
by_kind : (lit : Lit) (q l lane : ℕ) (k : Kind)
    → instr_shown lane (λ x y. is_filled (drawn_piece shipped_drawing lit q l (Tile k) x y)) ≡ instr_shown lane (upper_drawing k)
by_kind lit q l lane k =
    ap (λ climbs. instr_of_cells lane climbs (drawn 5 9) (drawn 23 8)) (filled_by lit q l k 3 6)
    ∙ ap (λ falls. instr_of_cells lane (upper_drawing k 3 6) falls (drawn 23 8)) (filled_by lit q l k 5 9)
    ∙ ap (λ ends. instr_of_cells lane (upper_drawing k 3 6) (upper_drawing k 5 9) ends) (filled_by lit q l k 23 8)
  where
    drawn : ℕ → ℕ → Bool
    drawn x y = is_filled (drawn_piece shipped_drawing lit q l (Tile k) x y)

-- of the six drawings no two have the same three cells
east_shown : (lane : ℕ) → instr_shown lane (upper_drawing kind.East) ≡ None
east_shown lane = refl

instr_is_shown : (x : Instr) → instr_shown (lane_of x) (upper_drawing (kind_of x)) ≡ Some x
instr_is_shown (Swap i) = refl
instr_is_shown (Fork i) = refl
instr_is_shown (Xor i) = refl
instr_is_shown (Or i) = refl
instr_is_shown (AndNot i) = refl

-- where no instruction works on the lane, none is shown
pub none_shown : (lit : Lit) (q l : ℕ) → instr_shown l (λ x y. is_filled (drawn_slot shipped_drawing lit q l (body_slot l None) x y)) ≡ None
none_shown lit q l = by_kind lit q l l kind.East ∙ east_shown l

-- and where one begins there, it is shown
pub begun_shown : (lit : Lit) (q l : ℕ) (x : Instr) → lane_of x ≡ l → instr_shown l (λ u v. is_filled (drawn_slot shipped_drawing lit q l (body_slot l (Some x)) u v)) ≡ Some x
begun_shown lit q l x same =
    let on : (l == lane_of x) ≡ true = grind (arith, nat_tests) in
    ap (λ b. instr_shown l (λ u v. is_filled (drawn_slot shipped_drawing lit q l (cond b (Upper (Tile (kind_of x))) (Lower (Tile (kind_of x)))) u v))) on
    ∙ by_kind lit q l l (kind_of x)
    ∙ ap (λ n. instr_shown n (upper_drawing (kind_of x))) (sym same)
    ∙ instr_is_shown x

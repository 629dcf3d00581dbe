-- A name belongs to one edge.
use Rattle.std.proofs.Common.{◌≡◌, refl, ap₂, ℕ, ◌+◌, ◌-◌, ◌*◌, Bool, true, false, ◌⊎◌, inl, inr, cond, List, arith, ◌&&◌, subst, ⊎_elim, sym}
use Rattle.std.proofs.lemmas.Bool.{or_left, or_right, or_cases, and_parts, eqb-true}
use Rattle.std.proofs.lemmas.List.Folds.{Any-from_list_any}
use Rattle.std.specs.List.{Any}
use Rattle.std.specs.Prelude.{◌==◌}
use Rattle.tiling.specs.Tiling.{Tiling, Edge}
use Rattle.tiling.specs.Tiling.Edge.{Beside, Above}
use Rattle.tiling.specs.Matched.{is_entered}
use Rattle.lane_core.specs.declared.starts.Start.{Start}
use Rattle.lane_core.specs.Starts.{is_start_at}
use Rattle.plan_layout.specs.Starts.{HasCell, edge_name, named_edges, is_passed, NamesEdge, HasStartEdges, start_edges}
use Rattle.plan_layout.specs.Layout.{tiling_of}
use Rattle.lane_core.specs.declared.plan.Plan.{Plan}

side : (entered : Bool) (a : ℕ) → (cond entered a (a - 1) ≡ a) ⊎ (cond entered a (a - 1) ≡ a - 1)
side true a = inl refl
side false a = inr refl

-- the name is one of its cells
pub named : (tiling : Tiling) (edge : Edge) → HasCell edge (edge_name tiling edge).x (edge_name tiling edge).y
named tiling (Beside q l) = (side (is_entered (tiling q l) 0 8) (32 * q), refl)
named tiling (Above q l) = (refl, side (is_entered (tiling q l) 16 0) (16 * l))

-- and no other edge has that cell
pub one_edge : (a b : Edge) (x y : ℕ) → HasCell a x y → HasCell b x y → a ≡ b
one_edge (Beside q l) (Beside q' l') x y (inl a, b) (inl c, d) = ap₂ Beside (omega (arith, a, c)) (omega (arith, b, d))
one_edge (Beside q l) (Beside q' l') x y (inl a, b) (inr c, d) = ap₂ Beside (omega (arith, a, c)) (omega (arith, b, d))
one_edge (Beside q l) (Beside q' l') x y (inr a, b) (inl c, d) = ap₂ Beside (omega (arith, a, c)) (omega (arith, b, d))
one_edge (Beside q l) (Beside q' l') x y (inr a, b) (inr c, d) = ap₂ Beside (omega (arith, a, c)) (omega (arith, b, d))
one_edge (Above q l) (Above q' l') x y (a, inl b) (c, inl d) = ap₂ Above (omega (arith, a, c)) (omega (arith, b, d))
one_edge (Above q l) (Above q' l') x y (a, inl b) (c, inr d) = ap₂ Above (omega (arith, a, c)) (omega (arith, b, d))
one_edge (Above q l) (Above q' l') x y (a, inr b) (c, inl d) = ap₂ Above (omega (arith, a, c)) (omega (arith, b, d))
one_edge (Above q l) (Above q' l') x y (a, inr b) (c, inr d) = ap₂ Above (omega (arith, a, c)) (omega (arith, b, d))
one_edge (Beside q l) (Above q' l') x y (inl a, b) (c, d) = absurd (omega (arith, a, c))
one_edge (Beside q l) (Above q' l') x y (inr a, b) (c, d) = absurd (omega (arith, a, c))
one_edge (Above q l) (Beside q' l') x y (c, d) (inl a, b) = absurd (omega (arith, a, c))
one_edge (Above q l) (Beside q' l') x y (c, d) (inr a, b) = absurd (omega (arith, a, c))

-- an edge whose name stands among some is one of those that they name
pub name_lights : (tiling : Tiling) (names : List Start) (edge : Edge) → is_start_at names (edge_name tiling edge).x (edge_name tiling edge).y ≡ true → named_edges names edge ≡ true
name_lights tiling names (Beside q l) = by (is_entered (tiling q l) 0 8)
  where
    by : (b : Bool) → is_start_at names (cond b (32 * q) (32 * q - 1)) (16 * l + 8) ≡ true → named_edges names (Beside q l) ≡ true
    by true e = or_left _ _ e
    by false e = or_right _ _ e
name_lights tiling names (Above q l) = by (is_entered (tiling q l) 16 0)
  where
    by : (b : Bool) → is_start_at names (32 * q + 16) (cond b (16 * l) (16 * l - 1)) ≡ true → named_edges names (Above q l) ≡ true
    by true e = or_left _ _ e
    by false e = or_right _ _ e

-- a name that lights an edge has a cell of it
abbrev NameOf : List Start → Edge → Type 0
NameOf names edge = Any (λ start. HasCell edge start.x start.y) names

among : (names : List Start) (edge : Edge) (x y : ℕ) → HasCell edge x y → is_start_at names x y ≡ true → NameOf names edge
among names edge x y at e =
    let any = Any-from_list_any (λ (start : Start). start.x == x && start.y == y) names e in
    let parts = and_parts (any.1.x == x) (any.1.y == y) any.4 in
    (any.0, any.1, any.2, any.3, subst (λ (n : ℕ). HasCell edge n any.1.y) (sym (eqb-true any.1.x x parts.0)) (subst (HasCell edge x) (sym (eqb-true any.1.y y parts.1)) at))

pub lit_has_name : (names : List Start) (edge : Edge) → named_edges names edge ≡ true → NameOf names edge
lit_has_name names (Beside q l) e =
    ⊎_elim
    (λ east. among names (Beside q l) (32 * q) (16 * l + 8) (inl refl, refl) east)
    (λ west. among names (Beside q l) (32 * q - 1) (16 * l + 8) (inr refl, refl) west)
    (or_cases (is_start_at names (32 * q) (16 * l + 8)) (is_start_at names (32 * q - 1) (16 * l + 8)) e)
lit_has_name names (Above q l) e =
    ⊎_elim
    (λ south. among names (Above q l) (32 * q + 16) (16 * l) (refl, inl refl) south)
    (λ north. among names (Above q l) (32 * q + 16) (16 * l - 1) (refl, inr refl) north)
    (or_cases (is_start_at names (32 * q + 16) (16 * l)) (is_start_at names (32 * q + 16) (16 * l - 1)) e)

-- the edge that a start names is the one that has its cell
pub named_is : (tiling : Tiling) (start : Start) (edge : Edge) (names : NamesEdge tiling start) → HasCell edge start.x start.y → edge ≡ names.edge
named_is tiling start edge names at =
    one_edge edge names.edge start.x start.y at (subst (λ (s : Start). HasCell names.edge s.x s.y) (sym names.name) (named tiling names.edge))

-- so signals pass each lit edge
pub lit_is_passed : (plan : Plan) → HasStartEdges plan → (edge : Edge) → start_edges plan edge ≡ true → is_passed (tiling_of plan) edge ≡ true
lit_is_passed plan h edge e =
    let any = lit_has_name plan.starts.list edge e in
    let names = subst (NamesEdge (tiling_of plan)) any.3 (h any.0 any.1 any.2) in
    subst (λ (f : Edge). is_passed (tiling_of plan) f ≡ true) (sym (named_is (tiling_of plan) any.1 edge names any.4)) names.passed

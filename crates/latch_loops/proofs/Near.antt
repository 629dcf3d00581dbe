-- A tile back is near.
use Rattle.std.proofs.Common.{◌≡◌, refl, sym, ◌∙◌, ap, ap₂, subst, ℕ, zero, suc, ◌+◌, ◌-◌, ◌*◌, ◌/◌, ◌^◌, ◌<◌, ◌≤◌, Bool, true, false, ◌&&◌, cond, ltb, List, [], ◌∷◌, ◌++◌, length, get_or, ⊎_elim, arith}
use Rattle.std.specs.Prelude.{◌==◌, Some, slice_get}
use Rattle.std.proofs.lemmas.Option.{get_or_from_slice_get}
use Rattle.std.proofs.lemmas.Bool.{and_parts, ltb-true, cases_eq, cond-true, eq-eqb}
use Rattle.std.proofs.lemmas.List.{append-nil, append_assoc}
use Rattle.lane_core.specs.declared.plan.Plan.{Plan}
use Rattle.lane_core.specs.Plans.{IsAdmissible}
use Rattle.lane_core.specs.Instrs.{bit_on}
use Rattle.lane_core.specs.Entering.{first_loop_lane}
use Rattle.plan_layout.specs.Layout.{tiling_of}
use Rattle.plan_waves.specs.Waves.{tiles_back, loop_entry}
use Rattle.plan_waves.specs.Contexts.{contexts_on_ways}
use Rattle.plan_waves.proofs.RunningContexts.{ways_with_loops}
use Rattle.lane_core.specs.declared.starts.Start.{Start}
use Rattle.plan_layout.specs.Starts.{edge_name}
use Rattle.latch_loops.specs.Starts.{starts_of_loop, start_in}
use Rattle.tile_core.specs.declared.kind.Kind.{Kind}
use Rattle.tile_core.specs.declared.kind.Kind.TheVariants.{Swap, Xor, Or, AndNot, Fork, East, South, North, EastSouth, SouthWest, WestNorth, NorthEast, West, WestSwap}
use Rattle.tile_core.specs.Kinds.{entries}
use Rattle.tiling.specs.Tiling.{Piece, interface_of, Slot, Tiling, Edge, edge_of}
use Rattle.tiling.specs.Tiling.Piece.{Tile, Output}
use Rattle.tiling.specs.Tiling.Slot.{Nothing, Whole, Upper, Lower}
use Rattle.tiling.specs.Tiling.Edge.{Beside, Above}
use Rattle.tiling.specs.Matched.{is_left}
use Rattle.plan_layout.proofs.Sides.{either}
use Rattle.plan_waves.specs.WaysBack.{way_in, tile_before, before_entry}
use Rattle.plan_layout.specs.Edges.{column_in, lane_in}

abbrev pub IsNear : ℕ → ℕ → Edge → Type 0
IsNear q l edge = (column_in edge ≤ q + 1) × (lane_in edge ≤ l + 1)

abbrev ports_low : Kind → Bool
ports_low kind = ltb (get_or (entries kind) 0 (0, 0)).1 31 && ltb (get_or (entries kind) 1 (0, 0)).1 31

low : (kind : Kind) → ports_low kind ≡ true
low Swap = refl
low Xor = refl
low Or = refl
low AndNot = refl
low Fork = refl
low East = refl
low South = refl
low North = refl
low EastSouth = refl
low SouthWest = refl
low WestNorth = refl
low NorthEast = refl
low West = refl
low WestSwap = refl

port_near : (q l : ℕ) (port : ℕ × ℕ) → port.1 < 31 → IsNear q l (edge_of q l port)
port_near q l port small =
    let west : IsNear q l (Beside q (l + port.1 / 16)) = (omega arith, omega (arith, small)) in
    let east : IsNear q l (Beside (q + 1) (l + port.1 / 16)) = (omega arith, omega (arith, small)) in
    let north : IsNear q l (Above q l) = (omega arith, omega arith) in
    let south : IsNear q l (Above q (l + (port.1 + 1) / 16)) = (omega arith, omega (arith, small)) in
    either (IsNear q l) (port.0 == 0) west (either (IsNear q l) (port.0 == 31) east (either (IsNear q l) (port.1 == 0) north south))

upper_low : (piece : Piece) → (get_or (interface_of piece).entries 0 (0, 0)).1 < 31
upper_low Output = omega arith
upper_low (Tile kind) = ltb-true _ _ (and_parts (ltb (get_or (entries kind) 0 (0, 0)).1 31) (ltb (get_or (entries kind) 1 (0, 0)).1 31) (low kind)).0

lower_low : (piece : Piece) → (get_or (interface_of piece).entries 1 (0, 0)).1 < 31
lower_low Output = omega arith
lower_low (Tile kind) = ltb-true _ _ (and_parts (ltb (get_or (entries kind) 0 (0, 0)).1 31) (ltb (get_or (entries kind) 1 (0, 0)).1 31) (low kind)).1

nearer : (q l k : ℕ) (edge : Edge) → k ≤ l → IsNear q k edge → IsNear q l edge
nearer q l k edge h near = (near.0, omega (arith, near.1, h))

way_near : (q l : ℕ) (slot : Slot) → IsNear q l (way_in q l slot)
way_near q l Nothing = (omega arith, omega arith)
way_near q l (Whole piece) = port_near q l (get_or (interface_of piece).entries 0 (0, 0)) (upper_low piece)
way_near q l (Upper piece) = port_near q l (get_or (interface_of piece).entries 1 (0, 0)) (lower_low piece)
way_near q l (Lower piece) =
    nearer q l (l - 1) (edge_of q (l - 1) (get_or (interface_of piece).entries 0 (0, 0))) (omega arith) (port_near q (l - 1) (get_or (interface_of piece).entries 0 (0, 0)) (upper_low piece))

pub tile_near : (tiling : Tiling) (edge : Edge) → IsNear (column_in edge) (lane_in edge) (tile_before tiling edge)
tile_near tiling (Beside q l) =
    either (IsNear q l) (is_left (tiling q l) 0 8) (way_near q l (tiling q l))
    (let near = way_near (q - 1) l (tiling (q - 1) l) in (omega (arith, near.0), near.1))
tile_near tiling (Above q l) =
    either (IsNear q l) (is_left (tiling q l) 16 0) (way_near q l (tiling q l))
    (let near = way_near q (l - 1) (tiling q (l - 1)) in (near.0, omega (arith, near.1)))

-- there are not too many contexts to count
pub ways_few : (plan : Plan) → IsAdmissible plan → contexts_on_ways plan < 2 ^ 41
ways_few plan h =
    ⊎_elim
    (λ none. (let one : contexts_on_ways plan ≡ 1 = cond-true (plan.latches == 0) 1 (tiles_back plan) (eq-eqb plan.latches 0 none) in omega (arith, one)))
    (λ some. omega (arith, ways_with_loops plan (omega (arith, some)), h.size.columns, h.size.lanes, h.size.loops_on_lanes))
    (cases_eq plan.latches 0)

-- so many contexts of a loop have been walked back
pub record IsWalked (plan : Plan) (starts : List (List Bool)) (loop : ℕ) (first found : List Start) (edge : Edge) (n : ℕ) : Type 0 where
  pub list : found ≡ first ++ starts_of_loop plan starts loop n
  pub at : edge ≡ before_entry plan loop n
  pub column : column_in edge ≤ plan.latches + n
  pub lane : lane_in edge ≤ plan.lanes + n

pub begun : (plan : Plan) (starts : List (List Bool)) (loop : ℕ) (first : List Start) (edge : Edge) → IsAdmissible plan → loop < plan.latches → edge ≡ loop_entry plan loop → IsWalked plan starts loop first first edge 0
begun plan starts loop first edge h inside is = record {
  list = sym (append-nil first);
  at = is;
  column = (let c : column_in edge ≡ plan.latches = ap column_in is in omega (arith, c));
  lane = (let l : lane_in edge ≡ first_loop_lane plan.lanes plan.latches + loop = ap lane_in is in omega (arith, l, inside, h.size.loops_on_lanes));
}

pub one_more : (plan : Plan) (starts : List (List Bool)) (loop : ℕ) (first found more : List Start) (edge next : Edge) (start : Start) (bit : Bool) (n : ℕ) → IsWalked plan starts loop first found edge n
    → start ≡ edge_name (tiling_of plan) edge → bit ≡ bit_on (get_or starts n []) loop → more ≡ found ++ cond bit (start ∷ []) [] → next ≡ tile_before (tiling_of plan) edge
    → IsWalked plan starts loop first more next (n + 1)
one_more plan starts loop first found more edge next start bit n w named is pushed stepped =
    let one : n + 1 ≡ suc n = omega arith in
    let near = tile_near (tiling_of plan) edge in
    subst (IsWalked plan starts loop first more next) (sym one) (record {
      list = pushed
          ∙ ap₂ (λ l s. l ++ s) w.list (ap₂ (λ (b : Bool) (s : Start). cond b (s ∷ []) []) is (named ∙ ap (edge_name (tiling_of plan)) w.at))
          ∙ append_assoc first (starts_of_loop plan starts loop n) (start_in plan starts loop n);
      at = stepped ∙ ap (tile_before (tiling_of plan)) w.at;
      column = (let c : column_in next ≤ column_in edge + 1 = subst (λ (e : Edge). column_in e ≤ column_in edge + 1) (sym stepped) near.0 in omega (arith, c, w.column));
      lane = (let l : lane_in next ≤ lane_in edge + 1 = subst (λ (e : Edge). lane_in e ≤ lane_in edge + 1) (sym stepped) near.1 in omega (arith, l, w.lane));
    })

pub far_enough : (plan : Plan) (starts : List (List Bool)) (loop : ℕ) (first found : List Start) (edge : Edge) (n : ℕ) → IsAdmissible plan → length starts ≤ contexts_on_ways plan → n ≤ length starts
    → IsWalked plan starts loop first found edge n → (column_in edge < 2 ^ 42) × (lane_in edge < 2 ^ 42)
far_enough plan starts loop first found edge n h fit within w =
    (omega (arith, w.column, within, fit, ways_few plan h, h.size.lanes, h.size.loops_on_lanes), omega (arith, w.lane, within, fit, ways_few plan h, h.size.lanes))

same_default : (xs : List (List Bool)) (n : ℕ) (a b : List Bool) → n < length xs → get_or xs n a ≡ get_or xs n b
same_default [] n a b within = absurd (omega (arith, within))
same_default (x ∷ xs) zero a b within = refl
same_default (x ∷ xs) (suc n) a b within = same_default xs n a b (omega (arith, within))

-- the bit of a loop in a context
pub bit_is : (starts : List (List Bool)) (n loop : ℕ) (item : List Bool) (bit : Bool) → n < length starts → item ≡ get_or starts n item → slice_get item loop ≡ Some bit → bit ≡ bit_on (get_or starts n []) loop
bit_is starts n loop item bit within is e =
    sym (get_or_from_slice_get item loop bit false e) ∙ ap (λ (l : List Bool). get_or l loop false) (is ∙ same_default starts n item [] within)

-- A plan without a tape is drawn where it stands.
use Rattle.std.proofs.Common.{◌≡◌, refl, ◌∙◌, ap, ap₂, ℕ, ◌+◌, ◌-◌, ◌*◌, ◌/◌, ◌%◌, Bool, true, false, ◌&&◌, ◌||◌, cond, List, [], ◌∷◌, map, arith}
use Rattle.std.specs.Prelude.{◌==◌, nat_lt, nat_le, slice_get, unwrap_or}
use Rattle.std.specs.List.{list_any}
use Rattle.std.proofs.lemmas.Bool.{cond-false, and_right}
use Rattle.std.proofs.lemmas.Bool.Decides.{nat_tests}
use Rattle.std.proofs.Math.Path.{fun_ext}
use Rattle.tile_core.specs.declared.kind.Kind.TheVariants as kind
use Rattle.tiling.specs.Tiling.{Tiling, Edge, Lit, drawn}
use Rattle.tiling.specs.Tiling.Piece.{Tile}
use Rattle.tiling.specs.Tiling.Slot.{Nothing, Whole}
use Rattle.tiling.specs.Tiling.Edge.{Beside, Above}
use Rattle.lane_core.specs.declared.plan.Plan.{Plan}
use Rattle.lane_core.specs.Entering.{lane_bit}
use Rattle.lane_core.specs.Tape.{cycles_of, cycle_tiles, tape_cycles, tape_row, tape_tiles, tape_shift, tape_bit}
use Rattle.plan_layout.specs.Layout.{tiling_of}
use Rattle.plan_layout.specs.Starts.{start_edges}
use Rattle.plan_layout.specs.Tape.{is_on_tape, taped_tiling, drawn_tiling, is_taped, drawn_edges}
use Rattle.plan_layout.specs.Laws.{IsDrawnBare}

no_bits : (ins : List ℕ) (lane : ℕ) → lane_bit ins [] lane ≡ false
no_bits [] lane = refl
no_bits (first ∷ ins) lane = refl

-- a tape without tiles, where the plan stands as it did
never : (plan : Plan) (q l : ℕ) → is_on_tape plan 0 0 q l ≡ false
never plan q l =
    let no : (nat_lt q (0 + plan.latches) && nat_le (0 + plan.latches) (q + 0)) ≡ false = grind (arith, nat_tests) in
    ap (λ b. b && list_any (λ input. input == l) plan.ins) no

stays : (plan : Plan) (q l : ℕ) → taped_tiling plan 0 0 q l ≡ tiling_of plan q l
stays plan q l =
    let no : nat_lt q 0 ≡ false = grind (arith, nat_tests) in
    let here : q - 0 ≡ q = omega arith in
    cond-false (is_on_tape plan 0 0 q l) (Whole (Tile kind.East)) (cond (nat_lt q 0) Nothing (tiling_of plan (q - 0) l)) (never plan q l)
    ∙ cond-false (nat_lt q 0) Nothing (tiling_of plan (q - 0) l) no
    ∙ ap (λ n. tiling_of plan n l) here

-- an edge, where the plan stands as it did
at_home : (lit : Lit) (q : ℕ) (edge : ℕ → Edge) → (nat_le 0 q && lit (edge (q - 0))) ≡ lit (edge q)
at_home lit q edge =
    let yes : nat_le 0 q ≡ true = grind (arith, nat_tests) in
    let here : q - 0 ≡ q = omega arith in
    ap₂ (λ b n. b && lit (edge n)) yes here

module _ (plan : Plan) (none : plan.tape ≡ []) where
  no_cycles : tape_cycles plan ≡ 0
  no_cycles = ap cycles_of none

  no_tiles : tape_tiles plan ≡ 0
  no_tiles =
      let nothing : 0 * cycle_tiles plan ≡ 0 = omega arith in
      ap (λ n. (n - 1) * cycle_tiles plan) no_cycles ∙ nothing

  no_shift : tape_shift plan ≡ 0
  no_shift = omega (arith, no_tiles)

  dark : (tiles lane : ℕ) → tape_bit plan tiles lane ≡ false
  dark tiles lane =
      and_right (tiles % cycle_tiles plan == 0) (lane_bit plan.ins (tape_row plan (tiles / cycle_tiles plan)) lane)
      (ap (λ (lists : List (List Bool)). lane_bit plan.ins (map (λ bits. unwrap_or (slice_get bits (tiles / cycle_tiles plan)) false) lists) lane) none ∙ no_bits plan.ins lane)

  pub not_taped : (q l : ℕ) → is_taped plan q l ≡ false
  not_taped q l = and_right (nat_le q (tape_shift plan + plan.latches)) (tape_bit plan (tape_shift plan + plan.latches - q) l) (dark (tape_shift plan + plan.latches - q) l)

  tiling : drawn_tiling plan ≡ tiling_of plan
  tiling = ap₂ (λ shift tiles. taped_tiling plan shift tiles) no_shift no_tiles ∙ fun_ext (λ (q : ℕ). fun_ext (λ (l : ℕ). stays plan q l))

  edge : (e : Edge) → drawn_edges plan e ≡ start_edges plan e
  edge (Beside q l) =
      ap₂ (λ b shift. b || (nat_le shift q && start_edges plan (Beside (q - shift) l))) (not_taped q l) no_shift
      ∙ at_home (start_edges plan) q (λ n. Beside n l)
  edge (Above q l) =
      ap (λ shift. nat_le shift q && start_edges plan (Above (q - shift) l)) no_shift ∙ at_home (start_edges plan) q (λ n. Above n l)

  edges : drawn_edges plan ≡ start_edges plan
  edges = fun_ext edge

  pub bare : IsDrawnBare plan
  bare = record {
    tiling = tiling;
    edges = edges;
    plane = λ library. ap₂ (λ (t : Tiling) (lit : Lit). drawn library t lit) tiling edges;
  }

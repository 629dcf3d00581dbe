-- What a row of cells has west of a plan, where its tape alone lies.
use Rattle.std.proofs.Common.{◌≡◌, ◌≢◌, refl, sym, ◌∙◌, ap, ap₂, pos, ℕ, ◌+◌, ◌-◌, ◌*◌, ◌/◌, ◌%◌, ◌<◌, ◌≤◌, Bool, true, false, ◌&&◌, ◌||◌, cond, ⊎_elim, length, arith}
use Rattle.std.specs.Prelude.{◌==◌, nat_lt, nat_le}
use Rattle.std.specs.List.{list_any}
use Rattle.std.proofs.lemmas.Bool.{eqb-false, cases_lt, cond-true, cond-false, and_left, and_right, and_parts, eqb-true}
use Rattle.std.proofs.lemmas.Bool.Decides.{nat_tests}
use Rattle.std.proofs.lemmas.Nat.{mod-mul-add, div-add-mod'}
use Rattle.std.proofs.Math.Nat.{mod-lt}
use Rattle.ww_rule.specs.declared.pattern.State.{State}
use Rattle.ww_rule.specs.declared.pattern.State.TheVariants.{Empty, Head, Tail, Conductor}
use Rattle.tile_core.specs.declared.kind.Kind.TheVariants.{East}
use Rattle.tile_library.specs.Drawings.{shipped_drawing}
use Rattle.tile_library.specs.RowRuns.{IsRowRun}
use Rattle.tiling.specs.Tiling.{Slot, drawn_piece, drawn_slot}
use Rattle.tiling.specs.Tiling.Piece.{Tile}
use Rattle.tiling.specs.Tiling.Slot.{Nothing, Whole}
use Rattle.tiling.specs.Tiling.Edge.{Beside}
use Rattle.lane_core.specs.declared.plan.Plan.{Plan}
use Rattle.lane_core.specs.Entering.{lane_bit}
use Rattle.lane_core.specs.Tape.{cycle_tiles, tape_row, tape_tiles, tape_shift, tape_bit}
use Rattle.plan_layout.specs.Layout.{tiling_of}
use Rattle.plan_layout.specs.Starts.{start_edges}
use Rattle.plan_layout.specs.Tape.{is_on_tape, drawn_tiling, is_taped, drawn_edges, drawn_plane}
use Rattle.grid_assembly.specs.West.{tape_end}
use Rattle.grid_assembly.proofs.RowRuns.{one_cell}
use Rattle.grid_assembly.proofs.Wires.{blank_off_wire, head_cell, last_cell, dark_cell, dark_last}

pub some_tiles : (plan : Plan) → 0 < cycle_tiles plan
some_tiles plan = by (plan.latches == 0) refl
  where
    by : (b : Bool) → (plan.latches == 0) ≡ b → 0 < cond b 32 (32 * (2 * length plan.columns + 4 * plan.latches)) / 32
    by true e = omega arith
    by false e = let loops : plan.latches ≢ 0 = eqb-false plan.latches 0 e in omega (arith, loops)

module _ (plan : Plan) where
  -- a block there
  abbrev rest : (q l : ℕ) → Slot
  rest q l = cond (nat_lt q (tape_shift plan)) Nothing (tiling_of plan (q - tape_shift plan) l)

  wire_block : (q l : ℕ) → q < tape_shift plan → list_any (λ input. input == l) plan.ins ≡ true → drawn_tiling plan q l ≡ Whole (Tile East)
  wire_block q l west input =
      let before : (nat_lt q (tape_shift plan + plan.latches) && nat_le (tape_shift plan + plan.latches) (q + tape_tiles plan)) ≡ true = grind (arith, nat_tests) in
      cond-true (is_on_tape plan (tape_shift plan) (tape_tiles plan) q l) (Whole (Tile East)) (rest q l) (ap₂ (λ a b. a && b) before input)

  blank_block : (q l : ℕ) → q < tape_shift plan → list_any (λ input. input == l) plan.ins ≡ false → drawn_tiling plan q l ≡ Nothing
  blank_block q l west none =
      let yes : nat_lt q (tape_shift plan) ≡ true = grind (arith, nat_tests) in
      cond-false (is_on_tape plan (tape_shift plan) (tape_tiles plan) q l) (Whole (Tile East)) (rest q l)
      (and_right (nat_lt q (tape_shift plan + plan.latches) && nat_le (tape_shift plan + plan.latches) (q + tape_tiles plan)) (list_any (λ input. input == l) plan.ins) none)
      ∙ cond-true (nat_lt q (tape_shift plan)) Nothing (tiling_of plan (q - tape_shift plan) l) yes

  -- a row off the wires, and a row of a lane without an input
  pub blank_row : (y : ℕ) → (y % 16 == 8 && list_any (λ input. input == y / 16) plan.ins) ≡ false
      → (x : ℕ) → x < tape_end plan → drawn_plane shipped_drawing plan (pos x) (pos y) ≡ Empty
  blank_row y none x west = by (list_any (λ input. input == y / 16) plan.ins) refl
    where
      here : x / 32 < tape_shift plan
      here = omega (arith, west)

      off : (b : Bool) → b ≡ true → (y % 16 == 8 && b) ≡ false → y % 16 ≢ 8
      off true e f at = absurd (grind (arith, nat_tests))
      off false e f at = cc

      by : (b : Bool) → list_any (λ input. input == y / 16) plan.ins ≡ b → drawn_plane shipped_drawing plan (pos x) (pos y) ≡ Empty
      by true e =
          ap (λ s. drawn_slot shipped_drawing (drawn_edges plan) (x / 32) (y / 16) s (x % 32) (y % 16)) (wire_block (x / 32) (y / 16) here e)
          ∙ blank_off_wire (drawn_edges plan) (x / 32) (y / 16) (x % 32) (y % 16) (off (list_any (λ input. input == y / 16) plan.ins) e none)
      by false e = ap (λ s. drawn_slot shipped_drawing (drawn_edges plan) (x / 32) (y / 16) s (x % 32) (y % 16)) (blank_block (x / 32) (y / 16) here e)

  -- west of a plan an edge is lit by the tape alone, where a cycle begins
  lit_west : (q l : ℕ) → q < tape_shift plan → drawn_edges plan (Beside q l) ≡ is_taped plan q l
  lit_west q l west =
      let no : nat_le (tape_shift plan) q ≡ false = grind (arith, nat_tests) in
      ap (λ b. is_taped plan q l || (b && start_edges plan (Beside (q - tape_shift plan) l))) no ∙ or_none (is_taped plan q l)
    where
      or_none : (b : Bool) → (b || false) ≡ b
      or_none true = refl
      or_none false = refl

  abbrev pub next_of : ℕ → ℕ
  next_of q = q + 1 + (tape_shift plan + plan.latches - (q + 1)) % cycle_tiles plan

  dark_between : (q p l : ℕ) → 0 < cycle_tiles plan → q < tape_shift plan → q < p → p < next_of q → p < tape_shift plan → drawn_edges plan (Beside p l) ≡ false
  dark_between q p l some west from to below =
      let tiles = tape_shift plan + plan.latches - p in
      lit_west p l below
      ∙ and_right (nat_le p (tape_shift plan + plan.latches)) (tape_bit plan tiles l)
      (and_left (tiles % cycle_tiles plan == 0) (lane_bit plan.ins (tape_row plan (tiles / cycle_tiles plan)) l) (apart tiles refl))
    where
      apart : (tiles : ℕ) → tiles ≡ tape_shift plan + plan.latches - p → (tiles % cycle_tiles plan == 0) ≡ false
      apart tiles e =
          let n = tape_shift plan + plan.latches - (q + 1) in
          let whole : n / cycle_tiles plan * cycle_tiles plan + n % cycle_tiles plan ≡ n = div-add-mod' n (cycle_tiles plan) in
          let small : n % cycle_tiles plan < cycle_tiles plan = mod-lt n some in
          let less : n % cycle_tiles plan - (p - (q + 1)) < cycle_tiles plan = omega (arith, small) in
          let at : n / cycle_tiles plan * cycle_tiles plan + (n % cycle_tiles plan - (p - (q + 1))) ≡ tiles = omega (arith, whole, e, from, to, below) in
          let left : tiles % cycle_tiles plan ≡ n % cycle_tiles plan - (p - (q + 1)) =
          ap (λ k. k % cycle_tiles plan) (sym at) ∙ mod-mul-add (n / cycle_tiles plan) (cycle_tiles plan) (n % cycle_tiles plan - (p - (q + 1))) less in
          let not_zero : tiles % cycle_tiles plan ≢ 0 = omega (arith, left, from, to) in
          grind (arith, nat_tests, not_zero)

  -- a cell of a row with a wire
  at_wire : (y x : ℕ) → y % 16 ≡ 8 → list_any (λ input. input == y / 16) plan.ins ≡ true → x / 32 < tape_shift plan
      → drawn_plane shipped_drawing plan (pos x) (pos y) ≡ drawn_piece shipped_drawing (drawn_edges plan) (x / 32) (y / 16) (Tile East) (x % 32) 8
  at_wire y x middle input west =
      ap (λ s. drawn_slot shipped_drawing (drawn_edges plan) (x / 32) (y / 16) s (x % 32) (y % 16)) (wire_block (x / 32) (y / 16) west input)
      ∙ ap (λ n. drawn_piece shipped_drawing (drawn_edges plan) (x / 32) (y / 16) (Tile East) (x % 32) n) middle

  module _ (y : ℕ) (middle : y % 16 ≡ 8) (input : list_any (λ input. input == y / 16) plan.ins ≡ true) (some : 0 < cycle_tiles plan) where
    abbrev row : ℕ → State
    row = λ x. drawn_plane shipped_drawing plan (pos x) (pos y)

    pub head_run : (x : ℕ) → x < tape_end plan → (x % 32 == 0 && drawn_edges plan (Beside (x / 32) (y / 16))) ≡ true → IsRowRun row x (tape_end plan - x) (Head, 1)
    head_run x west e =
        let parts = and_parts (x % 32 == 0) (drawn_edges plan (Beside (x / 32) (y / 16))) e in
        let first : x % 32 ≡ 0 = eqb-true (x % 32) 0 parts.0 in
        one_cell row x (tape_end plan - x) Head (omega (arith, west))
        (sym (at_wire y x middle input (omega (arith, west))
        ∙ ap (λ n. drawn_piece shipped_drawing (drawn_edges plan) (x / 32) (y / 16) (Tile East) n 8) first
        ∙ head_cell (drawn_edges plan) (x / 32) (y / 16) parts.1))

    pub end_run : (x next : ℕ) → x < tape_end plan → x + 1 ≡ 32 * next → IsRowRun row x (tape_end plan - x) (cond (drawn_edges plan (Beside next (y / 16))) Tail Conductor, 1)
    end_run x next west e =
        let last : x % 32 ≡ 31 = omega (arith, e) in
        let after : x / 32 + 1 ≡ next = omega (arith, e) in
        one_cell row x (tape_end plan - x) (cond (drawn_edges plan (Beside next (y / 16))) Tail Conductor) (omega (arith, west))
        (sym (at_wire y x middle input (omega (arith, west))
        ∙ ap (λ n. drawn_piece shipped_drawing (drawn_edges plan) (x / 32) (y / 16) (Tile East) n 8) last
        ∙ last_cell (drawn_edges plan) (x / 32) (y / 16)
        ∙ ap (λ n. cond (drawn_edges plan (Beside n (y / 16))) Tail Conductor) after))

    dark_run : (x i : ℕ) → x + i < tape_end plan → x + i + 1 < 32 * next_of (x / 32) → (x % 32 == 0 && drawn_edges plan (Beside (x / 32) (y / 16))) ≡ false → row (x + i) ≡ Conductor
    dark_run x i west before none =
        at_wire y (x + i) middle input (omega (arith, west)) ∙ ⊎_elim (λ inside. dark_cell (drawn_edges plan) ((x + i) / 32) (y / 16) ((x + i) % 32) inside first) (λ last. at_last (omega (arith, last))) (cases_lt ((x + i) % 32) 31)
      where
        first : (x + i) % 32 ≡ 0 → drawn_edges plan (Beside ((x + i) / 32) (y / 16)) ≡ false
        first at =
            ⊎_elim
            (λ here. at_start (omega (arith, here)))
            (λ later. dark_between (x / 32) ((x + i) / 32) (y / 16) some (omega (arith, west)) (omega (arith, later, at)) (omega (arith, before)) (omega (arith, west)))
            (cases_lt i 1)
          where
            at_start : i ≡ 0 → drawn_edges plan (Beside ((x + i) / 32) (y / 16)) ≡ false
            at_start e =
                let same : x + i ≡ x = omega (arith, e) in
                let begins : (x % 32 == 0) ≡ true = grind (arith, nat_tests, at, same) in
                ap (λ n. drawn_edges plan (Beside (n / 32) (y / 16))) same ∙ ap (λ b. b && drawn_edges plan (Beside (x / 32) (y / 16))) (sym begins) ∙ none

        at_last : (x + i) % 32 ≡ 31 → drawn_piece shipped_drawing (drawn_edges plan) ((x + i) / 32) (y / 16) (Tile East) ((x + i) % 32) 8 ≡ Conductor
        at_last e =
            ap (λ n. drawn_piece shipped_drawing (drawn_edges plan) ((x + i) / 32) (y / 16) (Tile East) n 8) e
            ∙ dark_last (drawn_edges plan) ((x + i) / 32) (y / 16)
            (dark_between (x / 32) ((x + i) / 32 + 1) (y / 16) some (omega (arith, west)) (omega arith) (omega (arith, before, e)) (omega (arith, west)))

    pub long_run : (x end : ℕ) → x < tape_end plan → (x % 32 == 0 && drawn_edges plan (Beside (x / 32) (y / 16))) ≡ false → x + 1 ≢ 32 * next_of (x / 32)
        → end ≤ tape_end plan → end ≤ 32 * next_of (x / 32) - 1 → x < end → IsRowRun row x (tape_end plan - x) (Conductor, end - x)
    long_run x end west none other inside before some_cells = record {
      some = omega (arith, some_cells);
      within = omega (arith, inside);
      alike = λ i lt. dark_run x i (omega (arith, lt, inside)) (omega (arith, lt, before)) none;
    }

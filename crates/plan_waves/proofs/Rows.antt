-- What the rows of a tape drive: the tape has room for them, and its bits are what is due.
use Rattle.std.proofs.Common.{◌≡◌, sym, ◌∙◌, ap, ap₂, ℤ, pos, ℕ, ◌-◌, ◌*◌, ◌/◌, ◌%◌, ◌<◌, ◌≤◌, Bool, true, false, ⊎_elim, List, [], length, get_or, arith}
use Rattle.std.specs.Prelude.{◌==◌, unwrap_or, slice_get}
use Rattle.std.specs.Cmp.{both_ways as same_bit}
use Rattle.std.specs.List.{list_any}
use Rattle.std.proofs.lemmas.Bool.{true≢false, false_from_ne_true, cases_eq, cases_lt, and_parts, and_from, eqb-true, eq-eqb}
use Rattle.std.proofs.lemmas.Int.{ints}
use Rattle.std.proofs.lemmas.List.{get_or-map, get_or_past, length-map}
use Rattle.std.proofs.lemmas.List.Elements.{All-get_or}
use Rattle.std.proofs.lemmas.List.Folds.{list_any_at}
use Rattle.std.proofs.lemmas.List.FromFn.{length-map-range_with_len, get_or-map-range_with_len}
use Rattle.std.proofs.lemmas.Option.{unwrap_or-slice_get}
use Rattle.std.proofs.Math.Nat.{mul-le-mul_right, mul_comm, mul-mod_left, mul-div_cancel, div-add-mod}
use Rattle.ww_rule.proofs.Streams.{streams_injected}
use Rattle.lane_core.specs.declared.plan.Plan.{Plan}
use Rattle.lane_core.specs.Plans.{IsAdmissible, left_of, row_of, period_of, input_cells}
use Rattle.lane_core.specs.Entering.{lane_bit}
use Rattle.plan_waves.specs.Waves.{DrivesInputs}
use Rattle.plan_waves.proofs.ContextRows.{cells_long}
use Rattle.plan_waves.proofs.CycleTiles.{tiles_with_loops, tiles_without, cycle_time}
use Rattle.plan_waves.proofs.InputCells.{lane_of_input, input_of_lane, input_cell}
use Rattle.lane_core.specs.Tape.{HasFittingTape, tape_cycles, tape_row, tape_rows, cycle_tiles, tape_tiles, tape_shift, tape_bit}
use Rattle.plan_waves.specs.Tape.{drive_of_rows, is_due_on}
use Rattle.plan_waves.specs.TapeLaws.{FitsTape}

-- the bit of a head that is due
record DueBit (plan : Plan) (rows : List (List Bool)) (g : ℕ) (x y : ℤ) : Type 0 where
  pub cycle : ℕ
  pub input : ℕ
  pub time : g ≡ cycle * period_of plan
  pub early : cycle < length rows
  pub within : input < length plan.ins
  pub one : get_or (get_or rows cycle []) input false ≡ true
  pub column : x ≡ pos (left_of plan 0)
  pub line : y ≡ pos (row_of (get_or plan.ins input 0))

due_bit : (plan : Plan) (rows : List (List Bool)) (g : ℕ) (x y : ℤ) → drive_of_rows plan rows g x y ≡ true → DueBit plan rows g x y
due_bit plan rows g x y e =
    let bit = (streams_injected (period_of plan) (input_cells plan) rows g x y).0 e in
    let within : bit.input < length plan.ins = omega (arith, bit.in_cells, cells_long plan) in
    let cell = input_cell plan bit.input within in
    record {
      cycle = bit.cycle;
      input = bit.input;
      time = sym bit.in_time;
      early = ⊎_elim (λ early. early) (λ late. absurd (true≢false (sym bit.one ∙ none bit.cycle bit.input late))) (cases_lt bit.cycle (length rows));
      within = within;
      one = bit.one;
      column = sym bit.column ∙ ap (λ c. pos c.0) cell;
      line = sym bit.line ∙ ap (λ c. pos c.1) cell;
    }
  where
    none : (cycle input : ℕ) → length rows ≤ cycle → get_or (get_or rows cycle []) input false ≡ false
    none cycle input late = ap (λ row. get_or row input false) (get_or_past rows cycle [] late) ∙ get_or_past [] input false (omega arith)

-- rows drive a plan at its inputs
pub rows_drive : (plan : Plan) → IsAdmissible plan → (rows : List (List Bool)) → DrivesInputs plan (drive_of_rows plan rows)
rows_drive plan h rows = record {
  on_time = λ g x y e. (let bit = due_bit plan rows g x y e in omega (arith, bit.time, cycle_time plan bit.cycle));
  at_free_entries = λ g x y e. (let bit = due_bit plan rows g x y e in (get_or plan.ins bit.input 0, h.ins.below bit.input 0 bit.within, bit.column, bit.line));
}

rows_many : (plan : Plan) → length (tape_rows plan) ≡ tape_cycles plan
rows_many plan = length-map-range_with_len (tape_row plan) 0 (tape_cycles plan)

-- the lane of a head that is due there
lane_is : (plan : Plan) (rows : List (List Bool)) (g lane : ℕ) (bit : DueBit plan rows g (pos (left_of plan 0)) (pos (row_of lane))) → get_or plan.ins bit.input 0 ≡ lane
lane_is plan rows g lane bit = let line = bit.line in omega (arith, ints, line)

pub tapes_fit : (plan : Plan) → FitsTape plan (tape_shift plan) (tape_tiles plan) (drive_of_rows plan (tape_rows plan))
tapes_fit plan = record { room = omega arith; on_inputs = on_inputs; within = within }
  where
    on_inputs : (g lane : ℕ) → list_any (λ input. input == lane) plan.ins ≡ false → is_due_on plan (drive_of_rows plan (tape_rows plan)) g lane ≡ false
    on_inputs g lane none =
        false_from_ne_true _ (λ e. (let bit = due_bit plan (tape_rows plan) g (pos (left_of plan 0)) (pos (row_of lane)) e in
        let here : (get_or plan.ins bit.input 0 == lane) ≡ true = eq-eqb (get_or plan.ins bit.input 0) lane (lane_is plan (tape_rows plan) g lane bit) in
        true≢false (sym (list_any_at (λ input. input == lane) plan.ins bit.input 0 bit.within here) ∙ none)))

    within : (m lane : ℕ) → tape_tiles plan < m → is_due_on plan (drive_of_rows plan (tape_rows plan)) (32 * m) lane ≡ false
    within m lane late =
        false_from_ne_true _ (λ e. (let bit = due_bit plan (tape_rows plan) (32 * m) (pos (left_of plan 0)) (pos (row_of lane)) e in
        let same : m ≡ bit.cycle * cycle_tiles plan = omega (arith, bit.time, cycle_time plan bit.cycle) in
        let most : bit.cycle * cycle_tiles plan ≤ (tape_cycles plan - 1) * cycle_tiles plan = mul-le-mul_right (cycle_tiles plan) (omega (arith, bit.early, rows_many plan)) in
        absurd (omega (arith, late, same, most))))

-- the bits of the tape are those of its rows
module _ (plan : Plan) (fits : HasFittingTape plan) where
  -- a row has bits in the cycles of the tape alone
  bit_early : (cycle input : ℕ) → get_or (tape_row plan cycle) input false ≡ true → cycle < tape_cycles plan
  bit_early cycle input one =
      ⊎_elim
      (λ within. ⊎_elim
      (λ early. early)
      (λ late. absurd (true≢false (sym one ∙ get_or-map (λ (bits : List Bool). unwrap_or (slice_get bits cycle) false) plan.tape input [] false within
      ∙ unwrap_or-slice_get (get_or plan.tape input []) cycle false
      ∙ get_or_past (get_or plan.tape input []) cycle false (omega (arith, late, All-get_or (λ (bits : List Bool). length bits ≡ tape_cycles plan) plan.tape input [] within fits.lists.alike)))))
      (cases_lt cycle (tape_cycles plan)))
      (λ past. absurd (true≢false (sym one ∙ get_or_past (tape_row plan cycle) input false (omega (arith, past, length-map plan.tape (λ (bits : List Bool). unwrap_or (slice_get bits cycle) false))))))
      (cases_lt input (length plan.tape))

  row_at : (cycle : ℕ) → cycle < tape_cycles plan → get_or (tape_rows plan) cycle [] ≡ tape_row plan cycle
  row_at cycle early = get_or-map-range_with_len (tape_row plan) 0 (tape_cycles plan) cycle cycle [] early (omega arith)

  some_tiles : 0 < cycle_tiles plan
  some_tiles =
      ⊎_elim
      (λ none. omega (arith, tiles_without plan none))
      (λ some. omega (arith, tiles_with_loops plan (omega (arith, some)), some))
      (cases_eq plan.latches 0)

  pub tape_is_due : (tiles lane : ℕ) → tape_bit plan tiles lane ≡ is_due_on plan (drive_of_rows plan (tape_rows plan)) (32 * tiles) lane
  tape_is_due tiles lane = same_bit _ _ to from
    where
      to : tape_bit plan tiles lane ≡ true → is_due_on plan (drive_of_rows plan (tape_rows plan)) (32 * tiles) lane ≡ true
      to lit =
          let cycle = tiles / cycle_tiles plan in
          let parts = and_parts (tiles % cycle_tiles plan == 0) (lane_bit plan.ins (tape_row plan cycle) lane) lit in
          let input = input_of_lane plan.ins (tape_row plan cycle) lane parts.1 in
          let cell = input_cell plan input.0 input.1 in
          let whole : tiles % cycle_tiles plan ≡ 0 = eqb-true (tiles % cycle_tiles plan) 0 parts.0 in
          let time : cycle * cycle_tiles plan ≡ tiles = omega (arith, div-add-mod tiles (cycle_tiles plan), whole, mul_comm (cycle_tiles plan) cycle) in
          (streams_injected (period_of plan) (input_cells plan) (tape_rows plan) (32 * tiles) (pos (left_of plan 0)) (pos (row_of lane))).1 (record {
            cycle = cycle;
            input = input.0;
            in_time = omega (arith, time, cycle_time plan cycle);
            in_cells = omega (arith, input.1, cells_long plan);
            one = ap (λ row. get_or row input.0 false) (row_at cycle (bit_early cycle input.0 input.3)) ∙ input.3;
            column = ap (λ c. pos c.0) cell;
            line = ap (λ c. pos c.1) cell ∙ ap (λ n. pos (row_of n)) input.2;
          })

      from : is_due_on plan (drive_of_rows plan (tape_rows plan)) (32 * tiles) lane ≡ true → tape_bit plan tiles lane ≡ true
      from e =
          let bit = due_bit plan (tape_rows plan) (32 * tiles) (pos (left_of plan 0)) (pos (row_of lane)) e in
          let time : tiles ≡ bit.cycle * cycle_tiles plan = omega (arith, bit.time, cycle_time plan bit.cycle) in
          let whole : tiles % cycle_tiles plan ≡ 0 = ap (λ n. n % cycle_tiles plan) time ∙ mul-mod_left bit.cycle (cycle_tiles plan) in
          let cycle : tiles / cycle_tiles plan ≡ bit.cycle = ap (λ n. n / cycle_tiles plan) time ∙ mul-div_cancel bit.cycle some_tiles in
          let one : get_or (tape_row plan bit.cycle) bit.input false ≡ true = sym (ap (λ row. get_or row bit.input false) (row_at bit.cycle (omega (arith, bit.early, rows_many plan)))) ∙ bit.one in
          and_from _ _ (eq-eqb (tiles % cycle_tiles plan) 0 whole)
          (ap₂ (λ n l. lane_bit plan.ins (tape_row plan n) l) cycle (sym (lane_is plan (tape_rows plan) (32 * tiles) lane bit))
          ∙ lane_of_input plan.ins (tape_row plan bit.cycle) bit.input bit.within one)

-- A plan without a tape is drawn where it stands, and its table names its inputs and its own cells.
use Rattle.std.proofs.Common.{◌≡◌, ◌∙◌, ap, pos, ℕ, ◌+◌, ◌-◌, ◌*◌, true, List, [], Bool, length, map, arith}
use Rattle.std.specs.Prelude.{◌==◌}
use Rattle.std.specs.List.{range_with_len}
use Rattle.std.proofs.lemmas.Bool.{cond-true}
use Rattle.std.proofs.Math.Path.{fun_ext}
use Rattle.ww_rule.specs.Wireworld.{Plane}
use Rattle.ww_rule.specs.Grid.{Grid}
use Rattle.tile_library.specs.Drawings.{shipped_drawing}
use Rattle.lane_core.specs.declared.plan.NetPlace.{NetPlace}
use Rattle.lane_core.specs.declared.plan.Plan.{Plan}
use Rattle.lane_core.specs.Plans.{left_of, row_of, cell_after, input_cells, output_cells, net_cells, size_of}
use Rattle.lane_core.specs.Tape.{cycles_of, cycle_tiles, tape_cycles, tape_shift, moved_east}
use Rattle.plan_layout.specs.Starts.{start_edges}
use Rattle.plan_layout.proofs.Bare.{bare}
use Rattle.grid_assembly.specs.PlanDrawing.{start_grid}
use Rattle.netlist_core.specs.declared.flat.Flat.{Flat}
use Rattle.netlist_meaning.specs.Flat.{names_of_ports}
use Rattle.pattern_reading.specs.declared.ports.Ports.{Ports}
use Rattle.pattern_reading.specs.Ports.{cells_of, names_of}
use Rattle.plan_ports.specs.Tables.{IsTableOf, net_cells_of, driven_inputs}
use Rattle.plan_carries.specs.Pictures.{grid_with}

-- the box of a plan's plane
abbrev box_of : Plan → Plane → Grid
box_of plan p =
    record { width = (size_of plan).0; height = (size_of plan).1; rows = map (λ y. map (λ x. p (pos x) (pos y)) (range_with_len 0 (size_of plan).0)) (range_with_len 0 (size_of plan).1) }

-- the cell of a port on a lane
abbrev pub lane_cell : ℕ → ℕ → ℕ × ℕ
lane_cell x lane = (x, row_of lane)

module _ (plan : Plan) (none : plan.tape ≡ []) where
  -- its pattern is the box of its own plane
  pub bare_grid : start_grid plan ≡ grid_with plan (start_edges plan)
  bare_grid = ap (box_of plan) ((bare plan none).plane shipped_drawing)

  no_shift : tape_shift plan ≡ 0
  no_shift =
      let cycles : tape_cycles plan ≡ 0 = ap cycles_of none in
      let tiles : (tape_cycles plan - 1) * cycle_tiles plan ≡ 0 * cycle_tiles plan = ap (λ n. (n - 1) * cycle_tiles plan) cycles in
      omega (arith, tiles)

  all_driven : {X : Type 0} (inputs : List X) → driven_inputs plan inputs ≡ inputs
  all_driven inputs = let no_tape : (length plan.tape == 0) ≡ true = ap (λ (lists : List (List Bool)). length lists == 0) none in cond-true (length plan.tape == 0) inputs [] no_tape

  lane_cells : (x : ℕ) (lanes : List ℕ) → map (lane_cell (32 * tape_shift plan + x)) lanes ≡ map (lane_cell x) lanes
  lane_cells x lanes = let here : 32 * tape_shift plan + x ≡ x = omega (arith, no_shift) in ap (λ (at : ℕ). map (lane_cell at) lanes) here

  at_home : (cell : ℕ × ℕ × ℕ) → moved_east (tape_shift plan) cell ≡ cell
  at_home cell = let here : 32 * tape_shift plan + cell.0 ≡ cell.0 = omega (arith, no_shift) in ap (λ (x : ℕ). (x, cell.1, cell.2)) here

  module _ (flat : Flat) (n : ℕ) (ports : Ports) (table : IsTableOf flat plan n ports) where
    pub bare_in_names : names_of ports.ins ≡ names_of_ports flat flat.ins
    bare_in_names = table.in_names ∙ all_driven (names_of_ports flat flat.ins)

    pub bare_in_cells : cells_of ports.ins ≡ input_cells plan
    bare_in_cells = table.in_cells ∙ all_driven _ ∙ lane_cells (left_of plan 0) plan.ins

    pub bare_out_cells : cells_of ports.outs ≡ output_cells plan
    bare_out_cells = table.out_cells ∙ lane_cells (left_of plan (length plan.columns)) plan.outs

    pub bare_net_cells : net_cells_of ports.nets ≡ net_cells plan
    bare_net_cells = table.net_cells ∙ ap (λ (f : NetPlace → ℕ × ℕ × ℕ). map f plan.nets) (fun_ext (λ (place : NetPlace). at_home (cell_after plan place.lane place.after)))

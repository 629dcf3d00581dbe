-- Some circuit has a box and ports just where they have the size of one.
use Rattle.std.proofs.Common.{◌≡◌, refl, sym, ◌∙◌, ap, subst, ⊎_elim, inl, inr, ℕ, ◌+◌, ◌-◌, ◌*◌, ◌<◌, false, cond, ◌==◌, List, [], ◌∷◌, map, length, replicate, arith}
use Rattle.std.specs.Prelude.{All, ◌≢◌}
use Rattle.std.proofs.lemmas.Bool.{cases_eq}
use Rattle.std.proofs.lemmas.Bool.Decides.{nat_tests}
use Rattle.std.proofs.lemmas.List.{get_or-replicate, length-replicate}
use Rattle.ww_rule.specs.Grid.{Grid}
use Rattle.lane_core.specs.declared.starts.Starts.{Starts}
use Rattle.lane_core.specs.declared.plan.Plan.{Plan}
use Rattle.lane_core.specs.Columns.{IsColumnOnLanes}
use Rattle.lane_core.specs.Places.{AreDistinctBelow}
use Rattle.lane_core.specs.Tape.{tape_shift}
use Rattle.lane_core.proofs.Lookup.{columns_apart}
use Rattle.circuit_plans.specs.Circuits.{IsCircuit, IsLoopStart}
use Rattle.pattern_reading.specs.declared.ports.PortLine.{PortLine}
use Rattle.pattern_reading.specs.declared.ports.Ports.{Ports}
use Rattle.pattern_reading.specs.Ports.{cells_of}
use Rattle.tile_match.specs.Circuit.{HasBoxAndPorts, HasSomePlan}
use Rattle.tile_match.specs.Equations.{IsBareBox, IsFilledBox}
use Rattle.tile_match.specs.Laws.{SizesAreEquations}
use Rattle.tile_match.specs.Sizes.{IsSizeOfPlan}
use Rattle.tile_match.proofs.Sizes.{size_is, filled, bare, bare_height, bare_width}
use Rattle.tile_match.proofs.Read.{no_lists, size_by}
use Rattle.tile_match.proofs.ReadColumns.{no_column, no_column_on}
use Rattle.tile_match.proofs.One.{cell_on}

-- below no lane there are no ports
no_ports : (limit : ℕ) (lanes : List ℕ) → limit ≡ 0 → AreDistinctBelow limit lanes → lanes ≡ []
no_ports limit [] none d = refl
no_ports limit (lane ∷ lanes) none d = let first : lane < limit = d.below 0 0 (omega arith) in absurd (omega (arith, first, none))

no_lines : (lines : List PortLine) → cells_of lines ≡ [] → lines ≡ []
no_lines [] e = refl
no_lines (line ∷ lines) e = absurd (cc)

bare_lines : (lines : List PortLine) (x limit : ℕ) (lanes : List ℕ) → limit ≡ 0 → AreDistinctBelow limit lanes → cells_of lines ≡ map (cell_on x) lanes → lines ≡ []
bare_lines lines x limit lanes none d e = no_lines lines (e ∙ ap (map (cell_on x)) (no_ports limit lanes none d))

bare_box : (width height : ℕ) (ports : Ports) (plan : Plan) → IsCircuit plan → HasBoxAndPorts width height ports plan → plan.lanes ≡ 0 → IsBareBox width height ports
bare_box width height ports plan h has none =
    let s = size_is width height ports plan h has in
    let no_loops : plan.latches ≡ 0 = omega (arith, s.loops_on_lanes, none) in
    let free : plan.lanes - plan.latches ≡ 0 = omega (arith, none) in
    record {
      width_is = bare width height ports.p ports.l plan.lanes (length plan.columns) plan.latches none s;
      height_is = bare_height width height ports.p ports.l plan.lanes (length plan.columns) plan.latches none s;
      latency = (let no_columns : length plan.columns ≡ 0 = s.both.0 none in omega (arith, s.latency_is, no_columns));
      period = s.period_is ∙ ap (λ n. cond (n == 0) 32 (32 * (2 * length plan.columns + 4 * n))) no_loops;
      ins = bare_lines ports.ins _ (plan.lanes - plan.latches) plan.ins free h.admissible.ins has.in_cells;
      outs = bare_lines ports.outs _ (plan.lanes - plan.latches) plan.outs free h.admissible.outs has.out_cells;
    }

filled_box : (width height : ℕ) (ports : Ports) (plan : Plan) → IsCircuit plan → HasBoxAndPorts width height ports plan → plan.lanes ≢ 0
    → IsFilledBox width height ports plan.lanes (length plan.columns) plan.latches
filled_box width height ports plan h has some =
    let s = size_is width height ports plan h has in
    let f = filled width height ports.p ports.l plan.lanes (length plan.columns) plan.latches some s in
    let first : 32 * (plan.latches + 0) ≡ 32 * plan.latches = omega arith in
    record {
      some_lanes = f.some_lanes;
      some_columns = f.some_columns;
      few_lanes = s.few_lanes;
      few_columns = s.few_columns;
      loops_on_lanes = s.loops_on_lanes;
      loops_in_columns = s.loops_in_columns;
      latency = s.latency_is;
      period = s.period_is;
      width_is = f.wide;
      height_is = f.high;
      ins = record { lanes = plan.ins; distinct = h.admissible.ins; cells = has.in_cells ∙ ap (λ x. map (cell_on x) plan.ins) first };
      outs = record { lanes = plan.outs; distinct = h.admissible.outs; cells = has.out_cells };
    }

-- a plan of so many lanes, columns and loops, without instructions
abbrev no_starts : Starts
no_starts = record { list = []; in_order = refl }

abbrev blank_plan : ℕ → ℕ → ℕ → List ℕ → List ℕ → Plan
blank_plan lanes columns loops ins outs =
    record { lanes = lanes; columns = replicate columns no_column; latches = loops; starts = no_starts; ins = ins; outs = outs; nets = []; tape = [] }

none_at : (lanes loops : ℕ) → All (IsLoopStart lanes loops) []
none_at lanes loops = λ k d lt. absurd (omega (arith, lt))

blank_columns : (lanes columns : ℕ) → All (IsColumnOnLanes lanes) (replicate columns no_column)
blank_columns lanes columns k d lt =
    subst (IsColumnOnLanes lanes) (sym (get_or-replicate columns k no_column d (omega (arith, lt, length-replicate columns no_column)))) (no_column_on lanes)

-- it is a circuit, with this box and these ports
record IsSizeOfPorts (width height : ℕ) (ports : Ports) (lanes columns loops : ℕ) (ins outs : List ℕ) : Type 0 where
  size : IsSizeOfPlan width height ports.p ports.l lanes columns loops
  contexts : ports.c ≡ 1
  own_ins : AreDistinctBelow (lanes - loops) ins
  in_cells : cells_of ports.ins ≡ map (cell_on (32 * (loops + 0))) ins
  own_outs : AreDistinctBelow (lanes - loops) outs
  out_cells : cells_of ports.outs ≡ map (cell_on (32 * (loops + columns))) outs

blank_circuit : (width height : ℕ) (ports : Ports) (lanes columns loops : ℕ) (ins outs : List ℕ) → IsSizeOfPorts width height ports lanes columns loops ins outs
    → IsCircuit (blank_plan lanes columns loops ins outs)
blank_circuit width height ports lanes columns loops ins outs s =
    let many : length (replicate columns no_column) ≡ columns = length-replicate columns no_column in
    record {
      admissible = record {
        size = record {
          lanes = s.size.few_lanes;
          columns = omega (arith, s.size.few_columns, many);
          both = (λ none. many ∙ s.size.both.0 none, λ none. s.size.both.1 (sym many ∙ none));
          loops_on_lanes = s.size.loops_on_lanes;
          loops_in_columns = omega (arith, s.size.loops_in_columns, many);
        };
        instrs = blank_columns lanes columns;
        apart = columns_apart (replicate columns no_column);
        ins = s.own_ins;
        outs = s.own_outs;
        nets = λ k d lt. absurd (omega (arith, lt));
        tape = record { each_input = inl refl; lists = no_lists [] refl };
      };
      no_tape = refl;
      at_loops = none_at lanes loops;
    }

blank_box : (width height : ℕ) (ports : Ports) (lanes columns loops : ℕ) (ins outs : List ℕ) → IsSizeOfPorts width height ports lanes columns loops ins outs
    → HasBoxAndPorts width height ports (blank_plan lanes columns loops ins outs)
blank_box width height ports lanes columns loops ins outs s =
    let many : columns ≡ length (replicate columns no_column) = sym (length-replicate columns no_column) in
    record {
      size = size_by (lanes == 0) (32 * (tape_shift (blank_plan lanes columns loops ins outs) + (length (replicate columns no_column) + 2 * loops)) + 1) (16 * (lanes + loops)) width height
          (s.size.width_is
          ∙ ap (λ n. cond (lanes == 0) 0 (32 * (n + 2 * loops) + 1)) many
          ∙ ap (λ n. cond (lanes == 0) 0 (32 * n + 1)) (sym (bare_width (blank_plan lanes columns loops ins outs) refl)))
          s.size.height_is;
      period = s.size.period_is ∙ ap (λ n. cond (loops == 0) 32 (32 * (2 * n + 4 * loops))) many;
      latency = s.size.latency_is ∙ ap (λ n. 32 * n) many;
      contexts = s.contexts;
      in_cells = s.in_cells;
      out_cells = s.out_cells ∙ ap (λ n. map (cell_on (32 * (loops + n))) outs) many;
    }

bare_size : (width height : ℕ) (ports : Ports) → ports.c ≡ 1 → IsBareBox width height ports → IsSizeOfPorts width height ports 0 0 0 [] []
bare_size width height ports one b = record {
  size = record {
    few_lanes = grind arith;
    few_columns = grind arith;
    both = (λ e. e, λ e. e);
    loops_on_lanes = omega arith;
    loops_in_columns = omega arith;
    latency_is = b.latency;
    period_is = b.period;
    width_is = b.width_is;
    height_is = b.height_is;
  };
  contexts = one;
  own_ins = record { below = λ k d lt. absurd (omega (arith, lt)); distinct = λ i j d order within. absurd (omega (arith, within)) };
  in_cells = ap cells_of b.ins;
  own_outs = record { below = λ k d lt. absurd (omega (arith, lt)); distinct = λ i j d order within. absurd (omega (arith, within)) };
  out_cells = ap cells_of b.outs;
}

filled_size : (width height : ℕ) (ports : Ports) (lanes columns loops : ℕ) → ports.c ≡ 1 → (b : IsFilledBox width height ports lanes columns loops)
    → IsSizeOfPorts width height ports lanes columns loops b.ins.lanes b.outs.lanes
filled_size width height ports lanes columns loops one b =
    let no : (lanes == 0) ≡ false = grind (arith, nat_tests, b.some_lanes) in
    let first : 32 * loops ≡ 32 * (loops + 0) = omega arith in
    record {
      size = record {
        few_lanes = b.few_lanes;
        few_columns = b.few_columns;
        both = (λ none. absurd (omega (arith, none, b.some_lanes)), λ none. absurd (omega (arith, none, b.some_columns)));
        loops_on_lanes = b.loops_on_lanes;
        loops_in_columns = b.loops_in_columns;
        latency_is = b.latency;
        period_is = b.period;
        width_is = b.width_is ∙ sym (ap (λ t. cond t 0 (32 * (columns + 2 * loops) + 1)) no);
        height_is = b.height_is ∙ sym (ap (λ t. cond t 0 (16 * (lanes + loops))) no);
      };
      contexts = one;
      own_ins = b.ins.distinct;
      in_cells = b.ins.cells ∙ ap (λ x. map (cell_on x) b.ins.lanes) first;
      own_outs = b.outs.distinct;
      out_cells = b.outs.cells;
    }

has_plan : (grid : Grid) (ports : Ports) (lanes columns loops : ℕ) (ins outs : List ℕ) → IsSizeOfPorts grid.width grid.height ports lanes columns loops ins outs → HasSomePlan grid ports
has_plan grid ports lanes columns loops ins outs s = (
  blank_plan lanes columns loops ins outs,
  blank_circuit grid.width grid.height ports lanes columns loops ins outs s,
  blank_box grid.width grid.height ports lanes columns loops ins outs s,
)

pub sizes_are_equations : SizesAreEquations
sizes_are_equations grid ports = (
  λ some. (
    some.2.contexts,
    ⊎_elim
        (λ none. inl (bare_box grid.width grid.height ports some.0 some.1 some.2 none))
        (λ filled. inr (some.0.lanes, length some.0.columns, some.0.latches, filled_box grid.width grid.height ports some.0 some.1 some.2 filled))
        (cases_eq some.0.lanes 0),
  ),
  λ size.
      ⊎_elim
      (λ b. has_plan grid ports 0 0 0 [] [] (bare_size grid.width grid.height ports size.0 b))
      (λ b. has_plan grid ports b.0 b.1 b.2 b.3.ins.lanes b.3.outs.lanes (filled_size grid.width grid.height ports b.0 b.1 b.2 size.0 b.3))
      size.1,
)

-- The plan that is read of a pattern with a table is a circuit of its box and ports.
use Rattle.std.proofs.Common.{◌≡◌, sym, ◌∙◌, ap, ap₂, subst, ℕ, zero, suc, ◌+◌, ◌-◌, ◌*◌, Bool, true, false, cond, ◌==◌, List, [], map, length, get_or, Some, inl, arith}
use Rattle.std.specs.Prelude.{All}
use Rattle.std.proofs.lemmas.List.{length-map, get_or-map}
use Rattle.std.proofs.lemmas.List.FromFn.{length-map-range_with_len, get_or-map-range_with_len}
use Rattle.ww_rule.specs.declared.pattern.State.{State}
use Rattle.ww_rule.specs.Grid.{Grid}
use Rattle.lane_core.specs.declared.instr.Instr.{Instr}
use Rattle.lane_core.specs.declared.instr.Instr.TheVariants.{Swap, Fork, Xor, Or, AndNot}
use Rattle.lane_core.specs.declared.instr.Column.{Column}
use Rattle.lane_core.specs.declared.plan.Plan.{Plan}
use Rattle.lane_core.specs.Instrs.{lane_of, IsOnLanes}
use Rattle.lane_core.specs.Columns.{IsColumnOnLanes}
use Rattle.lane_core.specs.Plans.{IsAdmissible}
use Rattle.lane_core.specs.Tape.{AreTapeLists, tape_shift}
use Rattle.circuit_plans.specs.Circuits.{IsCircuit, IsLoopStart, starts_where}
use Rattle.circuit_plans.proofs.Ordered.{where_at_loops}
use Rattle.lane_core.proofs.Lookup.{columns_apart}
use Rattle.pattern_reading.specs.declared.ports.Ports.{Ports}
use Rattle.tile_match.specs.Blocks.{instr_of_cells, is_filled_in, instr_in, column_shown, column_start, columns_shown, bit_shown}
use Rattle.tile_match.specs.Circuit.{HasBoxAndPorts, HasSomePlan}
use Rattle.tile_match.specs.Sizes.{IsSizeOfPlan}
use Rattle.tile_match.specs.Read.{IsPlanRead, IsBodyRead}
use Rattle.lane_core.specs.Places.{AreDistinctBelow}
use Rattle.pattern_reading.specs.declared.ports.PortLine.{PortLine}
use Rattle.pattern_reading.specs.Ports.{cells_of}
use Rattle.tile_match.proofs.Within.{Within, all_within, on_within}
use Rattle.tile_match.proofs.Sizes.{size_is, one_size, bare_width}
use Rattle.tile_match.proofs.One.{cell_on}

-- what is shown on a lane is an instruction on it
own_lane : (lane : ℕ) (climbs falls ends : Bool) (x : Instr) → instr_of_cells lane climbs falls ends ≡ Some x → lane_of x ≡ lane
own_lane lane true falls true x e = let is : x ≡ Fork lane = cc in ap lane_of is
own_lane lane true falls false x e = let is : x ≡ Swap lane = cc in ap lane_of is
own_lane lane false true true x e = let is : x ≡ Or lane = cc in ap lane_of is
own_lane lane false true false x e = let is : x ≡ Xor lane = cc in ap lane_of is
own_lane lane false false true x e = absurd (cc)
own_lane lane false false false x e = let is : x ≡ AndNot lane = cc in ap lane_of is

pub within_shown : (rows : List (List State)) (lanes x : ℕ) → Within 0 (lanes - 1) (column_shown rows lanes x)
within_shown rows lanes x =
    all_within (instr_in rows x)
    (λ lane i e. own_lane lane (is_filled_in rows (x + 3) (16 * lane + 6)) (is_filled_in rows (x + 5) (16 * lane + 9)) (is_filled_in rows (x + 23) (16 * lane + 8)) i e)
    (lanes - 1)

on_lanes : (rows : List (List State)) (lanes x : ℕ) → All (IsOnLanes lanes) (column_shown rows lanes x)
on_lanes rows zero x = λ k d lt. absurd (omega arith)
on_lanes rows (suc lanes) x = on_within 0 (suc lanes - 1) (suc lanes) (column_shown rows (suc lanes) x) (within_shown rows (suc lanes) x) (omega arith)

columns_on : (rows : List (List State)) (lanes loops : ℕ) (columns : List Column) → map (λ column. column.instrs) columns ≡ columns_shown rows lanes loops (length columns)
    → All (IsColumnOnLanes lanes) columns
columns_on rows lanes loops columns e k d lt =
    let is : (get_or columns k d).instrs ≡ column_shown rows lanes (column_start loops k) =
    sym (get_or-map (λ (column : Column). column.instrs) columns k d [] lt) ∙ ap (λ xs. get_or xs k []) e
    ∙ get_or-map-range_with_len (λ n. column_shown rows lanes (column_start loops n)) 0 (length columns) k k [] lt (omega arith) in
    subst (All (IsOnLanes lanes)) (sym is) (on_lanes rows lanes (column_start loops k))

pub size_by : (b : Bool) (across down width height : ℕ) → width ≡ cond b 0 across → height ≡ cond b 0 down → cond {A = ℕ × ℕ} b (0, 0) (across, down) ≡ (width, height)
size_by true across down width height e f = ap₂ (λ (x y : ℕ). (x, y)) (sym e) (sym f)
size_by false across down width height e f = ap₂ (λ (x y : ℕ). (x, y)) (sym e) (sym f)

-- without a tape there are no lists of bits
pub no_lists : (tape : List (List Bool)) → tape ≡ [] → AreTapeLists tape
no_lists tape none = record {
  range = λ k d lt. absurd (omega (arith, lt, ap length none));
  alike = λ k d lt. absurd (omega (arith, lt, ap length none));
}

pub read_admissible : (grid : Grid) (ports : Ports) (plan : Plan) → IsPlanRead grid ports plan → plan.nets ≡ [] → IsAdmissible plan
read_admissible grid ports plan r none = record {
  size = record {
    lanes = r.size.few_lanes;
    columns = r.size.few_columns;
    both = r.size.both;
    loops_on_lanes = r.size.loops_on_lanes;
    loops_in_columns = r.size.loops_in_columns;
  };
  instrs = columns_on grid.rows plan.lanes plan.latches plan.columns r.columns;
  apart = columns_apart plan.columns;
  ins = r.ins;
  outs = r.outs;
  nets = λ k d lt. absurd (omega (arith, lt, ap length none));
  tape = record { each_input = inl r.no_tape; lists = no_lists plan.tape r.no_tape };
}

pub read_circuit : (grid : Grid) (ports : Ports) (plan : Plan) → IsPlanRead grid ports plan → plan.nets ≡ [] → IsCircuit plan
read_circuit grid ports plan r none = record {
  admissible = read_admissible grid ports plan r none;
  no_tape = r.no_tape;
  at_loops = subst (All (IsLoopStart plan.lanes plan.latches)) (sym r.starts) (where_at_loops plan.lanes plan.latches (bit_shown grid.rows plan.lanes plan.latches));
}

pub read_ports : (grid : Grid) (ports : Ports) (plan : Plan) → IsPlanRead grid ports plan → HasBoxAndPorts grid.width grid.height ports plan
read_ports grid ports plan r = record {
  size = size_by (plan.lanes == 0) (32 * (tape_shift plan + (length plan.columns + 2 * plan.latches)) + 1) (16 * (plan.lanes + plan.latches)) grid.width grid.height
      (r.size.width_is ∙ ap (λ n. cond (plan.lanes == 0) 0 (32 * n + 1)) (sym (bare_width plan r.no_tape))) r.size.height_is;
  contexts = r.contexts;
  period = r.size.period_is;
  latency = r.size.latency_is;
  in_cells = r.in_cells;
  out_cells = r.out_cells;
}

pub some_plan : (grid : Grid) (ports : Ports) (plan : Plan) → IsPlanRead grid ports plan → plan.nets ≡ [] → HasSomePlan grid ports
some_plan grid ports plan r none = (plan, read_circuit grid ports plan r none, read_ports grid ports plan r)

-- the ports of a plan with a box and ports
pub record ArePortsOn (limit x : ℕ) (lines : List PortLine) (lanes : List ℕ) : Type 0 where
  pub distinct : AreDistinctBelow limit lanes
  pub cells : cells_of lines ≡ map (cell_on x) lanes

pub ins_fit : (width height : ℕ) (ports : Ports) (lanes columns loops : ℕ) → IsSizeOfPlan width height ports.p ports.l lanes columns loops
    → (plan : Plan) → IsCircuit plan → HasBoxAndPorts width height ports plan → ArePortsOn (lanes - loops) (32 * loops) ports.ins plan.ins
ins_fit width height ports lanes columns loops s plan h has =
    let one = one_size width height ports.p ports.l plan.lanes lanes (length plan.columns) columns plan.latches loops (size_is width height ports plan h has) s in
    let place : 32 * (plan.latches + 0) ≡ 32 * loops = omega (arith, one.loops_same) in
    record {
      distinct = subst (λ n. AreDistinctBelow n plan.ins) (ap₂ (λ a b. a - b) one.lanes_same one.loops_same) h.admissible.ins;
      cells = has.in_cells ∙ ap (λ x. map (cell_on x) plan.ins) place;
    }

pub outs_fit : (width height : ℕ) (ports : Ports) (lanes columns loops : ℕ) → IsSizeOfPlan width height ports.p ports.l lanes columns loops
    → (plan : Plan) → IsCircuit plan → HasBoxAndPorts width height ports plan → ArePortsOn (lanes - loops) (32 * (loops + columns)) ports.outs plan.outs
outs_fit width height ports lanes columns loops s plan h has =
    let one = one_size width height ports.p ports.l plan.lanes lanes (length plan.columns) columns plan.latches loops (size_is width height ports plan h has) s in
    let place : 32 * (plan.latches + length plan.columns) ≡ 32 * (loops + columns) = omega (arith, one.loops_same, one.columns_same) in
    record {
      distinct = subst (λ n. AreDistinctBelow n plan.outs) (ap₂ (λ a b. a - b) one.lanes_same one.loops_same) h.admissible.outs;
      cells = has.out_cells ∙ ap (λ x. map (cell_on x) plan.outs) place;
    }

abbrev with_ports : Plan → List ℕ → List ℕ → Plan
with_ports body ins outs =
    record { lanes = body.lanes; columns = body.columns; latches = body.latches; starts = body.starts; ins = ins; outs = outs; nets = body.nets; tape = body.tape }

-- what is read, with its ports
pub is_read : (grid : Grid) (ports : Ports) (lanes columns loops : ℕ) → IsSizeOfPlan grid.width grid.height ports.p ports.l lanes columns loops → ports.c ≡ 1
    → (body : Plan) → IsBodyRead grid.rows lanes columns loops body → (ins outs : List ℕ) → ArePortsOn (lanes - loops) (32 * loops) ports.ins ins
    → ArePortsOn (lanes - loops) (32 * (loops + columns)) ports.outs outs → IsPlanRead grid ports (with_ports body ins outs)
is_read grid ports lanes columns loops s one body b ins outs own_ins own_outs =
    let many : length body.columns ≡ columns =
    sym (length-map body.columns (λ (column : Column). column.instrs)) ∙ ap length b.columns_are ∙ length-map-range_with_len (λ n. column_shown grid.rows lanes (column_start loops n)) 0 columns in
    let first : 32 * loops ≡ 32 * (body.latches + 0) = omega (arith, b.loops_are) in
    let last : 32 * (loops + columns) ≡ 32 * (body.latches + length body.columns) = omega (arith, b.loops_are, many) in
    record {
      size = subst (λ n. IsSizeOfPlan grid.width grid.height ports.p ports.l n (length body.columns) body.latches) (sym b.lanes_are)
          (subst (λ n. IsSizeOfPlan grid.width grid.height ports.p ports.l lanes n body.latches) (sym many)
          (subst (λ n. IsSizeOfPlan grid.width grid.height ports.p ports.l lanes columns n) (sym b.loops_are) s));
      contexts = one;
      columns = b.columns_are
          ∙ ap (λ n. columns_shown grid.rows n loops columns) (sym b.lanes_are)
          ∙ ap (λ n. columns_shown grid.rows body.lanes n columns) (sym b.loops_are)
          ∙ ap (λ n. columns_shown grid.rows body.lanes body.latches n) (sym many);
      starts = b.starts_are
          ∙ ap (λ n. starts_where n loops (bit_shown grid.rows n loops)) (sym b.lanes_are)
          ∙ ap (λ n. starts_where body.lanes n (bit_shown grid.rows body.lanes n)) (sym b.loops_are);
      ins = subst (λ n. AreDistinctBelow n ins) (ap₂ (λ a b. a - b) (sym b.lanes_are) (sym b.loops_are)) own_ins.distinct;
      in_cells = own_ins.cells ∙ ap (λ x. map (cell_on x) ins) first;
      outs = subst (λ n. AreDistinctBelow n outs) (ap₂ (λ a b. a - b) (sym b.lanes_are) (sym b.loops_are)) own_outs.distinct;
      out_cells = own_outs.cells ∙ ap (λ x. map (cell_on x) outs) last;
      no_tape = b.no_tape;
    }

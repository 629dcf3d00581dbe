use Rattle.std.proofs.Common.{rules, ◌≡◌, sym, ◌∙◌, ap, ap₂, subst, List, length}
use Rattle.std.specs.Prelude.{All}
use Rattle.lane_core.specs.declared.instr.Column.{Column}
use Rattle.lane_core.specs.Columns.{IsColumnOnLanes}
use Rattle.cell_core.specs.declared.cells.Src.{Src}
use Rattle.cell_core.specs.declared.cells.Cell.{Cell}
use Rattle.circuit_plans.specs.Lifted.{Lanes, lanes_of, lift_columns, entry_lanes, sources_on, sources_leaving}
use Rattle.circuit_plans.proofs.Whole.{is_kept, entry_long}
use Rattle.circuit_plans.proofs.lifting.list_of.Goals as goal

pub lift_columns-requires : goal.lift_columns-requires
lift_columns-requires c =
    let plan = c.args.plan.now in
    let long : length c.args.sources.now ≡ c.args.plan.now.lanes = ap length c.requires.entry ∙ entry_long c.args.plan.now c.requires.admissible in
    subst (λ (columns : List Column). All (IsColumnOnLanes (length c.args.sources.now)) columns) (sym c.as_slice.ensures)
    (subst (λ n. All (IsColumnOnLanes n) c.args.plan.now.columns) (sym long) c.requires.admissible.instrs)

pub invariant_of-result : goal.invariant_of-result
invariant_of-result c =
    let lifted : lanes_of c.lift_columns.new.cells.items c.lift_columns.new.sources ≡ lift_columns (entry_lanes c.args.plan.now) c.args.plan.now.columns =
    c.in_ok-lift_columns.ensures
    ∙ ap₂ (λ (cells : List Cell) (sources : List Src). lift_columns (lanes_of cells sources) c.as_slice.result.now) c.new-cells.ensures.items c.requires.entry
    ∙ ap (lift_columns (entry_lanes c.args.plan.now)) c.as_slice.ensures in
    let outs = c.of-2.ensures ∙ c.in_ok-outs.ensures ∙ ap₂ sources_on (ap (λ (l : Lanes). l.sources) lifted) c.as_slice-2.ensures in
    let latches = c.of-3.ensures ∙ c.in_ok-latches.ensures ∙ ap (λ (l : Lanes). sources_leaving l.sources c.args.plan.now.lanes c.args.plan.now.latches) lifted in
    let kept = is_kept c.args.plan.now c.requires.admissible c.args.inputs c.of.result c.of-2.result c.of-3.result c.of-4.result c.requires.inputs
    (c.of.ensures ∙ ap (λ (l : Lanes). l.cells) lifted) outs latches (c.of-4.ensures ∙ c.in_ok-starts.ensures) in
    record {
      in_order = kept.in_order;
      outs_there = kept.outs_there;
      latches_there = kept.latches_there;
      nets_there = search rules;
      starts_fit = kept.starts_fit;
    }

pub returns : goal.returns
returns c =
    let lifted : lanes_of c.lift_columns.new.cells.items c.lift_columns.new.sources ≡ lift_columns (entry_lanes c.args.plan.now) c.args.plan.now.columns =
    c.in_ok-lift_columns.ensures
    ∙ ap₂ (λ (cells : List Cell) (sources : List Src). lift_columns (lanes_of cells sources) c.as_slice.result.now) c.new-cells.ensures.items c.requires.entry
    ∙ ap (lift_columns (entry_lanes c.args.plan.now)) c.as_slice.ensures in
    record {
      inputs = c.requires.inputs;
      cells = c.of.ensures ∙ ap (λ (l : Lanes). l.cells) lifted;
      outs = c.of-2.ensures ∙ c.in_ok-outs.ensures ∙ ap₂ sources_on (ap (λ (l : Lanes). l.sources) lifted) c.as_slice-2.ensures;
      latches = c.of-3.ensures ∙ c.in_ok-latches.ensures ∙ ap (λ (l : Lanes). sources_leaving l.sources c.args.plan.now.lanes c.args.plan.now.latches) lifted;
      starts = c.of-4.ensures ∙ c.in_ok-starts.ensures;
      nets = search rules;
    }

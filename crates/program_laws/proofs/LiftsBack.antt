-- What `compile` writes for one context, and what `aiger` writes, is a circuit's text; a text is lifted in one way; and the netlist that is lifted prints what the
-- pattern does.
use Rattle.std.proofs.Common.{◌≡◌, ◌∙◌, ◌+◌, refl, sym, ap, ap₂, subst, ℕ, Bool, false, List, [], ◌∷◌, ◌++◌, length, codes, arith}
use Rattle.ww_rule.specs.Grid.{Grid}
use Rattle.lane_core.specs.declared.plan.Plan.{Plan}
use Rattle.grid_assembly.specs.PlanDrawing.{start_grid}
use Rattle.pattern_reading.specs.declared.ports.Ports.{Ports}
use Rattle.pattern_reading.specs.Ports.{names_of}
use Rattle.pattern_reading.specs.Pattern.{ReadsWithinLimit}
use Rattle.pattern_reading.specs.PortTable.{ReadsAsPorts}
use Rattle.pattern_writing.specs.WrittenText.{pattern_text}
use Rattle.plan_carries.specs.Laws.{PlansHavePorts}
use Rattle.lift_carries.specs.Compiled.{CompiledAreDrawings, IsWrittenDrawing}
use Rattle.aiger_text.specs.Laws.{ReadAigsAreSound}
use Rattle.aiger_meaning.specs.Laws.{FlatsOfAigsAreLowered}
use Rattle.netlist_plans.specs.TextNames.{NetsAreWords}
use Rattle.tile_match.specs.Names.{has_bad_name}
use Rattle.cell_core.specs.declared.cells.Src.{Src}
use Rattle.cell_core.specs.declared.cells.Cell.{Cell}
use Rattle.cell_core.specs.declared.list.CellList.{CellList}
use Rattle.circuit_plans.specs.Circuits.{without_nets}
use Rattle.circuit_plans.specs.Lists.{IsListOf}
use Rattle.tile_match.specs.Circuit.{IsPlanDrawing}
use Rattle.tile_match.specs.Laws.{DrawsOnePlan}
use Rattle.netlist_core.specs.declared.model.Design.{Design}
use Rattle.blif_text.proofs.OneFault.{one_design}
use Rattle.netlist_core.specs.Names.{Name}
use Rattle.blif_write.specs.Text.{lifted_text, worded_text}
use Rattle.lifted_designs.specs.Lifted.{lifted_design, line_past_cells}
use Rattle.lifted_designs.specs.Names.{mark, zero_name}
use Rattle.lifted_designs.specs.Lines.{cell_lines, latch_lines, lines_of_outputs, worded_line}
use Rattle.carries.specs.Carries.{Carries}
use Rattle.carries.specs.Cells.{Spells}
use Rattle.carries.proofs.OneWay.{one_spelling}
use Rattle.shown_runs.specs.ShownRuns.{CarriersShowRuns, StreamsMatch}
use Rattle.blifww_tool.specs.Commands.{Accepts}
use Rattle.command_words.specs.Shapes.{lift}
use Rattle.program_laws.specs.AigPrints.{AigsAreLifted}
use Rattle.program_laws.specs.LiftsBack.{CompiledAreLifted, LiftedInOneWay, LiftedPrintAlike}
use Rattle.program_laws.proofs.AigDrawings.{drawing_of_aig}
use Rattle.program_laws.proofs.GoodNames.{compiled_names_are_good}
use Rattle.program_laws.proofs.PrintsAlike.{same_lines}

-- `lift` accepts the written text of a drawing
accepted : (text : List ℕ) (plan : Plan) (own : Ports) → text ≡ pattern_text (start_grid plan) own → IsWrittenDrawing plan own
    → (grid : Grid) (ports : Ports) → ReadsWithinLimit text grid → ReadsAsPorts text grid.width grid.height ports → has_bad_name ports ≡ false → Accepts lift text
accepted text plan own written drawn grid ports reads table named =
    let spells : Spells text (start_grid plan) own = subst (λ (t : List ℕ). Spells t (start_grid plan) own) (sym written) drawn.spells in
    let same = one_spelling text (start_grid plan) grid own ports spells (record { reads = reads.0; table = table }) in
    let drawing : IsPlanDrawing grid ports plan =
    subst (λ (p : Ports). IsPlanDrawing grid p plan) same.1 (subst (λ (g : Grid). IsPlanDrawing g own plan) same.0 drawn.drawing) in
    (grid, ports, plan, record { pattern = reads; table = table; drawing = drawing; named = named })

pub compiled_are_lifted : NetsAreWords → CompiledAreLifted
compiled_are_lifted words starts netlist text h grid ports reads table named =
    accepted text h.plan h.ports h.written (h.drawing refl) grid ports reads table
    (compiled_names_are_good words 1 starts netlist text h grid.width grid.height ports table ∙ named)

pub aigs_are_lifted : CompiledAreDrawings → PlansHavePorts → FlatsOfAigsAreLowered → ReadAigsAreSound → AigsAreLifted
aigs_are_lifted drawings ports_law lower sound source text h grid ports =
    accepted text h.plan h.ports h.written
    (drawing_of_aig drawings ports_law lower h.aig h.plan h.ports (sound source h.aig h.is.reads) (omega (arith, h.is.light)) h.is_plan) grid ports

-- ---- one way

-- the text by what is written of a list
abbrev text_by : (ins outs : List Name) → (latches : List Src) → (starts : List Bool) → List Cell → (sources : List Src) → List ℕ
text_by ins outs latches starts cells sources =
    let p = mark (ins ++ outs) in
    worded_text (
    worded_line 1 (codes ".model" ∷ codes "lifted" ∷ [])
    ∷ worded_line 2 (codes ".inputs" ∷ ins)
    ∷ worded_line 3 (codes ".outputs" ∷ outs)
    ∷ worded_line 4 (codes ".names" ∷ zero_name p ∷ [])
    ∷ latch_lines p ins 5 0 latches starts
    (cell_lines p ins (5 + length latches) 0 cells (lines_of_outputs p ins (line_past_cells (5 + length latches) cells) outs sources))
    )

text_is : (ins outs : List Name) (list : CellList) → lifted_text ins outs list ≡ text_by ins outs list.latches list.starts list.cells list.outs
text_is ins outs list = refl

-- two lists of a plan give one text
same_text : (plan : Plan) (ins outs : List Name) (a b : CellList) → IsListOf plan a → IsListOf plan b → lifted_text ins outs a ≡ lifted_text ins outs b
same_text plan ins outs a b h k =
    text_is ins outs a
    ∙ ap₂ (λ latches starts. text_by ins outs latches starts a.cells a.outs) (h.latches ∙ sym k.latches) (h.starts ∙ sym k.starts)
    ∙ ap₂ (λ cells sources. text_by ins outs b.latches b.starts cells sources) (h.cells ∙ sym k.cells) (h.outs ∙ sym k.outs)
    ∙ sym (text_is ins outs b)

-- whatever the places of its nets are
bare_list : (plan : Plan) (list : CellList) → IsListOf plan list → IsListOf (without_nets plan) list
bare_list plan list h = record { inputs = h.inputs; cells = h.cells; outs = h.outs; latches = h.latches; starts = h.starts; nets = h.nets }

pub lifted_in_one_way : DrawsOnePlan → LiftedInOneWay
lifted_in_one_way law text a b h k =
    let same = one_spelling text h.grid k.grid h.ports k.ports (record { reads = h.is.pattern.0; table = h.is.table }) (record { reads = k.is.pattern.0; table = k.is.table }) in
    let drawing : IsPlanDrawing k.grid k.ports h.plan =
    subst (λ (p : Ports). IsPlanDrawing k.grid p h.plan) same.1 (subst (λ (g : Grid). IsPlanDrawing g h.ports h.plan) same.0 h.is.drawing) in
    let plans : without_nets h.plan ≡ without_nets k.plan = law k.grid k.ports h.plan k.plan drawing k.is.drawing in
    let of_other : IsListOf (without_nets k.plan) h.lift.list = subst (λ (p : Plan). IsListOf p h.lift.list) plans (bare_list h.plan h.lift.list h.of_plan.cells) in
    let ins : h.lift.ins ≡ k.lift.ins = h.of_plan.ins ∙ ap (λ (p : Ports). names_of p.ins) same.1 ∙ sym k.of_plan.ins in
    let outs : h.lift.outs ≡ k.lift.outs = h.of_plan.outs ∙ ap (λ (p : Ports). names_of p.outs) same.1 ∙ sym k.of_plan.outs in
    h.written
    ∙ ap₂ (λ ins outs. lifted_text ins outs h.lift.list) ins outs
    ∙ same_text (without_nets k.plan) k.lift.ins k.lift.outs h.lift.list k.lift.list of_other (bare_list k.plan k.lift.list k.of_plan.cells)
    ∙ sym k.written

-- ---- what is printed

pub lifted_print_alike : CarriersShowRuns → StreamsMatch → LiftedPrintAlike
lifted_print_alike law match text netlist h cycles words shown evaluated simulated evaluates =
    let e = evaluates.evaluation in
    let design : Design = lifted_design h.lift.ins h.lift.outs h.lift.list in
    let same : design ≡ e.design = one_design netlist design e.design h.netlist.design_of evaluates.is.netlist.is.design_of in
    simulated.2
    ∙ same_lines law match text netlist cycles words simulated.0 e simulated.1.is evaluates.is (subst (λ (d : Design). Carries text d) same h.netlist.carries) evaluates.run evaluates.is_run
    ∙ sym evaluates.lines

-- Netlists that one text carries evaluate alike.
use Rattle.std.proofs.Common.{ℕ, ◌≡◌, refl, sym, ap, ap₂, ◌∙◌, subst, List, flat_map}
use Rattle.ww_rule.specs.Grid.{Grid, plane_of}
use Rattle.pattern_reading.specs.declared.ports.Ports.{Ports}
use Rattle.grid_assembly.specs.PlanDrawing.{start_grid}
use Rattle.pattern_reading.specs.Ports.{names_of}
use Rattle.pattern_writing.specs.WrittenText.{pattern_text}
use Rattle.netlist_core.specs.declared.model.Design.{Design}
use Rattle.netlist_core.specs.Names.{Name}
use Rattle.netlist_meaning.specs.Valuation.{Valuation, IsRun}
use Rattle.netlist_meaning.proofs.Joined.{in_names_are_one}
use Rattle.netlist_text.specs.Laws.{TextsAreDecided}
use Rattle.carries.specs.Carries.{Carries}
use Rattle.carries.proofs.OneWay.{one_spelling}
use Rattle.streams.specs.declared.streams.Streams.{Streams}
use Rattle.streams.specs.Streams.{HasStreams}
use Rattle.streams.specs.Rows.{rows_of}
use Rattle.drive.specs.Driving.{shown_at}
use Rattle.shown_runs.specs.ShownRuns.{CarriersShowRuns, StreamsMatch}
use Rattle.blif_text.proofs.OneFault.{one_design}
use Rattle.lifted_designs.specs.Lifted.{lifted_design}
use Rattle.blifww_tool.specs.Lines.{bits_line}
use Rattle.blifww_tool.specs.Evaluation.{Evaluation, IsEvaluation, evaluation_text}
use Rattle.program_laws.specs.EvaluatesAlike.{CarriedEvaluateAlike, LiftedEvaluateAlike}
use Rattle.blifww_tool.proofs.Compiled.{carries_alone}

-- the lines that a pattern shows
abbrev pub shown_by_table : Ports → Streams → Grid → List ℕ
shown_by_table ports streams grid = flat_map (λ out. bits_line out.name (shown_at ports streams (plane_of grid.rows) 0 out)) ports.outs

-- the words give the names of the table the streams of the evaluation
table_streams : (text netlist : List ℕ) (cycles : ℕ) (words : List (List ℕ)) (e : Evaluation) → IsEvaluation cycles words netlist e → (c : Carries text e.design)
    → HasStreams 1 words (names_of c.ports.ins) e.streams.cycles e.streams.bits
table_streams text netlist cycles words e is c =
    let same : e.in_names ≡ names_of c.ports.ins = in_names_are_one e.design e.in_names (names_of c.ports.ins) is.names c.names.ins in
    subst (λ (ns : List Name). HasStreams 1 words ns e.streams.cycles e.streams.bits) same
    (subst (λ (n : ℕ). HasStreams 1 words e.in_names n e.streams.bits) (sym is.many) is.streams)

-- an evaluation's lines are those that the pattern shows
lines_shown : CarriersShowRuns → StreamsMatch → (text netlist : List ℕ) (cycles : ℕ) (words : List (List ℕ)) (e : Evaluation) → IsEvaluation cycles words netlist e
    → (c : Carries text e.design) → (run : ℕ → Valuation) → IsRun e.design (rows_of e.streams) run
    → shown_by_table c.ports e.streams c.grid ≡ evaluation_text e run
lines_shown law match text netlist cycles words e is c run is_run =
    let of_table = table_streams text netlist cycles words e is c in
    let same = match text e.design c words (names_of c.ports.ins) e.streams e.streams c.names.ins is.contexts is.contexts refl of_table of_table in
    ((law text e.design c e.streams same.1).shown run is_run).lines bits_line

-- evaluations of netlists that one text carries have the same lines
same_evaluations : CarriersShowRuns → StreamsMatch → (text a b : List ℕ) (cycles : ℕ) (words : List (List ℕ)) (d e : Evaluation)
    → IsEvaluation cycles words a d → IsEvaluation cycles words b e → Carries text d.design → Carries text e.design
    → (run other : ℕ → Valuation) → IsRun d.design (rows_of d.streams) run → IsRun e.design (rows_of e.streams) other
    → evaluation_text d run ≡ evaluation_text e other
same_evaluations law match text a b cycles words d e of_d of_e c k run other is_run is_other =
    let read = one_spelling text c.grid k.grid c.ports k.ports c.spells k.spells in
    let in_table : HasStreams 1 words (names_of c.ports.ins) e.streams.cycles e.streams.bits =
    subst (λ (p : Ports). HasStreams 1 words (names_of p.ins) e.streams.cycles e.streams.bits) (sym read.1) (table_streams text b cycles words e of_e k) in
    let streams : d.streams ≡ e.streams =
    (match text d.design c words (names_of c.ports.ins) d.streams e.streams c.names.ins of_d.contexts of_e.contexts (of_d.many ∙ sym of_e.many)
    (table_streams text a cycles words d of_d c) in_table).0 in
    sym (lines_shown law match text a cycles words d of_d c run is_run)
    ∙ ap₂ (λ (p : Ports) (g : Grid). shown_by_table p d.streams g) read.1 read.0
    ∙ ap (λ (s : Streams). shown_by_table k.ports s k.grid) streams
    ∙ lines_shown law match text b cycles words e of_e k other is_other

pub carried_evaluate_alike : CarriersShowRuns → StreamsMatch → TextsAreDecided → CarriedEvaluateAlike
carried_evaluate_alike law match decided text a b design other is is_other c k cycles words of_a of_b h l =
    let d = h.evaluation in
    let e = l.evaluation in
    let first : design ≡ d.design = (decided a).one_design design d.design is h.is.netlist in
    let second : other ≡ e.design = (decided b).one_design other e.design is_other l.is.netlist in
    h.lines
    ∙ same_evaluations law match text a b cycles words d e h.is l.is (subst (λ (x : Design). Carries text x) first c) (subst (λ (x : Design). Carries text x) second k) h.run l.run h.is_run l.is_run
    ∙ sym l.lines

pub lifted_evaluate_alike : CarriersShowRuns → StreamsMatch → TextsAreDecided → LiftedEvaluateAlike
lifted_evaluate_alike law match decided netlist text lifted compiled lifts cycles words first second h l =
    let d = h.evaluation in
    let e = l.evaluation in
    let design : Design = lifted_design lifts.lift.ins lifts.lift.outs lifts.lift.list in
    let of_lifted : design ≡ e.design = one_design lifted design e.design lifts.netlist.design_of l.is.netlist.is.design_of in
    let of_netlist : compiled.design ≡ d.design = (decided netlist).one_design compiled.design d.design compiled.has.netlist h.is.netlist in
    h.lines
    ∙ same_evaluations law match text netlist lifted cycles words d e h.is l.is
    (subst (λ (x : Design). Carries text x) of_netlist (carries_alone netlist text compiled).0) (subst (λ (x : Design). Carries text x) of_lifted lifts.netlist.carries)
    h.run l.run h.is_run l.is_run
    ∙ sym l.lines

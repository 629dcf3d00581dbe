-- What `simulate` prints of a text that carries a netlist is what `eval` prints of the netlist.
use Rattle.std.proofs.Common.{ℕ, ◌≡◌, sym, ap, ap₂, ◌∙◌, subst, List, flat_map}
use Rattle.std.specs.List.{range_with_len}
use Rattle.std.proofs.lemmas.List.{append-nil}
use Rattle.ww_rule.specs.Grid.{Grid, plane_of}
use Rattle.pattern_reading.specs.declared.ports.Ports.{Ports}
use Rattle.pattern_reading.specs.Ports.{names_of}
use Rattle.netlist_core.specs.declared.model.Design.{Design}
use Rattle.netlist_core.specs.Names.{Name}
use Rattle.netlist_meaning.specs.Places.{main_outputs}
use Rattle.netlist_meaning.specs.Valuation.{Valuation, IsRun}
use Rattle.netlist_text.specs.Laws.{TextsAreDecided}
use Rattle.carries.specs.Carries.{Carries}
use Rattle.carries.proofs.OneWay.{one_spelling}
use Rattle.streams.specs.declared.streams.Streams.{Streams}
use Rattle.streams.specs.Streams.{HasStreams}
use Rattle.streams.specs.Rows.{rows_of}
use Rattle.drive.specs.Driving.{shown_at}
use Rattle.netlist_run.specs.Runs.{bits_in_run}
use Rattle.shown_runs.specs.ShownRuns.{CarriersShowRuns, StreamsMatch}
use Rattle.blifww_tool.specs.Lines.{bits_line, context_line}
use Rattle.blifww_tool.specs.Simulation.{Simulation, IsSimulation, simulation_text}
use Rattle.blifww_tool.specs.Evaluation.{Evaluation, IsEvaluation, evaluation_text}
use Rattle.program_laws.specs.PrintsAlike.{CarriersPrintAlike, CompiledPrintAlike}
use Rattle.blifww_tool.proofs.Compiled.{carries_alone}

-- the lines of a pattern with a table, in so many contexts
abbrev pub lines_shown : (contexts : ℕ) → Streams → Ports → Grid → List ℕ
lines_shown contexts streams ports grid =
    flat_map (λ context. flat_map (λ out. context_line contexts context out.name (shown_at ports streams (plane_of grid.rows) context out)) ports.outs) (range_with_len 0 contexts)

-- and in one
pub one_context : (contexts : ℕ) (streams : Streams) (ports : Ports) (grid : Grid) → contexts ≡ 1
    → lines_shown contexts streams ports grid ≡ flat_map (λ out. bits_line out.name (shown_at ports streams (plane_of grid.rows) 0 out)) ports.outs
one_context contexts streams ports grid one =
    ap (λ (n : ℕ). lines_shown n streams ports grid) one ∙ append-nil (flat_map (λ out. bits_line out.name (shown_at ports streams (plane_of grid.rows) 0 out)) ports.outs)

pub same_lines : CarriersShowRuns → StreamsMatch → (text netlist : List ℕ) (cycles : ℕ) (words : List (List ℕ)) (s : Simulation) (e : Evaluation)
    → IsSimulation cycles words text s → IsEvaluation cycles words netlist e → Carries text e.design → (run : ℕ → Valuation) → IsRun e.design (rows_of e.streams) run
    → simulation_text s ≡ evaluation_text e run
same_lines law match text netlist cycles words s e simulated evaluated c run is_run =
    let read = one_spelling text c.grid s.grid c.ports s.ports c.spells (record { reads = simulated.pattern.0; table = simulated.table }) in
    let grid : c.grid ≡ s.grid = read.0 in
    let ports : c.ports ≡ s.ports = read.1 in
    let one : s.ports.c ≡ 1 = ap (λ (p : Ports). p.c) (sym ports) ∙ c.contexts in
    let of_table : HasStreams 1 words (names_of c.ports.ins) s.streams.cycles s.streams.bits =
    subst (λ (n : ℕ). HasStreams 1 words (names_of c.ports.ins) n s.streams.bits) (sym simulated.many)
    (subst (λ (p : Ports). HasStreams 1 words (names_of p.ins) cycles s.streams.bits) (sym ports)
    (subst (λ (n : ℕ). HasStreams n words (names_of s.ports.ins) cycles s.streams.bits) one simulated.streams)) in
    let of_design : HasStreams 1 words e.in_names e.streams.cycles e.streams.bits = subst (λ (n : ℕ). HasStreams 1 words e.in_names n e.streams.bits) (sym evaluated.many) evaluated.streams in
    let same = match text e.design c words e.in_names s.streams e.streams evaluated.names (simulated.contexts ∙ one) evaluated.contexts (simulated.many ∙ sym evaluated.many) of_table of_design in
    let shown = (law text e.design c s.streams same.1).shown run (subst (λ (streams : Streams). IsRun e.design (rows_of streams) run) (sym same.0) is_run) in
    ap₂ (λ (p : Ports) (g : Grid). lines_shown p.c s.streams p g) (sym ports) (sym grid) ∙ one_context c.ports.c s.streams c.ports c.grid c.contexts ∙ shown.lines bits_line
    ∙ ap (λ (streams : Streams). flat_map (λ (name : Name). bits_line name (bits_in_run run streams.cycles name)) (main_outputs e.design)) same.0

pub carriers_print_alike : CarriersShowRuns → StreamsMatch → TextsAreDecided → CarriersPrintAlike
carriers_print_alike law match decided text netlist design is carried cycles words shown evaluated simulated evaluates =
    let e = evaluates.evaluation in
    let same : design ≡ e.design = (decided netlist).one_design design e.design is evaluates.is.netlist in
    simulated.2
    ∙ same_lines law match text netlist cycles words simulated.0 e simulated.1.is evaluates.is (subst (λ (d : Design). Carries text d) same carried) evaluates.run evaluates.is_run
    ∙ sym evaluates.lines

pub compiled_print_alike : CarriersShowRuns → StreamsMatch → TextsAreDecided → CompiledPrintAlike
compiled_print_alike law match decided text netlist compiled cycles words shown evaluated simulated evaluates =
    carriers_print_alike law match decided text netlist compiled.design compiled.has.netlist (carries_alone netlist text compiled).0 cycles words shown evaluated simulated evaluates

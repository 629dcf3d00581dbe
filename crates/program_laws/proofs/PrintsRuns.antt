-- What `simulate` prints of a text that carries a design in contexts is the lines of runs from their starts.
use Rattle.std.proofs.Common.{ℕ, ◌≡◌, sym, ap, ap₂, ◌∙◌, List, length, flat_map}
use Rattle.std.specs.List.{range_with_len}
use Rattle.ww_rule.specs.Grid.{Grid, plane_of}
use Rattle.pattern_reading.specs.declared.ports.Ports.{Ports}
use Rattle.netlist_core.specs.declared.model.Design.{Design}
use Rattle.netlist_meaning.specs.Places.{main_outputs}
use Rattle.netlist_meaning.specs.Valuation.{Valuation, LatchState}
use Rattle.carries.specs.DesignContexts.{CarriesContexts}
use Rattle.streams.specs.declared.streams.Streams.{Streams}
use Rattle.streams.proofs.Ranges.{flat_map_same}
use Rattle.drive.specs.Driving.{AreFor, shown_at}
use Rattle.netlist_run.specs.Runs.{bits_in_run}
use Rattle.start_words.specs.Starts.{starts_of_words}
use Rattle.shown_runs.specs.ShownRuns.{CarriersShowContexts, StreamsAreFor}
use Rattle.blifww_tool.specs.Lines.{context_line}
use Rattle.blifww_tool.specs.Simulation.{simulation_text}
use Rattle.program_laws.specs.PrintsAlike.{AreRunsOn, CarriersPrintRuns, CompiledPrintRuns, lines_of_runs}
use Rattle.program_laws.proofs.Fed.{feeds, for_table, is_start, own_run, read, start_of}

-- the lines of its pattern with its table
lines_are : CarriersShowContexts → (text : List ℕ) (design : Design) (starts : List LatchState) (k : CarriesContexts text design starts) (streams : Streams) → AreFor k.ports streams
    → (runs : ℕ → ℕ → Valuation) → AreRunsOn design starts streams runs
    → simulation_text (record { grid = k.grid; ports = k.ports; streams = streams }) ≡ lines_of_runs (length starts) design streams.cycles runs
lines_are law text design starts k streams are runs are_runs =
    let shown : ℕ → ℕ → List ℕ = λ contexts context. flat_map (λ out. context_line contexts context out.name (shown_at k.ports streams (plane_of k.grid.rows) context out)) k.ports.outs in
    let given : ℕ → List ℕ = λ context. flat_map (λ name. context_line (length starts) context name (bits_in_run (runs context) streams.cycles name)) (main_outputs design) in
    ap (λ (n : ℕ). flat_map (shown n) (range_with_len 0 n)) k.contexts
    ∙ flat_map_same (shown (length starts)) given (length starts)
    (λ context less.
    ((law text design starts k streams are).shown context (start_of text design starts k streams are runs are_runs context)
    (is_start text design starts k streams are runs are_runs context less)
    (runs context)
    (own_run text design starts k streams are runs are_runs context less)).lines (context_line (length starts) context))

pub carriers_print_runs : CarriersShowContexts → StreamsAreFor → CarriersPrintRuns
carriers_print_runs law streams_for text design starts k cycles words output printed =
    let s = printed.0 in
    let is = printed.1.is in
    let same = read streams_for text design starts k cycles words s is in
    let are : AreFor k.ports s.streams = for_table streams_for text design starts k cycles words s is in
    let ran = law text design starts k s.streams are in
    record {
      fed = s.streams;
      feeds = feeds streams_for text design starts k cycles words s is;
      runs = ran.runs;
      are_runs = ran.are_runs;
      lines = λ others are_others.
          printed.2
          ∙ ap₂ (λ (p : Ports) (g : Grid). simulation_text (record { grid = g; ports = p; streams = s.streams })) (sym same.1) (sym same.0)
          ∙ lines_are law text design starts k s.streams are others are_others
          ∙ ap (λ (n : ℕ). lines_of_runs (length starts) design n others) is.many;
    }

pub compiled_print_runs : CarriersShowContexts → StreamsAreFor → CompiledPrintRuns
compiled_print_runs law streams_for contexts starts netlist text compiled = (
  compiled.design,
  compiled.has.netlist,
  carriers_print_runs law streams_for text compiled.design (starts_of_words compiled.design starts contexts) compiled.carries,
)

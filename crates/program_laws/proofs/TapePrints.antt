-- What `simulate` prints of a tape is what the netlist gives on the streams, and goes on with 0.
use Rattle.std.proofs.Common.{ℕ, ◌≡◌, ◌≤◌, sym, ap, ap₂, ◌∙◌, subst, Bool, List, [], flat_map, length, arith}
use Rattle.std.proofs.lemmas.List.{append-nil}
use Rattle.std.proofs.lemmas.List.FromFn.{length-map-range_with_len}
use Rattle.ww_rule.specs.Grid.{Grid}
use Rattle.pattern_reading.specs.declared.ports.Ports.{Ports}
use Rattle.netlist_core.specs.declared.model.Design.{Design}
use Rattle.netlist_core.specs.Names.{Name}
use Rattle.netlist_meaning.specs.Places.{main_outputs}
use Rattle.netlist_meaning.specs.Valuation.{Valuation, AreInputRows, IsRun}
use Rattle.netlist_text.specs.Laws.{TextsAreDecided}
use Rattle.carries.specs.ByItself.{RunsByItself, ThenZeros}
use Rattle.carries.proofs.OneWay.{one_spelling}
use Rattle.streams.specs.declared.streams.Streams.{Streams}
use Rattle.streams.specs.Streams.{inputs_of_contexts, streams_of}
use Rattle.streams.specs.Rows.{rows_of, stream_row}
use Rattle.drive.specs.Driving.{AreFor}
use Rattle.netlist_run.specs.Runs.{bits_in_run}
use Rattle.shown_runs.specs.ShownRuns.{StreamsAreFor}
use Rattle.shown_runs.specs.ByItself.{RunnersShowRuns}
use Rattle.blifww_tool.specs.Lines.{bits_line}
use Rattle.blifww_tool.specs.Simulation.{Simulation, IsSimulation, simulation_text}
use Rattle.blifww_tool.specs.Evaluation.{Evaluation, IsEvaluation}
use Rattle.program_laws.specs.TapePrints.{TapesPrintAlike, TapesPrintRuns}
use Rattle.blifww_tool.proofs.EvaluationOrNot.{same_names}
use Rattle.program_laws.proofs.Fed.{are_for}
use Rattle.program_laws.proofs.PrintsAlike.{lines_shown, one_context}

-- the lines of a simulation of a text that runs by itself
lines_by_itself : RunnersShowRuns → StreamsAreFor → (text : List ℕ) (design : Design) (rows : List (List Bool)) → RunsByItself text design rows
    → (many : ℕ) (given : List (List ℕ)) (s : Simulation) → IsSimulation many given text s
    → (all : List (List Bool)) → ThenZeros rows all → AreInputRows design all → many ≤ length all → (run : ℕ → Valuation) → IsRun design all run
    → simulation_text s ≡ flat_map (λ (name : Name). bits_line name (bits_in_run run many name)) (main_outputs design)
lines_by_itself law streams_for text design rows k many given s is all zeros fit long run is_run =
    let read = one_spelling text k.grid s.grid k.ports s.ports k.spells (record { reads = is.pattern.0; table = is.table }) in
    let are : AreFor k.ports s.streams = subst (λ (p : Ports). AreFor p s.streams) (sym read.1) (are_for streams_for many given text s is) in
    let within : s.streams.cycles ≤ length all = omega (arith, long, is.many) in
    let shown = (law text design rows k all zeros fit run is_run s.streams are within).outs in
    ap₂ (λ (p : Ports) (g : Grid). lines_shown p.c s.streams p g) (sym read.1) (sym read.0)
    ∙ one_context k.ports.c s.streams k.ports k.grid k.contexts
    ∙ shown.lines bits_line
    ∙ ap (λ (n : ℕ). flat_map (λ (name : Name). bits_line name (bits_in_run run n name)) (main_outputs design)) is.many

pub tapes_print_runs : RunnersShowRuns → StreamsAreFor → TapesPrintRuns
tapes_print_runs law streams_for cycles words netlist text taped = (
  taped.evaluation,
  taped.is,
  λ many given shown printed. record {
    rows_fit = taped.tape.runs.rows_fit;
    run = taped.tape.runs.shows.run;
    lines = λ all zeros fit long run is_run.
        printed.2
        ∙ lines_by_itself law streams_for text taped.evaluation.design (rows_of taped.evaluation.streams) taped.tape.runs many given printed.0 printed.1.is all zeros fit long run is_run;
  },
)

-- no row of 0 at the end
no_zeros : (rows : List (List Bool)) → ThenZeros rows rows
no_zeros rows = ([], λ k d less. absurd (omega (arith, less)), sym (append-nil rows))

-- a netlist and words give one evaluation
module _ (decided : TextsAreDecided) (cycles : ℕ) (words : List (List ℕ)) (netlist : List ℕ) (a b : Evaluation) (h : IsEvaluation cycles words netlist a) (k : IsEvaluation cycles words netlist b) where
  same_design : a.design ≡ b.design
  same_design = (decided netlist).one_design a.design b.design h.netlist k.netlist

  abbrev streams_with : (many contexts : ℕ) → List (List Bool) → Streams
  streams_with many contexts bits = record { cycles = many; c = contexts; bits = bits }

  same_streams : a.streams ≡ b.streams
  same_streams =
      let names : a.in_names ≡ b.in_names =
      same_names netlist a.design b.design a.in_names b.in_names (record { netlist = h.netlist; are_names = h.names }) (record { netlist = k.netlist; are_names = k.names }) in
      let bits : a.streams.bits ≡ b.streams.bits =
      h.streams.bits_is ∙ ap (λ (ns : List Name). streams_of 1 words (inputs_of_contexts 1 ns)) names ∙ sym k.streams.bits_is in
      ap₂ (λ (n c : ℕ). streams_with n c a.streams.bits) (h.many ∙ sym k.many) (h.contexts ∙ sym k.contexts)
      ∙ ap (streams_with b.streams.cycles b.streams.c) bits

pub tapes_print_alike : RunnersShowRuns → StreamsAreFor → TextsAreDecided → TapesPrintAlike
tapes_print_alike law streams_for decided cycles words given netlist text shown evaluated taped printed evaluates =
    let a = taped.evaluation in
    let b = evaluates.evaluation in
    let k = taped.tape.runs in
    let rows : List (List Bool) = rows_of a.streams in
    let design : a.design ≡ b.design = same_design decided cycles words netlist a b taped.is evaluates.is in
    let streams : a.streams ≡ b.streams = same_streams decided cycles words netlist a b taped.is evaluates.is in
    let run : IsRun a.design rows evaluates.run =
    subst (λ (d : Design). IsRun d rows evaluates.run) (sym design) (subst (λ (s : Streams). IsRun b.design (rows_of s) evaluates.run) (sym streams) evaluates.is_run) in
    let many : length rows ≡ a.streams.cycles = length-map-range_with_len (stream_row a.streams) 0 a.streams.cycles in
    printed.2
    ∙ lines_by_itself law streams_for text a.design rows k cycles given printed.0 printed.1.is rows (no_zeros rows) k.rows_fit (omega (arith, many, taped.is.many)) evaluates.run run
    ∙ ap₂ (λ (d : Design) (n : ℕ). flat_map (λ (name : Name). bits_line name (bits_in_run evaluates.run n name)) (main_outputs d)) design (sym evaluates.is.many)
    ∙ sym evaluates.lines

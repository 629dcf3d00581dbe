-- What the text of a netlist gives under streams of bits, as lines.
use Rattle.std.specs.Prelude.{◌≡◌, ℕ, List, flat_map, ⊤}
use Rattle.netlist_core.specs.declared.model.Design.{Design}
use Rattle.netlist_core.specs.Names.{Name}
use Rattle.netlist_meaning.specs.Nets.{IsInNames}
use Rattle.netlist_meaning.specs.Places.{main_outputs}
use Rattle.netlist_meaning.specs.Valuation.{Valuation, IsRun}
use Rattle.netlist_text.specs.NetlistText.{IsNetlist}
use Rattle.streams.specs.declared.streams.Streams.{Streams}
use Rattle.streams.specs.declared.error.StreamError.{StreamError}
use Rattle.streams.specs.declared.error.StreamError.TheVariants as streams_of
use Rattle.streams.specs.Streams.{HasStreams, HasStreamFault}
use Rattle.streams.specs.Rows.{rows_of}
use Rattle.netlist_run.specs.Runs.{bits_in_run}
use Rattle.blifww_tool.specs.Compilation.{HasNoNetlist}
use Rattle.blifww_tool.specs.Lines.{bits_line}
use Rattle.program_runs.specs.declared.causes.Cause.{Cause}
use Rattle.program_runs.specs.declared.causes.Cause.TheVariants.{Streams as OfStreams}

-- a netlist, its IN names, and streams for them
pub record Evaluation : Type 0 where
  pub design : Design
  pub in_names : List Name
  pub streams : Streams

-- The text is this netlist with these IN names, and the words give these streams for them.
pub record IsEvaluation (cycles : ℕ) (words : List (List ℕ)) (text : List ℕ)
    (e : Evaluation) : Type 0 where
  pub netlist : IsNetlist text e.design
  pub names : IsInNames e.design e.in_names
  pub many : e.streams.cycles ≡ cycles
  pub contexts : e.streams.c ≡ 1
  pub streams : HasStreams 1 words e.in_names cycles e.streams.bits

-- the words give these streams for the IN names of a design, in so many contexts
pub record FeedsInputs (count cycles : ℕ) (words : List (List ℕ)) (design : Design)
    (fed : Streams) : Type 0 where
  pub in_names : List Name
  pub names : IsInNames design in_names
  pub many : fed.cycles ≡ cycles
  pub contexts : fed.c ≡ count
  pub streams : HasStreams count words in_names cycles fed.bits

-- why the words give no streams for the IN names of a design, in one context
abbrev pub HasInputsCause : ℕ → List (List ℕ) → Design → StreamError → Type 0
HasInputsCause cycles words design (streams_of.Fault fault) =
    (names : List Name) × IsInNames design names × HasStreamFault 1 words names cycles fault
HasInputsCause cycles words design streams_of.NoMemory = ⊤

-- the lines are those of a run of a design on streams
pub record PrintsRun (design : Design) (fed : Streams) (output : List ℕ) : Type 0 where
  pub run : ℕ → Valuation
  pub is_run : IsRun design (rows_of fed) run
  pub lines : output ≡ flat_map (λ name. bits_line name (bits_in_run run fed.cycles name))
      (main_outputs design)

-- the lines of the main outputs, in order
abbrev pub evaluation_text : Evaluation → (ℕ → Valuation) → List ℕ
evaluation_text e run =
    flat_map (λ name. bits_line name (bits_in_run run e.streams.cycles name))
    (main_outputs e.design)

-- the lines are those of a run of the netlist on the streams
pub record Evaluates (cycles : ℕ) (words : List (List ℕ)) (text output : List ℕ) : Type 0 where
  pub evaluation : Evaluation
  pub is : IsEvaluation cycles words text evaluation
  pub run : ℕ → Valuation
  pub is_run : IsRun evaluation.design (rows_of evaluation.streams) run
  pub lines : output ≡ evaluation_text evaluation run

-- why the text and the words are no evaluation: the text is no netlist, or the streams are at fault
abbrev pub HasNoEvaluation : ℕ → List (List ℕ) → List ℕ → Cause → Type 0
HasNoEvaluation cycles words text (OfStreams fault) =
    (design : Design) × (names : List Name) × IsNetlist text design × IsInNames design names
    × HasStreamFault 1 words names cycles fault
HasNoEvaluation cycles words text cause = HasNoNetlist text cause

-- `simulate` prints of a text that carries a netlist what `eval` prints of the netlist, and in
-- contexts what runs from their starts give. `probe` prints of it a net's bits in such runs.
use Rattle.std.specs.Prelude.{ℕ, ◌≡◌, List, [], length, flat_map}
use Rattle.std.specs.List.{range_with_len}
use Rattle.netlist_core.specs.declared.model.Design.{Design}
use Rattle.netlist_meaning.specs.Nets.{Net, IsNet, IsClockNet}
use Rattle.netlist_meaning.specs.Places.{main_outputs}
use Rattle.netlist_meaning.specs.Valuation.{Valuation, LatchState, IsRun, IsRunFrom}
use Rattle.netlist_text.specs.NetlistText.{IsNetlist}
use Rattle.place_paths.specs.Paths.{path_of}
use Rattle.carries.specs.Carries.{Carries}
use Rattle.carries.specs.Nets.{CarriesNets}
use Rattle.carries.specs.Contexts.{AreRunsFrom}
use Rattle.carries.specs.DesignContexts.{CarriesContexts, CarriesNetsInContexts}
use Rattle.streams.specs.declared.streams.Streams.{Streams}
use Rattle.streams.specs.Rows.{contexts_of, rows_of}
use Rattle.netlist_run.specs.Runs.{bits_in_run}
use Rattle.shown_runs.specs.ShownRuns.{net_bits_in_run}
use Rattle.start_words.specs.Starts.{starts_of_words}
use Rattle.command_words.specs.Shapes.{CommandValues, compile, simulate, eval, probe}
use Rattle.blifww_tool.specs.Lines.{bits_line, context_line}
use Rattle.blifww_tool.specs.Evaluation.{FeedsInputs}
use Rattle.blifww_tool.specs.Commands.{Prints, Refuses}
use Rattle.program_runs.specs.declared.causes.Cause.TheVariants.{NotQuiet}

-- `simulate` prints of a text that carries a netlist what `eval` prints of the netlist under the
-- same words, whoever made the text
abbrev pub CarriersPrintAlike : Type 0
CarriersPrintAlike =
    (text netlist : List ℕ) (design : Design) → IsNetlist netlist design → Carries text design
    → (cycles : ℕ) (words : List (List ℕ)) (shown evaluated : List ℕ)
    → Prints (simulate cycles words) text shown → Prints (eval cycles words) netlist evaluated
    → shown ≡ evaluated

-- the same holds of the text that `compile` writes of the netlist, in one context and without words
abbrev pub CompiledPrintAlike : Type 0
CompiledPrintAlike =
    (text netlist : List ℕ) → Prints (compile 1 []) netlist text
    → (cycles : ℕ) (words : List (List ℕ)) (shown evaluated : List ℕ)
    → Prints (simulate cycles words) text shown → Prints (eval cycles words) netlist evaluated
    → shown ≡ evaluated

-- a run in each context, on its rows of the streams, from its start on
abbrev pub AreRunsOn : Design → List LatchState → Streams → (ℕ → ℕ → Valuation) → Type 0
AreRunsOn design starts fed runs = AreRunsFrom (IsRunFrom design) starts (contexts_of fed) runs

-- in each context a line for each main output, with its bits in the context's run: all lines of
-- context 0 first
abbrev pub lines_of_runs : (contexts : ℕ) → Design → (cycles : ℕ) → (ℕ → ℕ → Valuation) → List ℕ
lines_of_runs contexts design cycles runs =
    flat_map (λ context. flat_map (λ name. context_line contexts context name
    (bits_in_run (runs context) cycles name)) (main_outputs design))
    (range_with_len 0 contexts)

-- The words give streams for the IN names of the design in each context, and the design has runs on
-- them, one from each start on. The output is the lines of all such runs.
pub record PrintsRuns (cycles : ℕ) (words : List (List ℕ)) (design : Design)
    (starts : List LatchState) (output : List ℕ) : Type 0 where
  pub fed : Streams
  pub feeds : FeedsInputs (length starts) cycles words design fed
  pub runs : ℕ → ℕ → Valuation
  pub are_runs : AreRunsOn design starts fed runs
  pub lines : (others : ℕ → ℕ → Valuation) → AreRunsOn design starts fed others
      → output ≡ lines_of_runs (length starts) design cycles others

-- what `simulate` prints of a text that carries a design in contexts, whoever made the text
abbrev pub CarriersPrintRuns : Type 0
CarriersPrintRuns =
    (text : List ℕ) (design : Design) (starts : List LatchState)
    → CarriesContexts text design starts
    → (cycles : ℕ) (words : List (List ℕ)) (output : List ℕ)
    → Prints (simulate cycles words) text output → PrintsRuns cycles words design starts output

-- what `simulate` prints of the text that `compile` writes of a netlist, each context from the
-- start that the words give it
abbrev pub CompiledPrintRuns : Type 0
CompiledPrintRuns =
    (contexts : ℕ) (starts : List (List ℕ)) (netlist text : List ℕ)
    → Prints (compile contexts starts) netlist text
    → (design : Design) × IsNetlist netlist design
    × ((cycles : ℕ) (words : List (List ℕ)) (output : List ℕ)
    → Prints (simulate cycles words) text output
    → PrintsRuns cycles words design (starts_of_words design starts contexts) output)

-- The words give streams for the IN names of the design, which has a run on them. The design has a
-- net of this name at the place of this path that is no clock net, and the output is the line of
-- the net's bits in each such run.
pub record PrintsNet (cycles : ℕ) (name path : List ℕ) (words : List (List ℕ)) (design : Design)
    (output : List ℕ) : Type 0 where
  pub fed : Streams
  pub feeds : FeedsInputs 1 cycles words design fed
  pub run : ℕ → Valuation
  pub is_run : IsRun design (rows_of fed) run
  pub net : Net
  pub is_net : IsNet design net
  pub no_clock : ¬ IsClockNet design net
  pub named : net.name ≡ name
  pub placed : path_of net.place ≡ path
  pub line : (other : ℕ → Valuation) → IsRun design (rows_of fed) other
      → output ≡ bits_line name (net_bits_in_run other fed.cycles net)

-- what `probe` prints of a text that carries the nets of a design, whoever made the text
abbrev pub CarriersPrintNets : Type 0
CarriersPrintNets =
    (text : List ℕ) (design : Design) → CarriesNets text design
    → (cycles : ℕ) (name path : List ℕ) (words : List (List ℕ)) (output : List ℕ)
    → Prints (probe cycles name path words) text output
    → PrintsNet cycles name path words design output

-- in each context the line of a net, with its bits in the context's run
abbrev pub lines_of_net : (contexts : ℕ) → (name : List ℕ) → Net → (cycles : ℕ)
    → (ℕ → ℕ → Valuation) → List ℕ
lines_of_net contexts name net cycles runs =
    flat_map (λ context. context_line contexts context name
    (net_bits_in_run (runs context) cycles net)) (range_with_len 0 contexts)

-- The words give streams for the IN names of the design in each context, and the design has runs on
-- them, one from each start on. The design has such a net that is no clock net, and the output is
-- the lines of the net in all such runs.
pub record PrintsNetInContexts (cycles : ℕ) (name path : List ℕ) (words : List (List ℕ))
    (design : Design) (starts : List LatchState) (output : List ℕ) : Type 0 where
  pub fed : Streams
  pub feeds : FeedsInputs (length starts) cycles words design fed
  pub runs : ℕ → ℕ → Valuation
  pub are_runs : AreRunsOn design starts fed runs
  pub net : Net
  pub is_net : IsNet design net
  pub no_clock : ¬ IsClockNet design net
  pub named : net.name ≡ name
  pub placed : path_of net.place ≡ path
  pub lines : (others : ℕ → ℕ → Valuation) → AreRunsOn design starts fed others
      → output ≡ lines_of_net (length starts) name net cycles others

-- what `probe` prints of a text that carries the nets of a design in contexts, whoever made the
-- text
abbrev pub CarriersPrintNetsInContexts : Type 0
CarriersPrintNetsInContexts =
    (text : List ℕ) (design : Design) (starts : List LatchState)
    → CarriesNetsInContexts text design starts
    → (cycles : ℕ) (name path : List ℕ) (words : List (List ℕ)) (output : List ℕ)
    → Prints (probe cycles name path words) text output
    → PrintsNetInContexts cycles name path words design starts output

-- what `probe` prints of the text that `compile` writes of a netlist
abbrev pub CompiledPrintNets : Type 0
CompiledPrintNets =
    (contexts : ℕ) (starts : List (List ℕ)) (netlist text : List ℕ)
    → Prints (compile contexts starts) netlist text
    → (design : Design) × IsNetlist netlist design
    × ((cycles : ℕ) (name path : List ℕ) (words : List (List ℕ)) (output : List ℕ)
    → Prints (probe cycles name path words) text output
    → PrintsNetInContexts cycles name path words design
    (starts_of_words design starts contexts) output)

-- if a text carries a design in contexts, no command refuses it because an injection meets no
-- conductor, whoever made the text
abbrev pub CarriersRunQuietly : Type 0
CarriersRunQuietly =
    (text : List ℕ) (design : Design) (starts : List LatchState)
    → CarriesContexts text design starts
    → (command : CommandValues) (generation x y : ℕ)
    → Refuses command text (NotQuiet generation x y) → ⊥

-- so it is with the text that `compile` writes
abbrev pub CompiledRunQuietly : Type 0
CompiledRunQuietly =
    (contexts : ℕ) (starts : List (List ℕ)) (netlist text : List ℕ)
    → Prints (compile contexts starts) netlist text
    → (command : CommandValues) (generation x y : ℕ)
    → Refuses command text (NotQuiet generation x y) → ⊥

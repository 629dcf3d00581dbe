-- A simulation of a text that carries a design in contexts is of its pattern and table, and its streams are for the design's inputs.
use Rattle.std.proofs.Common.{ℕ, ◌≡◌, ◌<◌, sym, ap, ◌∙◌, subst, Bool, List, length, get_or}
use Rattle.std.specs.Prelude.{Some, slice_get}
use Rattle.std.proofs.lemmas.Option.{slice_get-get_or}
use Rattle.pattern_reading.specs.declared.ports.Ports.{Ports}
use Rattle.pattern_reading.specs.Ports.{names_of}
use Rattle.port_table.proofs.SoundTable.{sound_table}
use Rattle.netlist_core.specs.declared.model.Design.{Design}
use Rattle.netlist_meaning.specs.Valuation.{Valuation, LatchState, IsRunFrom, start_state}
use Rattle.carries.specs.DesignContexts.{CarriesContexts}
use Rattle.carries.proofs.OneWay.{one_spelling}
use Rattle.streams.specs.declared.streams.Streams.{Streams}
use Rattle.streams.specs.Streams.{HasStreams}
use Rattle.streams.specs.Rows.{in_context, rows_of}
use Rattle.drive.specs.Driving.{AreFor}
use Rattle.shown_runs.specs.ShownRuns.{StreamsAreFor}
use Rattle.shown_runs.proofs.ShownContexts.{own_rows}
use Rattle.blifww_tool.specs.Simulation.{Simulation, IsSimulation}
use Rattle.blifww_tool.specs.Evaluation.{FeedsInputs}
use Rattle.program_laws.specs.PrintsAlike.{AreRunsOn}

-- a simulation's streams are for its table
pub are_for : StreamsAreFor → (cycles : ℕ) (words : List (List ℕ)) (text : List ℕ) (s : Simulation) → IsSimulation cycles words text s → AreFor s.ports s.streams
are_for law cycles words text s is =
    law s.ports words s.streams (sound_table text s.grid.width s.grid.height s.ports is.table) is.contexts
    (subst (λ (n : ℕ). HasStreams n words (names_of s.ports.ins) s.streams.cycles s.streams.bits) (sym is.contexts)
    (subst (λ (n : ℕ). HasStreams s.ports.c words (names_of s.ports.ins) n s.streams.bits) (sym is.many) is.streams))

module _ (streams_for : StreamsAreFor) (text : List ℕ) (design : Design) (starts : List LatchState) (k : CarriesContexts text design starts) (cycles : ℕ) (words : List (List ℕ)) (s : Simulation) (is : IsSimulation cycles words text s) where
  pub read : (k.grid ≡ s.grid) × (k.ports ≡ s.ports)
  read = one_spelling text k.grid s.grid k.ports s.ports k.spells (record { reads = is.pattern.0; table = is.table })

  pub as_many : s.ports.c ≡ length starts
  as_many = ap (λ (p : Ports). p.c) (sym read.1) ∙ k.contexts

  pub for_table : AreFor k.ports s.streams
  for_table = subst (λ (p : Ports). AreFor p s.streams) (sym read.1) (are_for streams_for cycles words text s is)

  pub feeds : FeedsInputs (length starts) cycles words design s.streams
  feeds = record {
    in_names = names_of k.ports.ins;
    names = k.names.ins;
    many = is.many;
    contexts = is.contexts ∙ as_many;
    streams = subst (λ (p : Ports). HasStreams (length starts) words (names_of p.ins) cycles s.streams.bits) (sym read.1)
        (subst (λ (n : ℕ). HasStreams n words (names_of s.ports.ins) cycles s.streams.bits) as_many is.streams);
  }

-- the run of a context
module _ (text : List ℕ) (design : Design) (starts : List LatchState) (k : CarriesContexts text design starts) (streams : Streams) (are : AreFor k.ports streams) (runs : ℕ → ℕ → Valuation) (are_runs : AreRunsOn design starts streams runs) where
  abbrev pub start_of : ℕ → LatchState
  start_of context = get_or starts context (start_state design)

  pub is_start : (context : ℕ) → context < length starts → slice_get starts context ≡ Some (start_of context)
  is_start context less = slice_get-get_or starts context (start_state design) less

  pub own_run : (context : ℕ) → context < length starts → IsRunFrom design (start_of context) (rows_of (in_context streams context)) (runs context)
  own_run context less =
      subst (λ (rows : List (List Bool)). IsRunFrom design (start_of context) rows (runs context))
      (own_rows text design starts k streams are context (start_of context) (is_start context less))
      (are_runs context (start_of context) (is_start context less))

-- In a text that carries a design in contexts, or a circuit, each injection meets a conductor.
use Rattle.std.proofs.Common.{ℕ, ◌≡◌, sym, ap, ◌∙◌, subst, List}
use Rattle.std.specs.Prelude.{None}
use Rattle.ww_rule.specs.Grid.{Grid, plane_of}
use Rattle.pattern_reading.specs.declared.ports.Ports.{Ports}
use Rattle.carries.specs.Cells.{Spells}
use Rattle.carries.proofs.OneWay.{one_spelling}
use Rattle.streams.specs.declared.streams.Streams.{Streams}
use Rattle.drive.specs.Driving.{AreFor, first_miss}
use Rattle.shown_runs.specs.ShownRuns.{CarriersAreQuiet, StreamsAreFor}
use Rattle.aiger_text.specs.Laws.{ReadAigsAreSound}
use Rattle.aiger_plans.specs.CarriesAig.{CarriesAig}
use Rattle.start_words.specs.Starts.{starts_of_words}
use Rattle.command_words.specs.Shapes.{CommandValues, compile, simulate, eval, probe, window, make, self_, tape, aiger, vcd, lift}
use Rattle.blifww_tool.specs.Commands.{Refuses}
use Rattle.blifww_tool.specs.Simulation.{Simulation, IsSimulation, MissesAt, miss_up_to}
use Rattle.blifww_tool.proofs.SimulationOrNot.{miss_or_not}
use Rattle.program_runs.specs.declared.causes.Cause.TheVariants.{NotQuiet}
use Rattle.program_laws.specs.AigPrints.{AigCarriersRunQuietly, AigsRunQuietly}
use Rattle.program_laws.specs.PrintsAlike.{CarriersRunQuietly, CompiledRunQuietly}
use Rattle.program_laws.proofs.AigQuiet.{quiet_aig}
use Rattle.program_laws.proofs.Fed.{are_for}

-- a text that spells a pattern that is quiet under streams for its table
module _ (streams_for : StreamsAreFor) (text : List ℕ) (grid : Grid) (ports : Ports) (spells : Spells text grid ports)
    (quiet : (streams : Streams) → AreFor ports streams → (g : ℕ) → first_miss ports streams (plane_of grid.rows) g ≡ None) where
  -- a simulation of it has no miss
  no_miss : (cycles : ℕ) (words : List (List ℕ)) (s : Simulation) → IsSimulation cycles words text s → (g : ℕ) → miss_up_to s g ≡ None
  no_miss cycles words s is g =
      let read = one_spelling text grid s.grid ports s.ports spells (record { reads = is.pattern.0; table = is.table }) in
      let are : AreFor ports s.streams = subst (λ (p : Ports). AreFor p s.streams) (sym read.1) (are_for streams_for cycles words text s is) in
      ap (λ (p : Ports). first_miss p s.streams (plane_of s.grid.rows) g) (sym read.1)
      ∙ ap (λ (k : Grid). first_miss ports s.streams (plane_of k.rows) g) (sym read.0)
      ∙ quiet s.streams are g

  never : (cycles : ℕ) (words : List (List ℕ)) (s : Simulation) → IsSimulation cycles words text s → (g generation x y : ℕ) → MissesAt s g generation x y → ⊥
  never cycles words s is g generation x y misses = miss_or_not s g generation x y misses (no_miss cycles words s is g)

  runs_quietly : (command : CommandValues) (generation x y : ℕ) → Refuses command text (NotQuiet generation x y) → ⊥
  runs_quietly (compile contexts words) g x y h = h
  runs_quietly (simulate cycles words) g x y h = never cycles words h.0 h.1 _ g x y h.3
  runs_quietly (eval cycles words) g x y h = h
  runs_quietly (probe cycles net path words) g x y h = never cycles words h.0 h.1 _ g x y h.2.first
  runs_quietly (window view words) g x y h = never _ words h.0 h.1 _ g x y h.2
  runs_quietly (make seed size) g x y h = h
  runs_quietly (self_ seed size cycles) g x y h = h
  runs_quietly (tape cycles words) g x y h = h
  runs_quietly aiger g x y h = h
  runs_quietly (vcd cycles words) g x y h = never cycles words h.0 h.1 _ g x y h.3
  runs_quietly lift g x y h = h

pub carriers_run_quietly : CarriersAreQuiet → StreamsAreFor → CarriersRunQuietly
carriers_run_quietly quiet for text design starts k = runs_quietly for text k.grid k.ports k.spells (quiet text design starts k)

pub compiled_run_quietly : CarriersAreQuiet → StreamsAreFor → CompiledRunQuietly
compiled_run_quietly quiet for contexts starts netlist text compiled = carriers_run_quietly quiet for text compiled.design (starts_of_words compiled.design starts contexts) compiled.carries

pub aig_carriers_run_quietly : StreamsAreFor → AigCarriersRunQuietly
aig_carriers_run_quietly for text aig sound c = runs_quietly for text c.grid c.ports c.spells (quiet_aig text aig sound c)

pub aigs_run_quietly : StreamsAreFor → ReadAigsAreSound → AigsRunQuietly
aigs_run_quietly for sound source text h =
    aig_carriers_run_quietly for text h.aig (sound source h.aig h.is.reads) (subst (λ (t : List ℕ). CarriesAig t h.aig) (sym h.written) h.is_plan.carries)

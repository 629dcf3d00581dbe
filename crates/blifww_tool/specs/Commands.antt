-- For each command: whether it reads a text, which texts it accepts, what it prints of them, and
-- why it refuses the others.
use Rattle.std.specs.Prelude.{◌≡◌, ◌≤◌, ℕ, Bool, true, false, List, ⊤}
use Rattle.command_words.specs.Shapes.{CommandValues, compile, simulate, eval, probe, window, make, self_, tape, aiger, vcd, lift}
use Rattle.netlist_core.specs.declared.model.Design.{Design}
use Rattle.aiger_text.specs.declared.aig.Aig.{Aig}
use Rattle.netlist_meaning.specs.Weight.{weight}
use Rattle.drive.specs.Driving.{greatest_generation}
use Rattle.ww_rule.specs.Grid.{Grid}
use Rattle.lane_core.specs.declared.plan.Plan.{Plan}
use Rattle.pattern_reading.specs.declared.ports.Ports.{Ports}
use Rattle.made_netlists.specs.Text.{made_text}
use Rattle.made_netlists.specs.Design.{made_design}
use Rattle.made_summary.specs.Summaries.{HasSummaryCause}
use Rattle.made_summary.specs.Laws.{most_generations}
use Rattle.made_summary.specs.declared.error.SummaryError.TheVariants as summarizing
use Rattle.blifww_tool.specs.Compilation.{Compiles, HasNoCompilation, HasStarts, least_room}
use Rattle.blifww_tool.specs.Simulation.{Simulation, RunsInTime, Simulates, simulation_text, HasNoSimulation}
use Rattle.blifww_tool.specs.Probing.{Probes, PrintsProbe, HasNoProbe}
use Rattle.blifww_tool.specs.Viewing.{HasView, ShowsPart, HasNoView}
use Rattle.blifww_tool.specs.Dumping.{last_dumped, Dumps, HasNoDump}
use Rattle.blifww_tool.specs.Evaluation.{Evaluation, IsEvaluation, Evaluates, HasNoEvaluation}
use Rattle.blifww_tool.specs.Taping.{Tapes}
use Rattle.blifww_tool.specs.Aigs.{IsAig, CompilesAig, HasNoAig}
use Rattle.blifww_tool.specs.Lifting.{IsCircuitText, Lifts, HasNoCircuit}
use Rattle.blifww_tool.specs.Summary.{TellsSummary}
use Rattle.program_runs.specs.declared.causes.Cause.{Cause}
use Rattle.program_runs.specs.declared.causes.Cause.TheVariants.{NetlistFault, Loop, AigLoop, TooFar, TooManyContexts}
use Rattle.netlist_text.specs.Laws.{AreAlikeFaults}
use Rattle.program_runs.specs.declared.causes.TextError.{TextError}
use Rattle.program_runs.specs.declared.causes.TextError.TheVariants.{Refused, NoMemory}

-- the command reads a text; a command that reads none has the empty text
abbrev pub reads_text : CommandValues → Bool
reads_text (compile contexts starts) = true
reads_text (simulate cycles words) = true
reads_text (eval cycles words) = true
reads_text (probe cycles net path words) = true
reads_text (window view words) = true
reads_text (make seed size) = false
reads_text (self_ seed size cycles) = false
reads_text (tape cycles words) = true
reads_text aiger = true
reads_text (vcd cycles words) = true
reads_text lift = true

-- The command accepts the text. `compile`: the text is a netlist in which the words give starts,
-- for no more contexts than every plan has room for. `simulate`: the text and the words are a
-- simulation, its last bits come in time, and its injections meet conductors. `eval`: the text is a
-- netlist, and the words are streams for it. `probe`: the text and the words are a simulation that
-- has the net and shows the net's bits in time, and its injections meet conductors. `window`: they
-- are a simulation whose injections meet conductors up to the generation that is shown. `make`:
-- always. `self`: no plan of the made netlist can need more generations than are run. `tape`: the
-- text is a netlist, and the words are streams for it. `aiger`: the text is an AIGER circuit.
-- `vcd`: the text and the words are a simulation whose nets show their last bits in time, and whose
-- injections up to these meet conductors. `lift`: the text reads as a pattern with a port table,
-- they are the drawing of a circuit's plan, and no port's name is bad.
abbrev pub Accepts : CommandValues → List ℕ → Type 0
Accepts (compile contexts starts) text =
    (design : Design) × HasStarts contexts starts text design × (contexts ≤ least_room design)
Accepts (simulate cycles words) text = (s : Simulation) × Simulates cycles words text s
Accepts (eval cycles words) text = (e : Evaluation) × IsEvaluation cycles words text e
Accepts (probe cycles net path words) text =
    (bits : List (List Bool)) × Probes cycles net path words text bits
Accepts (window view words) text = (s : Simulation) × HasView view words text s
Accepts (make seed size) text = ⊤
Accepts (self_ seed size cycles) text =
    most_generations (weight (made_design seed size)) cycles ≤ greatest_generation
Accepts (tape cycles words) text = (e : Evaluation) × IsEvaluation cycles words text e
Accepts aiger text = (aig : Aig) × IsAig text aig
Accepts (vcd cycles words) text = (s : Simulation) × RunsInTime last_dumped cycles words text s
Accepts lift text =
    (grid : Grid) × (ports : Ports) × (plan : Plan) × IsCircuitText text grid ports plan

-- the command prints this output of a text that it accepts: a pattern that carries the netlist in
-- these contexts; a line for each output of the pattern, or of the netlist; the lines of the net;
-- the lines of a part of the plane; the made text; the summary of the made netlist; a pattern that
-- runs by itself; a pattern that carries the AIGER circuit; the dump of the nets; or the netlist of
-- the circuit that is drawn
abbrev pub Prints : CommandValues → (text output : List ℕ) → Type 0
Prints (compile contexts starts) text output = Compiles contexts starts text output
Prints (simulate cycles words) text output =
    (s : Simulation) × Simulates cycles words text s × (output ≡ simulation_text s)
Prints (eval cycles words) text output = Evaluates cycles words text output
Prints (probe cycles net path words) text output = PrintsProbe cycles net path words text output
Prints (window view words) text output = ShowsPart view words text output
Prints (make seed size) text output = output ≡ made_text seed size
Prints (self_ seed size cycles) text output = TellsSummary seed size cycles output
Prints (tape cycles words) text output = Tapes cycles words text output
Prints aiger text output = CompilesAig text output
Prints (vcd cycles words) text output = Dumps cycles words text output
Prints lift text output = Lifts text output

-- the command refuses the text for this cause
abbrev pub Refuses : CommandValues → List ℕ → Cause → Type 0
Refuses (compile contexts starts) text cause = HasNoCompilation contexts starts text cause
Refuses (simulate cycles words) text cause = HasNoSimulation cycles words text cause
Refuses (eval cycles words) text cause = HasNoEvaluation cycles words text cause
Refuses (probe cycles net path words) text cause = HasNoProbe cycles net path words text cause
Refuses (window view words) text cause = HasNoView view words text cause
Refuses (make seed size) text cause = ⊥
Refuses (self_ seed size cycles) text (TooFar generations) =
    HasSummaryCause seed size cycles (summarizing.TooFar generations)
Refuses (self_ seed size cycles) text cause = ⊥
Refuses (tape cycles words) text cause = HasNoEvaluation cycles words text cause
Refuses aiger text cause = HasNoAig text cause
Refuses (vcd cycles words) text cause = HasNoDump cycles words text cause
Refuses lift text cause = HasNoCircuit text cause

-- The command refuses the text for this cause whenever nothing fails and there is memory. Two
-- causes are left out, since they depend on the plan, which is free: that `self` needs too many
-- generations, and that `compile` has no room for the contexts. `self` and `compile` may refuse a
-- text for them, if `Refuses` allows it.
abbrev pub MustRefuse : CommandValues → List ℕ → Cause → Type 0
MustRefuse (self_ seed size cycles) text cause = ⊥
MustRefuse (compile contexts starts) text (TooManyContexts told limit) = ⊥
MustRefuse command text cause = Refuses command text cause

-- Two causes are of one kind and the same, except that there may be several loops, and for faults
-- of the kinds `Recursive` and `ClockRead` several words on one line.
abbrev pub AreLikeCauses : Cause → Cause → Type 0
AreLikeCauses (NetlistFault a) (NetlistFault b) = AreAlikeFaults a b
AreLikeCauses (Loop a) (Loop b) = ⊤
AreLikeCauses (AigLoop a) (AigLoop b) = ⊤
AreLikeCauses a b = a ≡ b

-- why a text gives no output: the command refuses it, or there is not enough memory
abbrev pub HasTextCause : CommandValues → List ℕ → TextError → Type 0
HasTextCause command text (Refused cause) = Refuses command text cause
HasTextCause command text NoMemory = ⊤

-- A command never both accepts and refuses a text, and refuses it for one cause, or for causes that are alike.
use Rattle.std.proofs.Common.{ℕ, ◌≡◌, refl, subst, List}
use Rattle.command_words.specs.Shapes.{CommandValues, compile, simulate, eval, probe, window, make, self_, tape, aiger, vcd, lift}
use Rattle.blifww_tool.specs.Commands.{Accepts, Prints, Refuses, MustRefuse, AreLikeCauses}
use Rattle.blifww_tool.specs.Dumping.{last_dumped}
use Rattle.blifww_tool.specs.Simulation.{last_shown}
use Rattle.program_runs.specs.declared.causes.Cause.{Cause}
use Rattle.program_runs.specs.declared.causes.Cause.TheVariants.{NetlistFault, WeightTooLarge, Loop, AigAtFault, AigLoop, Pattern, GridTooLarge, PortTable, Streams, StartWord, NoSuchNet, TooFar, TooManyContexts, NotQuiet, NotCircuit}
use Rattle.made_summary.proofs.InTime.{few_cycles_are_in_time}
use Rattle.blifww_tool.proofs.SimulationOrNot.{runs_or_not, one_cause as one_cause_of_run}
use Rattle.blifww_tool.proofs.ViewOrNot.{view_or_not, one_cause as one_cause_of_view}
use Rattle.blifww_tool.proofs.ProbeOrNot.{probes_or_not, one_cause as one_cause_of_probe}
use Rattle.blifww_tool.proofs.EvaluationOrNot.{evaluates_or_not, one_cause as one_cause_of_evaluation}
use Rattle.blifww_tool.proofs.AigOrNot.{aig_or_not, one_cause as one_cause_of_aig}
use Rattle.blifww_tool.proofs.CircuitOrNot.{circuit_or_not, one_cause as one_cause_of_circuit}
use Rattle.blifww_tool.proofs.CompilationOrNot.{accepts_or_not, compiles_or_not, one_cause as one_cause_of_compilation}

-- a made netlist whose plans all run in time is not refused
in_time_or_not : (seed size cycles : ℕ) (text : List ℕ) (cause : Cause) → Accepts (self_ seed size cycles) text → Refuses (self_ seed size cycles) text cause → ⊥
in_time_or_not seed size cycles text (NetlistFault f) h k = k
in_time_or_not seed size cycles text (WeightTooLarge w) h k = k
in_time_or_not seed size cycles text (Loop names) h k = k
in_time_or_not seed size cycles text (AigAtFault fault) h k = k
in_time_or_not seed size cycles text (AigLoop literals) h k = k
in_time_or_not seed size cycles text (Pattern f) h k = k
in_time_or_not seed size cycles text (GridTooLarge x y) h k = k
in_time_or_not seed size cycles text (PortTable f) h k = k
in_time_or_not seed size cycles text (Streams f) h k = k
in_time_or_not seed size cycles text (StartWord f) h k = k
in_time_or_not seed size cycles text (NoSuchNet name) h k = k
in_time_or_not seed size cycles text (TooFar n) h k = few_cycles_are_in_time seed size cycles n h k
in_time_or_not seed size cycles text (TooManyContexts n limit) h k = k
in_time_or_not seed size cycles text (NotQuiet g x y) h k = k
in_time_or_not seed size cycles text (NotCircuit fault) h k = k

pub accepted_or_refused : (command : CommandValues) (text : List ℕ) (cause : Cause) → Accepts command text → Refuses command text cause → ⊥
accepted_or_refused (compile contexts starts) text cause h k = accepts_or_not contexts starts text h.0 cause h.1 h.2 k
accepted_or_refused (simulate cycles words) text cause h k = runs_or_not last_shown cycles words text h.0 cause h.1 k
accepted_or_refused (eval cycles words) text cause h k = evaluates_or_not cycles words text h.0 cause h.1 k
accepted_or_refused (probe cycles net path words) text cause h k = probes_or_not cycles net path words text h.0 cause h.1 k
accepted_or_refused (window view words) text cause h k = view_or_not view words text h.0 cause h.1 k
accepted_or_refused (make seed size) text cause h k = k
accepted_or_refused (self_ seed size cycles) text cause h k = in_time_or_not seed size cycles text cause h k
accepted_or_refused (tape cycles words) text cause h k = evaluates_or_not cycles words text h.0 cause h.1 k
accepted_or_refused aiger text cause h k = aig_or_not text h.0 cause h.1 k
accepted_or_refused (vcd cycles words) text cause h k = runs_or_not last_dumped cycles words text h.0 cause h.1 k
accepted_or_refused lift text cause h k = circuit_or_not text h.0 h.1 h.2 cause h.3 k

-- what is printed is of a text that the command need not refuse
pub printed_or_refused : (command : CommandValues) (text output : List ℕ) (cause : Cause) → Prints command text output → MustRefuse command text cause → ⊥
printed_or_refused (compile contexts starts) text output cause h k = compiles_or_not contexts starts text h.design cause h.has k
printed_or_refused (simulate cycles words) text output cause h k = runs_or_not last_shown cycles words text h.0 cause h.1 k
printed_or_refused (eval cycles words) text output cause h k = evaluates_or_not cycles words text h.evaluation cause h.is k
printed_or_refused (probe cycles net path words) text output cause h k = probes_or_not cycles net path words text h.bits cause h.probes k
printed_or_refused (window view words) text output cause h k = view_or_not view words text h.simulation cause h.has k
printed_or_refused (make seed size) text output cause h k = k
printed_or_refused (self_ seed size cycles) text output cause h k = k
printed_or_refused (tape cycles words) text output cause h k = evaluates_or_not cycles words text h.evaluation cause h.is k
printed_or_refused aiger text output cause h k = aig_or_not text h.aig cause h.is k
printed_or_refused (vcd cycles words) text output cause h k = runs_or_not last_dumped cycles words text h.simulation cause h.runs k
printed_or_refused lift text output cause h k = circuit_or_not text h.grid h.ports h.plan cause h.is k

-- equal causes are alike
alike_if_same : (a b : Cause) → a ≡ b → AreLikeCauses a b
alike_if_same a b e = subst (AreLikeCauses a) e (itself a)
  where
    itself : (a : Cause) → AreLikeCauses a a
    itself (NetlistFault f) = record { kind = refl; line = refl; whole = λ c r. refl }
    itself (WeightTooLarge w) = refl
    itself (Loop names) = tt
    itself (AigAtFault f) = refl
    itself (AigLoop literals) = tt
    itself (Pattern f) = refl
    itself (GridTooLarge x y) = refl
    itself (PortTable f) = refl
    itself (Streams f) = refl
    itself (StartWord f) = refl
    itself (NoSuchNet name) = refl
    itself (TooFar n) = refl
    itself (TooManyContexts n limit) = refl
    itself (NotQuiet g x y) = refl
    itself (NotCircuit fault) = refl

pub one_cause : (command : CommandValues) (text : List ℕ) (a b : Cause) → Refuses command text a → MustRefuse command text b → AreLikeCauses a b
one_cause (compile contexts starts) text a b h k = one_cause_of_compilation contexts starts text a b h k
one_cause (simulate cycles words) text a b h k = alike_if_same a b (one_cause_of_run last_shown cycles words text a b h k)
one_cause (eval cycles words) text a b h k = one_cause_of_evaluation cycles words text a b h k
one_cause (probe cycles net path words) text a b h k = alike_if_same a b (one_cause_of_probe cycles net path words text a b h k)
one_cause (window view words) text a b h k = alike_if_same a b (one_cause_of_view view words text a b h k)
one_cause (make seed size) text a b h k = absurd k
one_cause (self_ seed size cycles) text a b h k = absurd k
one_cause (tape cycles words) text a b h k = one_cause_of_evaluation cycles words text a b h k
one_cause aiger text a b h k = one_cause_of_aig text a b h k
one_cause (vcd cycles words) text a b h k = alike_if_same a b (one_cause_of_run last_dumped cycles words text a b h k)
one_cause lift text a b h k = alike_if_same a b (one_cause_of_circuit text a b h k)

-- What the parts of an evaluation give together.
use Rattle.std.proofs.Common.{ℕ, ◌≡◌, ◌∙◌, ap, sym, subst, List, length}
use Rattle.std.proofs.lemmas.List.{length-map}
use Rattle.netlist_core.specs.declared.model.Design.{Design}
use Rattle.netlist_core.specs.declared.flat.Flat.{Flat}
use Rattle.netlist_core.specs.declared.flat.FlatPort.{FlatPort}
use Rattle.netlist_core.specs.Names.{Name}
use Rattle.netlist_meaning.specs.Flat.{names_of_ports, name_of_net}
use Rattle.netlist_meaning.specs.Nets.{IsInNames}
use Rattle.netlist_text.specs.NetlistText.{IsNetlist}
use Rattle.netlist_text.specs.Causes.{HasNetlistCause}
use Rattle.netlist_text.specs.declared.error.NetlistError.{NetlistError}
use Rattle.netlist_text.specs.declared.error.NetlistError.TheVariants as netlist_of
use Rattle.streams.specs.declared.error.StreamError.{StreamError}
use Rattle.streams.specs.declared.error.StreamError.TheVariants as streams_of
use Rattle.streams.specs.declared.streams.Streams.{Streams}
use Rattle.streams.specs.Streams.{HasStreamCause}
use Rattle.command_words.specs.Shapes.{eval}
use Rattle.blifww_tool.specs.Commands.{HasTextCause}
use Rattle.program_runs.specs.declared.causes.TextError.{TextError}
use Rattle.program_runs.specs.declared.causes.TextError.TheVariants.{NoMemory}
use Rattle.blifww_tool.specs.Evaluation.{FeedsInputs, HasInputsCause, PrintsRun, Evaluates}
use Rattle.program_runs.specs.Refusals.{netlist_error, streams_error}

-- a text that gives no netlist,
pub eval_refused : (cycles : ℕ) (words : List (List ℕ)) (text : List ℕ) (e : NetlistError) → HasNetlistCause text e → HasTextCause (eval cycles words) text (netlist_error e)
eval_refused cycles words text (netlist_of.Fault fault) h = h
eval_refused cycles words text (netlist_of.TooLarge weight) h = h
eval_refused cycles words text (netlist_of.Loop names) h = h
eval_refused cycles words text netlist_of.NoMemory h = tt

-- and words that give no streams
pub streams_refused : (cycles : ℕ) (words : List (List ℕ)) (text : List ℕ) (design : Design) (e : StreamError) → IsNetlist text design
    → HasInputsCause cycles words design e → HasTextCause (eval cycles words) text (streams_error e)
streams_refused cycles words text design (streams_of.Fault fault) is h = (design, h.0, is, h.1, h.2)
streams_refused cycles words text design streams_of.NoMemory is h = tt

pub inputs_at_fault : (cycles : ℕ) (words : List (List ℕ)) (design : Design) (names : List Name) (e : StreamError) → IsInNames design names → HasStreamCause 1 words names cycles e → HasInputsCause cycles words design e
inputs_at_fault cycles words design names (streams_of.Fault fault) are h = (names, are, h)
inputs_at_fault cycles words design names streams_of.NoMemory are h = tt

-- the lines of a run are what is printed
pub run_printed : (cycles : ℕ) (words : List (List ℕ)) (text : List ℕ) (design : Design) (fed : Streams) (output : List ℕ) → IsNetlist text design → FeedsInputs 1 cycles words design fed
    → PrintsRun design fed output → Evaluates cycles words text output
run_printed cycles words text design fed output is inputs printed = record {
  evaluation = record { design = design; in_names = inputs.in_names; streams = fed };
  is = record { netlist = is; names = inputs.names; many = inputs.many; contexts = inputs.contexts; streams = inputs.streams };
  run = printed.run;
  is_run = printed.is_run;
  lines = printed.lines;
}

pub no_memory : (words : List (List ℕ)) (cycles : ℕ) (text : List ℕ) (e : TextError) → e ≡ NoMemory → HasTextCause (eval cycles words) text e
no_memory words cycles text e h = subst (λ (r : TextError). HasTextCause (eval cycles words) text r) (sym h) tt

-- as many names as ports
pub names_are_many : (flat : Flat) (ports : List FlatPort) (names : List Name) → names ≡ names_of_ports flat ports → length names ≡ length ports
names_are_many flat ports names e = ap (λ (ns : List Name). length ns) e ∙ length-map ports (λ port. name_of_net flat port.net)

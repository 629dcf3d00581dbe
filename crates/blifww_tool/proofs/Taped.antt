-- What the parts of a tape give together.
use Rattle.std.proofs.Common.{ℕ, ◌≡◌, sym, subst, List}
use Rattle.netlist_core.specs.declared.model.Design.{Design}
use Rattle.netlist_text.specs.NetlistText.{IsNetlist}
use Rattle.netlist_text.specs.Causes.{HasNetlistCause}
use Rattle.netlist_text.specs.declared.error.NetlistError.{NetlistError}
use Rattle.streams.specs.declared.error.StreamError.{StreamError}
use Rattle.streams.specs.declared.streams.Streams.{Streams}
use Rattle.command_words.specs.Shapes.{eval, tape}
use Rattle.program_runs.specs.Refusals.{netlist_error, streams_error}
use Rattle.program_runs.specs.declared.causes.TextError.{TextError}
use Rattle.program_runs.specs.declared.causes.TextError.TheVariants.{Refused, NoMemory}
use Rattle.blifww_tool.specs.Commands.{HasTextCause}
use Rattle.blifww_tool.specs.Evaluation.{FeedsInputs, HasInputsCause}
use Rattle.blifww_tool.specs.Taping.{IsTapeOf, Tapes}
use Rattle.blifww_tool.proofs.Evaluated.{eval_refused, streams_refused}

-- what is not evaluated has no tape
as_eval : (cycles : ℕ) (words : List (List ℕ)) (text : List ℕ) (e : TextError) → HasTextCause (eval cycles words) text e → HasTextCause (tape cycles words) text e
as_eval cycles words text (Refused cause) h = h
as_eval cycles words text NoMemory h = tt

pub netlist_refused : (cycles : ℕ) (words : List (List ℕ)) (text : List ℕ) (e : NetlistError) → HasNetlistCause text e → HasTextCause (tape cycles words) text (netlist_error e)
netlist_refused cycles words text e h = as_eval cycles words text (netlist_error e) (eval_refused cycles words text e h)

pub inputs_refused : (cycles : ℕ) (words : List (List ℕ)) (text : List ℕ) (design : Design) (e : StreamError) → IsNetlist text design
    → HasInputsCause cycles words design e → HasTextCause (tape cycles words) text (streams_error e)
inputs_refused cycles words text design e is h = as_eval cycles words text (streams_error e) (streams_refused cycles words text design e is h)

pub no_memory : (cycles : ℕ) (words : List (List ℕ)) (text : List ℕ) (e : TextError) → e ≡ NoMemory → HasTextCause (tape cycles words) text e
no_memory cycles words text e h = subst (λ (r : TextError). HasTextCause (tape cycles words) text r) (sym h) tt

-- and the tape of a netlist's streams is what is printed
pub tape_printed : (cycles : ℕ) (words : List (List ℕ)) (text : List ℕ) (design : Design) (fed : Streams) (output : List ℕ) → IsNetlist text design → FeedsInputs 1 cycles words design fed
    → IsTapeOf design fed output → Tapes cycles words text output
tape_printed cycles words text design fed output is inputs taped = record {
  evaluation = record { design = design; in_names = inputs.in_names; streams = fed };
  is = record { netlist = is; names = inputs.names; many = inputs.many; contexts = inputs.contexts; streams = inputs.streams };
  tape = taped;
}

-- What the parts of a probe give together.
use Rattle.std.proofs.Common.{ℕ, ◌≡◌, ◌⊎◌, refl, sym, subst, List, inl, inr}
use Rattle.ww_rule.specs.Grid.{plane_of}
use Rattle.command_words.specs.Shapes.{probe}
use Rattle.probe_view.specs.declared.error.ProbeError.{ProbeError}
use Rattle.probe_view.specs.declared.error.ProbeError.TheVariants as probing
use Rattle.probe_view.specs.Probes.{HasProbeCause}
use Rattle.blifww_tool.specs.Commands.{HasTextCause}
use Rattle.blifww_tool.specs.Probing.{HasNoProbe}
use Rattle.program_runs.specs.Refusals.{probe_refusal}
use Rattle.blifww_tool.specs.Simulation.{Simulation, IsSimulation, HasNoStreams, HasStreamsCause}
use Rattle.program_runs.specs.declared.causes.Cause.{Cause}
use Rattle.program_runs.specs.declared.causes.Cause.TheVariants.{NetlistFault, WeightTooLarge, Loop, AigAtFault, AigLoop, Pattern, GridTooLarge, PortTable, Streams, StartWord, NoSuchNet, TooFar, TooManyContexts, NotQuiet, NotCircuit}
use Rattle.program_runs.specs.declared.causes.TextError.{TextError}
use Rattle.program_runs.specs.declared.causes.TextError.TheVariants.{Refused, NoMemory}

cause_of : (cycles : ℕ) (name path : List ℕ) (words : List (List ℕ)) (text : List ℕ) (cause : Cause) → HasNoStreams cycles words text cause → HasNoProbe cycles name path words text cause
cause_of cycles name path words text (NetlistFault f) h = h
cause_of cycles name path words text (WeightTooLarge w) h = h
cause_of cycles name path words text (Loop names) h = h
cause_of cycles name path words text (AigAtFault fault) h = h
cause_of cycles name path words text (AigLoop literals) h = h
cause_of cycles name path words text (Pattern f) h = h
cause_of cycles name path words text (GridTooLarge x y) h = h
cause_of cycles name path words text (PortTable f) h = h
cause_of cycles name path words text (Streams f) h = h
cause_of cycles name path words text (StartWord f) h = h
cause_of cycles name path words text (NoSuchNet n) h = absurd h
cause_of cycles name path words text (TooFar n) h = absurd h
cause_of cycles name path words text (TooManyContexts n limit) h = h
cause_of cycles name path words text (NotQuiet g x y) h = absurd h
cause_of cycles name path words text (NotCircuit fault) h = absurd h

-- a text and words that are no simulation,
pub simulation_refused : (cycles : ℕ) (name path : List ℕ) (words : List (List ℕ)) (text : List ℕ) (e : TextError) → HasStreamsCause cycles words text e → HasTextCause (probe cycles name path words) text e
simulation_refused cycles name path words text (Refused cause) h = cause_of cycles name path words text cause h
simulation_refused cycles name path words text NoMemory h = tt

told_cause : (cycles : ℕ) (name path : List ℕ) (words : List (List ℕ)) (text : List ℕ) (s : Simulation) (e : ProbeError) → IsSimulation cycles words text s
    → HasProbeCause s.ports s.streams (plane_of s.grid.rows) name path e → HasTextCause (probe cycles name path words) text (probe_refusal name e)
told_cause cycles name path words text s probing.NoMemory is h = tt
told_cause cycles name path words text s probing.NoSuchNet is h = (s, is, refl, h)
told_cause cycles name path words text s (probing.TooFar generations) is h = (s, is, h)
told_cause cycles name path words text s (probing.NotQuiet generation x y) is h = (s, is, h)

-- and a net that is not shown
pub probe_refused : (cycles : ℕ) (name path : List ℕ) (words : List (List ℕ)) (text : List ℕ) (s : Simulation) (e : ProbeError) (told : TextError) → IsSimulation cycles words text s
    → HasProbeCause s.ports s.streams (plane_of s.grid.rows) name path e → (told ≡ NoMemory) ⊎ (told ≡ probe_refusal name e) → HasTextCause (probe cycles name path words) text told
probe_refused cycles name path words text s e told is h (inl no_memory) = subst (HasTextCause (probe cycles name path words) text) (sym no_memory) tt
probe_refused cycles name path words text s e told is h (inr same) = subst (HasTextCause (probe cycles name path words) text) (sym same) (told_cause cycles name path words text s e is h)

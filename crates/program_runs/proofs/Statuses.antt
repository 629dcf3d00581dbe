-- The status of a refusal is never that of a run that is done, and that of a cause never that of a failed write.
use Rattle.std.proofs.Common.{◌≢◌}
use Rattle.program_runs.specs.Refusals.{status_of, status_of_cause}
use Rattle.program_runs.specs.declared.causes.Cause.{Cause}
use Rattle.program_runs.specs.declared.causes.Cause.TheVariants.{NetlistFault, WeightTooLarge, Loop, AigAtFault, AigLoop, Pattern, GridTooLarge, PortTable, Streams, StartWord, NoSuchNet, TooFar, TooManyContexts, NotQuiet, NotCircuit}
use Rattle.program_runs.specs.declared.refusal.Refusal.{Refusal}
use Rattle.program_runs.specs.declared.refusal.Refusal.TheVariants.{Usage, TooLong, ReadFault, WriteFault, NoMemory, Text}

pub cause_is : (cause : Cause) → (status_of_cause cause ≢ 0) × (status_of_cause cause ≢ 6)
cause_is (NetlistFault f) = (λ e. cc, λ e. cc)
cause_is (WeightTooLarge w) = (λ e. cc, λ e. cc)
cause_is (Loop names) = (λ e. cc, λ e. cc)
cause_is (AigAtFault fault) = (λ e. cc, λ e. cc)
cause_is (AigLoop literals) = (λ e. cc, λ e. cc)
cause_is (Pattern f) = (λ e. cc, λ e. cc)
cause_is (GridTooLarge x y) = (λ e. cc, λ e. cc)
cause_is (PortTable f) = (λ e. cc, λ e. cc)
cause_is (Streams f) = (λ e. cc, λ e. cc)
cause_is (StartWord f) = (λ e. cc, λ e. cc)
cause_is (NoSuchNet name) = (λ e. cc, λ e. cc)
cause_is (TooFar n) = (λ e. cc, λ e. cc)
cause_is (TooManyContexts n limit) = (λ e. cc, λ e. cc)
cause_is (NotQuiet g x y) = (λ e. cc, λ e. cc)
cause_is (NotCircuit fault) = (λ e. cc, λ e. cc)

pub never_done : (r : Refusal) → status_of r ≢ 0
never_done Usage = λ e. cc
never_done TooLong = λ e. cc
never_done ReadFault = λ e. cc
never_done WriteFault = λ e. cc
never_done NoMemory = λ e. cc
never_done (Text cause) = (cause_is cause).0

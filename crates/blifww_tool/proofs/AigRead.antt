-- Why a text gives no plan of a circuit.
use Rattle.std.proofs.Common.{ℕ, ◌≡◌, refl, List}
use Rattle.aiger_text.specs.declared.aig.Aig.{Aig}
use Rattle.aiger_text.specs.declared.fault.AigFault.{AigFault}
use Rattle.aiger_text.specs.AigText.{ReadsAsAig, HasAigFault}
use Rattle.aiger_reader.specs.declared.error.AigReadError.{AigReadError}
use Rattle.aiger_reader.specs.declared.error.AigReadError.TheVariants as reading
use Rattle.aiger_meaning.specs.declared.error.LowerError.{LowerError}
use Rattle.aiger_meaning.specs.declared.error.LowerError.TheVariants as planning
use Rattle.aiger_meaning.specs.Causes.{HasLowerCause}
use Rattle.command_words.specs.Shapes.{aiger}
use Rattle.program_runs.specs.Refusals.{aig_error, lower_error}
use Rattle.blifww_tool.specs.Commands.{HasTextCause}

-- one that is at fault,
pub read_refused : (text : List ℕ) (e : AigReadError) → ((fault : AigFault) → e ≡ reading.Fault fault → HasAigFault text fault) → HasTextCause aiger text (aig_error e)
read_refused text (reading.Fault fault) h = h fault refl
read_refused text reading.NoMemory h = tt

-- and one whose circuit has none
pub plan_refused : (text : List ℕ) (aig : Aig) (e : LowerError) → ReadsAsAig text aig → HasLowerCause aig e → HasTextCause aiger text (lower_error e)
plan_refused text aig (planning.TooLarge weight) reads h = (aig, reads, h)
plan_refused text aig (planning.Loop literals) reads h = (aig, reads, h)
plan_refused text aig planning.NoMemory reads h = tt

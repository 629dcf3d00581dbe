-- What each part of the way from a text to its netlist gives.
use Rattle.std.proofs.Common.{ℕ, ◌≡◌, ◌≤◌, refl, sym, subst, List, arith}
use Rattle.std.specs.Prelude.{Some}
use Rattle.netlist_core.specs.declared.model.Design.{Design}
use Rattle.netlist_core.specs.declared.model.Model.{Model}
use Rattle.netlist_core.specs.declared.flat.Flat.{Flat}
use Rattle.netlist_meaning.specs.Weight.{weight}
use Rattle.netlist_meaning.specs.Flat.{IsInRange, IsSound}
use Rattle.netlist_meaning.specs.FlatOf.{IsFlatOf}
use Rattle.netlist_meaning.specs.FlatOrder.{IsFlatLoop}
use Rattle.netlist_rules.specs.declared.fault.Fault.{Fault}
use Rattle.netlist_rules.specs.ModelFaults.{HasModelFault, AreFaultless}
use Rattle.netlist_rules.specs.Clocks.{HasNoClockFault}
use Rattle.netlist_rules.specs.FlatClocks.{IsFlatClockFault}
use Rattle.blif_text.specs.LogicalLines.{logical_lines}
use Rattle.blif_text.specs.LineFaults.{line_fault}
use Rattle.blif_text.specs.Faults.{HasModels, of_line, of_models, IsDesignOf}
use Rattle.flat_designs.proofs.Sound.{flat_is_in_range, flat_is_sound}
use Rattle.flat_designs.proofs.ClockFaults.{clock_faults_are_flat}
use Rattle.flat_designs.proofs.Loops.{loops_are_flat}
use Rattle.blif_reader.specs.declared.error.ReadError.{ReadError}
use Rattle.blif_reader.specs.declared.error.ReadError.TheVariants as read
use Rattle.blif_check.specs.declared.error.CheckError.{CheckError}
use Rattle.blif_check.specs.declared.error.CheckError.TheVariants as check
use Rattle.clock_check.specs.declared.error.ClockError.{ClockError}
use Rattle.clock_check.specs.declared.error.ClockError.TheVariants as clock
use Rattle.netlist_text.specs.Errors.{read_error, check_error, clock_error}
use Rattle.netlist_text.specs.Causes.{HasNetlistCause}
use Rattle.netlist_text.specs.NetlistText.{IsLight, IsNetlist, of_text, of_clocks}

-- its lines may be at fault,
pub unread : (text : List ℕ) (e : ReadError) → ((fault : Fault) → (e ≡ read.Fault fault) → line_fault (logical_lines text) ≡ Some fault) → HasNetlistCause text (read_error e)
unread text (read.Fault fault) h = of_text (of_line (h fault refl))
unread text read.NoMemory h = tt

-- its models,
pub unchecked : (text : List ℕ) (models : List Model) (e : CheckError) → HasModels (logical_lines text) models → ((fault : Fault) → (e ≡ check.Fault fault) → HasModelFault models fault)
    → HasNetlistCause text (check_error e)
unchecked text models (check.Fault fault) m h = of_text (of_models m (h fault refl))
unchecked text models check.NoMemory m h = tt

pub design_is : (text : List ℕ) (models : List Model) (design : Design) → HasModels (logical_lines text) models → design.models ≡ models → AreFaultless models → IsDesignOf text design
design_is text models design m same faultless = record { models = subst (λ (ms : List Model). HasModels (logical_lines text) ms) (sym same) m; faultless = subst AreFaultless (sym same) faultless }

pub in_range : (text : List ℕ) (design : Design) (flat : Flat) → IsLight text design → IsFlatOf design flat → IsInRange flat
in_range text design flat is h = flat_is_in_range design flat is.design_of.faultless h (let light : weight design ≤ 8192 = is.light in omega (arith, light))

-- or its clocks at fault
pub unclocked : (text : List ℕ) (design : Design) (flat : Flat) (e : ClockError) → IsLight text design → IsFlatOf design flat → ((fault : Fault) → (e ≡ clock.Fault fault) → IsFlatClockFault flat fault)
    → HasNetlistCause text (clock_error e)
unclocked text design flat (clock.Fault fault) is h k = of_clocks is ((clock_faults_are_flat design flat is.design_of.faultless h fault).1 (k fault refl))
unclocked text design flat clock.NoMemory is h k = tt

pub no_clock_fault : (design : Design) (flat : Flat) → AreFaultless design.models → IsFlatOf design flat → ((fault : Fault) → IsFlatClockFault flat fault → ⊥) → HasNoClockFault design
no_clock_fault design flat faultless h none fault k = none fault ((clock_faults_are_flat design flat faultless h fault).0 k)

pub sound : (text : List ℕ) (design : Design) (flat : Flat) → IsLight text design → HasNoClockFault design → IsFlatOf design flat → IsSound flat
sound text design flat is clean h = flat_is_sound design flat is.design_of.faultless clean h (let light : weight design ≤ 8192 = is.light in omega (arith, light))

-- where there is no loop it is a netlist
pub netlist_is : (text : List ℕ) (design : Design) (flat : Flat) → IsLight text design → HasNoClockFault design → IsFlatOf design flat → ((classes : List ℕ) → IsFlatLoop flat classes → ⊥) → IsNetlist text design
netlist_is text design flat is clean h none =
    record { is = is; clocks = clean; no_loop = λ nets l. none _ ((loops_are_flat design flat is.design_of.faultless h).is_flat nets l) }

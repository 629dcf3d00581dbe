-- Drawings that keep their laws are gates at the periods that they fit.
use Rattle.std.proofs.Common.{ℕ}
use Rattle.gate_laws.specs.Gates.{IsGateForPeriod}
use Rattle.gate_laws.proofs.Gates.{lawful_are_gates}
use Rattle.gate_laws.proofs.Crossings.{crossings_are_gates}
use Rattle.gate_library.specs.declared.gate.Timing.{Timing}
use Rattle.gate_library.specs.declared.gate.Timing.TheVariants.{Together, Apart}
use Rattle.gate_library.specs.declared.gate.GateDrawing.{GateDrawing}
use Rattle.gate_library.specs.Lawful.{gate_together, crossing_apart, gate_by, KeepsLawOf, FitsPeriod, LawfulAreGatesAtPeriod}

by_timing : (timing : Timing) (d : GateDrawing) → KeepsLawOf timing d → (period later : ℕ) → FitsPeriod timing d.time period later → IsGateForPeriod period (gate_by timing d later)
by_timing Together d law period later fits = lawful_are_gates (gate_together d) law period fits
by_timing Apart d law period later fits = crossings_are_gates (crossing_apart d) law.1 period later fits.0 fits.1

pub lawful_are_gates_at_period : LawfulAreGatesAtPeriod
lawful_are_gates_at_period d is period later fits = by_timing d.timing d is.law period later fits

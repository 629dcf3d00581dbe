-- One answer at most holds of a pattern with a table.
use Rattle.std.proofs.Common.{◌≡◌, refl, sym, ◌∙◌, false}
use Rattle.std.proofs.lemmas.Bool.{true≢false}
use Rattle.ww_rule.specs.Grid.{Grid}
use Rattle.lane_core.specs.declared.plan.Plan.{Plan}
use Rattle.pattern_reading.specs.declared.ports.Ports.{Ports}
use Rattle.tile_match.specs.declared.error.CircuitFault.{CircuitFault}
use Rattle.tile_match.specs.declared.error.CircuitFault.TheVariants as fault
use Rattle.tile_match.specs.Circuit.{IsPlanDrawing}
use Rattle.tile_match.specs.Faults.{HasCircuitFault}
use Rattle.tile_match.specs.Names.{has_bad_name}
use Rattle.tile_match.specs.Laws.{FaultsExclude}

one_fault : (grid : Grid) (ports : Ports) (a b : CircuitFault) → HasCircuitFault grid ports a → HasCircuitFault grid ports b → a ≡ b
one_fault grid ports fault.Ports fault.Ports h k = refl
one_fault grid ports fault.Ports fault.Names h k = absurd (h k.0)
one_fault grid ports fault.Ports fault.Cells h k = absurd (h k.0)
one_fault grid ports fault.Names fault.Ports h k = absurd (k h.0)
one_fault grid ports fault.Names fault.Names h k = refl
one_fault grid ports fault.Names fault.Cells h k = absurd (true≢false (sym h.1 ∙ k.1))
one_fault grid ports fault.Cells fault.Ports h k = absurd (k h.0)
one_fault grid ports fault.Cells fault.Names h k = absurd (true≢false (sym k.1 ∙ h.1))
one_fault grid ports fault.Cells fault.Cells h k = refl

no_plan : (grid : Grid) (ports : Ports) (a : CircuitFault) → HasCircuitFault grid ports a → (plan : Plan) → IsPlanDrawing grid ports plan → has_bad_name ports ≡ false → ⊥
no_plan grid ports fault.Ports h plan d good = h (plan, d.circuit, d.ports)
no_plan grid ports fault.Names h plan d good = true≢false (sym h.1 ∙ good)
no_plan grid ports fault.Cells h plan d good = h.2 plan d

pub faults_exclude : FaultsExclude
faults_exclude grid ports a h = record { one = λ b k. one_fault grid ports a b h k; no_plan = λ plan d good. no_plan grid ports a h plan d good }

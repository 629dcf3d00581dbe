-- The pattern that is written of the text of an AIGER circuit.
use Rattle.std.specs.Prelude.{ℕ, ◌≡◌, ◌≤◌, List}
use Rattle.lane_core.specs.declared.plan.Plan.{Plan}
use Rattle.pattern_reading.specs.declared.ports.Ports.{Ports}
use Rattle.rle_write.specs.PlanText.{text_of_plan}
use Rattle.netlist_core.specs.Limit.{weight_limit}
use Rattle.aiger_text.specs.declared.aig.Aig.{Aig}
use Rattle.aiger_text.specs.AigText.{ReadsAsAig, HasAigFault}
use Rattle.aiger_meaning.specs.declared.error.LowerError.TheVariants as planning
use Rattle.aiger_meaning.specs.Circuit.{aig_weight}
use Rattle.aiger_meaning.specs.Loop.{IsAigLoop}
use Rattle.aiger_meaning.specs.Causes.{HasLowerCause}
use Rattle.aiger_plans.specs.Planned.{IsPlanOfAig}
use Rattle.program_runs.specs.declared.causes.Cause.{Cause}
use Rattle.program_runs.specs.declared.causes.Cause.TheVariants.{WeightTooLarge, AigAtFault, AigLoop}

-- The text reads as this circuit, whose weight is within the limit and whose gates do not read each
-- other in a circle.
pub record IsAig (text : List ℕ) (aig : Aig) : Type 0 where
  pub reads : ReadsAsAig text aig
  pub light : aig_weight aig ≤ weight_limit
  pub no_loop : (literals : List ℕ) → ¬ IsAigLoop aig literals

-- The text is a circuit. The output is the written text of a plan of the circuit and of the plan's
-- table.
pub record CompilesAig (text output : List ℕ) : Type 0 where
  pub aig : Aig
  pub is : IsAig text aig
  pub plan : Plan
  pub ports : Ports
  pub is_plan : IsPlanOfAig aig plan ports
  pub written : output ≡ text_of_plan plan ports

-- why the text is no circuit: it is at fault; or it reads as a circuit that is too heavy, or is
-- within the limit and has gates that read each other in a circle
abbrev pub HasNoAig : List ℕ → Cause → Type 0
HasNoAig text (AigAtFault fault) = HasAigFault text fault
HasNoAig text (WeightTooLarge told) =
    (aig : Aig) × ReadsAsAig text aig × HasLowerCause aig (planning.TooLarge told)
HasNoAig text (AigLoop literals) =
    (aig : Aig) × ReadsAsAig text aig × HasLowerCause aig (planning.Loop literals)
HasNoAig text _ = ⊥

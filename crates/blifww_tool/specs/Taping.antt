-- The pattern that is written of a netlist with its streams on a tape.
use Rattle.std.specs.Prelude.{◌≡◌, ℕ, List, []}
use Rattle.lane_core.specs.declared.plan.Plan.{Plan}
use Rattle.lane_core.specs.Plans.{IsAdmissible}
use Rattle.plan_layout.specs.Starts.{HasStartEdges}
use Rattle.pattern_reading.specs.declared.ports.Ports.{Ports}
use Rattle.rle_write.specs.PlanText.{text_of_plan}
use Rattle.carries.specs.ByItself.{RunsByItself}
use Rattle.netlist_core.specs.declared.model.Design.{Design}
use Rattle.netlist_core.specs.declared.flat.Flat.{Flat}
use Rattle.netlist_meaning.specs.FlatOf.{IsFlatOf}
use Rattle.plan_ports.specs.Tables.{IsTableOf}
use Rattle.streams.specs.declared.streams.Streams.{Streams}
use Rattle.streams.specs.Rows.{rows_of}
use Rattle.netlist_plans.specs.Loaded.{IsLoadedWith}
use Rattle.blifww_tool.specs.Compilation.{IsCarriedBy}
use Rattle.blifww_tool.specs.Evaluation.{Evaluation, IsEvaluation}

-- A machine without a tape carries the design. The plan is the machine with the streams on its
-- tape. The output is the text that is written of the plan and its table, and runs by itself as the
-- design does on the streams, and on zeros after them.
pub record IsTapeOf (design : Design) (fed : Streams) (output : List ℕ) : Type 0 where
  pub machine : Plan
  pub machine_ports : Ports
  pub is_carried : IsCarriedBy design machine machine_ports
  pub bare : machine.tape ≡ []
  pub plan : Plan
  pub ports : Ports
  pub loaded : IsLoadedWith fed machine plan
  pub admissible : IsAdmissible plan
  pub edges : HasStartEdges plan
  pub table : (flat : Flat) → IsFlatOf design flat → IsTableOf flat plan 1 ports
  pub written : output ≡ text_of_plan plan ports
  pub runs : RunsByItself output design (rows_of fed)

-- The text is a netlist, and the words give streams for its inputs; the output is their tape.
pub record Tapes (cycles : ℕ) (words : List (List ℕ)) (text output : List ℕ) : Type 0 where
  pub evaluation : Evaluation
  pub is : IsEvaluation cycles words text evaluation
  pub tape : IsTapeOf evaluation.design evaluation.streams output

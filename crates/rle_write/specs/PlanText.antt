-- The text that is written of a plan.
use Rattle.std.specs.Prelude.{ℕ, List}
use Rattle.lane_core.specs.declared.plan.Plan.{Plan}
use Rattle.grid_assembly.specs.PlanDrawing.{start_grid}
use Rattle.pattern_reading.specs.declared.ports.Ports.{Ports}
use Rattle.pattern_writing.specs.WrittenText.{pattern_text}

-- the text of the plan's pattern, with the lines of its port table
abbrev pub text_of_plan : Plan → Ports → List ℕ
text_of_plan plan ports = pattern_text (start_grid plan) ports

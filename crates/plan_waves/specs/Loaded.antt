-- A plan with other bits on its tape.
use Rattle.std.specs.Prelude.{Bool, List}
use Rattle.lane_core.specs.declared.plan.Plan.{Plan}

-- the plan with these bits on its tape; all else stays
abbrev pub with_tape : List (List Bool) → Plan → Plan
with_tape bits plan = record {
  lanes = plan.lanes;
  columns = plan.columns;
  latches = plan.latches;
  starts = plan.starts;
  ins = plan.ins;
  outs = plan.outs;
  nets = plan.nets;
  tape = bits;
}

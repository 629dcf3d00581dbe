-- Plans with more columns, which hold no instructions.
use Rattle.std.specs.Prelude.{ℕ, ◌≡◌, Bool, List, map}
use Rattle.lane_core.specs.declared.plan.Plan.{Plan}
use Rattle.lane_core.specs.Instrs.{bit_on}
use Rattle.lane_core.specs.Columns.{after_columns}
use Rattle.lane_core.specs.Entering.{bits_after}
use Rattle.cell_core.specs.declared.list.CellList.{CellList}
use Rattle.cell_meaning.specs.Computes.{ComputesByPlan}
use Rattle.latch_loops.specs.Closed.{IsPadded}

-- the plan with columns added, if there are fewer than `size`; its starts may be others
pub record IsPaddedPlan (size : ℕ) (plan padded : Plan) : Type 0 where
  pub lanes : padded.lanes ≡ plan.lanes
  pub latches : padded.latches ≡ plan.latches
  pub ins : padded.ins ≡ plan.ins
  pub outs : padded.outs ≡ plan.outs
  pub nets : padded.nets ≡ plan.nets
  pub columns : IsPadded size plan.columns padded.columns
  pub tape : padded.tape ≡ plan.tape

-- the padded plan does what the plan does: at the end, and at each place of a net
pub record DoesAsPlan (plan padded : Plan) : Type 0 where
  pub end : (bits : List Bool) → after_columns padded.columns bits ≡ after_columns plan.columns bits
  pub nets : (bits : List Bool)
      → map (λ place. bit_on
      (bits_after after_columns padded.columns place.after bits) place.lane) padded.nets
      ≡ map (λ place. bit_on
      (bits_after after_columns plan.columns place.after bits) place.lane) plan.nets

-- a padded plan that does as the plan does computes the cells that the plan computes
abbrev pub PaddingKeepsCells : Type 0
PaddingKeepsCells =
    (list : CellList) (size : ℕ) (plan padded : Plan) → IsPaddedPlan size plan padded
    → DoesAsPlan plan padded → ComputesByPlan list plan → ComputesByPlan list padded

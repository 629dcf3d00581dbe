-- Sizes of columns and plans.
use Rattle.std.specs.Prelude.{ℕ, ◌+◌, ◌*◌, List, length, sum_by}
use Rattle.lane_core.specs.declared.instr.Column.{Column}
use Rattle.lane_core.specs.declared.plan.Plan.{Plan}

-- how many instructions all columns have together
abbrev pub instr_count : List Column → ℕ
instr_count columns = sum_by (λ (column : Column). length column.instrs) columns

-- how many tiles the drawing of a plan has: its columns and, on both sides, one for each loop, by
-- its lanes and, below them, one for each loop
abbrev pub tiles : Plan → ℕ
tiles plan = (length plan.columns + 2 * plan.latches) * (plan.lanes + plan.latches)

-- Plans made of columns and programs.
use Rattle.std.specs.Prelude.{ℕ, ◌+◌, ◌-◌, ◌*◌, ◌≡◌, ◌==◌, max, min, cond, Bool, List, [], ◌++◌, map, length, All}
use Rattle.lane_core.specs.declared.instr.Column.{Column}
use Rattle.lane_core.specs.declared.plan.Program.{Program}
use Rattle.lane_core.specs.declared.plan.Plan.{Plan}
use Rattle.lane_core.specs.Instrs.{bit_on, after_instrs}
use Rattle.lane_core.specs.Columns.{after_columns}
use Rattle.lane_core.specs.Entering.{bits_after}
use Rattle.cell_core.specs.declared.list.CellList.{CellList}
use Rattle.cell_meaning.specs.Computes.{ComputesByProgram, ComputesByPlan}
use Rattle.latch_loops.specs.Places.{closed_place}

-- columns without instructions are added, if there are fewer than `size`
pub record IsPadded (size : ℕ) (columns padded : List Column) : Type 0 where
  pub more : List Column
  pub is : padded ≡ columns ++ more
  pub empty : All (λ column. column.instrs ≡ []) more
  pub count : length padded ≡ max size (length columns)

-- how many columns are enough for the starts of so many contexts on the ways back of so many loops:
-- none without loops, as there is nothing to start
abbrev pub contexts_size : ℕ → ℕ → ℕ
contexts_size loops contexts = cond (loops == 0) 0 (contexts - 4 * loops)

-- the greatest of the number of loops, of 1 if there are lanes, and of what so many contexts need
abbrev pub least_size : Program → ℕ → ℕ
least_size program contexts =
    max (max (length program.latches) (min program.lanes 1))
    (contexts_size (length program.latches) contexts)

-- The plan has the program's lanes, loops, ports and nets, no tape, and these columns, padded:
-- there are at least as many as loops, at least 1 if there are lanes, and enough for the starts of
-- so many contexts.
pub record IsClosed (program : Program) (columns : List Column) (contexts : ℕ)
    (plan : Plan) : Type 0 where
  pub lanes : plan.lanes ≡ program.lanes
  pub latches : plan.latches ≡ length program.latches
  pub ins : plan.ins ≡ program.ins
  pub outs : plan.outs ≡ program.outs
  pub padded : IsPadded (least_size program contexts) columns plan.columns
  pub nets : plan.nets ≡ map (closed_place program.instrs) program.nets
  pub tape : plan.tape ≡ []

-- how many contexts there may be: as many as a loop of the plan of one context has tiles, or 1
-- without loops
abbrev pub contexts_limit : List Column → Program → ℕ
contexts_limit columns program =
    cond (length program.latches == 0) 1
    (2 * max (length columns) (length program.latches) + 4 * length program.latches)

-- the plan does what the program does: at the end, and at each place of a net
pub record DoesAsProgram (program : Program) (plan : Plan) : Type 0 where
  pub end : (bits : List Bool) → after_columns plan.columns bits ≡ after_instrs program.instrs bits
  pub nets : (bits : List Bool)
      → map (λ place. bit_on
      (bits_after after_columns plan.columns place.after bits) place.lane) plan.nets
      ≡ map (λ place. bit_on
      (bits_after after_instrs program.instrs place.after bits) place.lane) program.nets

-- a plan that is closed from a program and does as it does computes the cells that the program
-- computes
abbrev pub ClosingKeepsCells : Type 0
ClosingKeepsCells =
    (list : CellList) (program : Program) (columns : List Column) (contexts : ℕ) (plan : Plan)
    → IsClosed program columns contexts plan → DoesAsProgram program plan
    → ComputesByProgram list program → ComputesByPlan list plan

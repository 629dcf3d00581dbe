-- A plan that rows of input bits drive in several contexts: a list of rows for each context, with
-- one row for each cycle and one bit for each input.
use Rattle.std.specs.Prelude.{ℕ, ◌<◌, ◌≡◌, Bool, List, [], length, get_or}
use Rattle.ww_rule.specs.Wireworld.{Due}
use Rattle.ww_rule.specs.Contexts.{due_of_contexts, context_row}
use Rattle.tile_core.specs.declared.kind.Kind.{Kind}
use Rattle.tile_core.specs.Drawing.{Drawing}
use Rattle.tiling.specs.Tiling.{Lit}
use Rattle.tiling.specs.Steps.{KeepsLaw}
use Rattle.lane_core.specs.declared.plan.Plan.{Plan}
use Rattle.lane_core.specs.Plans.{IsAdmissible, period_of, input_cells}
use Rattle.lane_core.specs.Entering.{first_loop_lane, entering_bits, row_bits}
use Rattle.plan_waves.specs.Contexts.{StartsContexts, DrivesContexts, injected_in}
use Rattle.plan_waves.specs.ShownContexts.{ShowsContextBits}

-- the drive of these rows: a head at the cell of an input in each cycle of each context in which
-- its bit is 1
abbrev pub drive_of_contexts : Plan → List (List (List Bool)) → Due
drive_of_contexts plan contexts = due_of_contexts (period_of plan) (input_cells plan) contexts

-- the bits of the row of a cycle of a context, on the lanes that no loop enters
abbrev pub row_bits_in : Plan → List (List (List Bool)) → ℕ → ℕ → List Bool
row_bits_in plan contexts c t =
    row_bits (first_loop_lane plan.lanes plan.latches) plan.ins (context_row contexts c t)

-- the rows drive a plan at its inputs in each cycle of each context, and inject exactly their bits,
-- on the lanes of inputs
pub record AreInjectedInContexts (plan : Plan) (contexts : List (List (List Bool))) : Type 0 where
  pub drive : DrivesContexts plan (length contexts) (drive_of_contexts plan contexts)
  pub bits : (c t : ℕ) → c < length contexts
      → injected_in plan (drive_of_contexts plan contexts) c t ≡ row_bits_in plan contexts c t

-- the rows of as many contexts as are started drive an admissible plan so
abbrev pub ContextRowsAreInjected : Type 0
ContextRowsAreInjected =
    (plan : Plan) → IsAdmissible plan → (starts : List (List Bool)) (lit : Lit)
    → StartsContexts plan starts lit
    → (contexts : List (List (List Bool))) → length contexts ≡ length starts
    → AreInjectedInContexts plan contexts

-- the bits that enter the body in a cycle of a context: those of the cycle's row, and what the
-- loops bring
abbrev pub bits_of_context_rows : Plan → List (List Bool) → List (List (List Bool)) → ℕ → ℕ
    → List Bool
bits_of_context_rows plan starts contexts c t =
    entering_bits (first_loop_lane plan.lanes plan.latches) plan.columns
    (row_bits_in plan contexts c) (get_or starts c []) t

-- an admissible plan that such rows drive shows what its columns make of the bits that enter: for
-- every library, all edges that start contexts, and rows for each context
abbrev pub PlansShowContextRows : Type 0
PlansShowContextRows =
    (library : Kind → Drawing) → KeepsLaw library → (plan : Plan) → IsAdmissible plan
    → (starts : List (List Bool)) (lit : Lit) → StartsContexts plan starts lit
    → (contexts : List (List (List Bool))) → length contexts ≡ length starts
    → ShowsContextBits library plan lit (drive_of_contexts plan contexts) (length starts)
    (bits_of_context_rows plan starts contexts)

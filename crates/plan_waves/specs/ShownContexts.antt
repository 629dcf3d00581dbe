-- What the plane of a plan, drawn with any library of tiles that keep the timing law, shows of each
-- of several contexts.
use Rattle.std.specs.Prelude.{pos, ℕ, ◌+◌, ◌*◌, ◌<◌, ◌≡◌, ◌↔◌, Bool, true, List, length, slice_index}
use Rattle.ww_rule.specs.declared.pattern.State.TheVariants.{Head}
use Rattle.ww_rule.specs.Wireworld.{Plane, Due, driven}
use Rattle.ww_rule.specs.Injections.{MeetsConductors}
use Rattle.tile_core.specs.declared.kind.Kind.{Kind}
use Rattle.tile_core.specs.Drawing.{Drawing}
use Rattle.tiling.specs.Tiling.{Lit}
use Rattle.tiling.specs.Steps.{KeepsLaw}
use Rattle.lane_core.specs.declared.plan.Plan.{Plan}
use Rattle.lane_core.specs.Instrs.{bit_on}
use Rattle.lane_core.specs.Columns.{after_columns}
use Rattle.lane_core.specs.Plans.{IsAdmissible, period_of, out_cell_of, net_place, net_cell_of}
use Rattle.lane_core.specs.Entering.{bits_after}
use Rattle.plan_layout.specs.Planes.{plane_with}
use Rattle.plan_waves.specs.Contexts.{StartsContexts, DrivesContexts, injected_in, context_bits}

-- A cell is given by x, y and the number of generations from the beginning of a cycle. It is a head
-- so many generations after the beginning of each cycle of each context in which the bit is 1, and
-- at no other generation.
abbrev pub ShowsEachContext : (contexts period : ℕ) → (ℕ → Plane) → ℕ × ℕ × ℕ → (ℕ → ℕ → Bool)
    → Type 0
ShowsEachContext contexts period plane cell bit =
    (g : ℕ) → (plane g (pos cell.0) (pos cell.1) ≡ Head)
    ↔ ((c : ℕ) × (t : ℕ) × (c < contexts) × (g ≡ cell.2 + 32 * c + t * period) × (bit c t ≡ true))

-- Each injection meets a conductor, and the cells of outputs and nets show, context by context and
-- cycle by cycle, what the columns make on their lanes of the bits that enter the body.
pub record ShowsContextBits (library : Kind → Drawing) (plan : Plan) (lit : Lit) (due : Due)
    (contexts : ℕ) (entering : ℕ → ℕ → List Bool) : Type 0 where
  pub conductors : MeetsConductors due (plane_with library plan lit)
  pub outs : (i : ℕ) → i < length plan.outs
      → ShowsEachContext contexts (period_of plan) (driven due (plane_with library plan lit))
      (out_cell_of plan i)
      (λ c t. bit_on (after_columns plan.columns (entering c t)) (slice_index plan.outs i))
  pub nets : (i : ℕ) → i < length plan.nets
      → ShowsEachContext contexts (period_of plan) (driven due (plane_with library plan lit))
      (net_cell_of plan i)
      (λ c t. bit_on (bits_after after_columns plan.columns (net_place plan i).after (entering c t))
      (net_place plan i).lane)

-- every admissible plan shows the bits of its contexts: for every library, all edges that start
-- contexts, and every drive of so many contexts
abbrev pub PlansShowContexts : Type 0
PlansShowContexts =
    (library : Kind → Drawing) → KeepsLaw library → (plan : Plan) → IsAdmissible plan
    → (due : Due) (starts : List (List Bool)) (lit : Lit)
    → DrivesContexts plan (length starts) due → StartsContexts plan starts lit
    → ShowsContextBits library plan lit due (length starts) (context_bits plan due starts)

-- a cell shows a context alike in two evolutions of planes: at the generations of that context's
-- cycles it is a head in both or in neither
abbrev pub ShowsAlike : (period : ℕ) → (ℕ → Plane) → (ℕ → Plane) → ℕ → ℕ × ℕ × ℕ → Type 0
ShowsAlike period plane other c cell =
    (t : ℕ) → (plane (cell.2 + 32 * c + t * period) (pos cell.0) (pos cell.1) ≡ Head)
    ↔ (other (cell.2 + 32 * c + t * period) (pos cell.0) (pos cell.1) ≡ Head)

-- all outputs and nets show a context alike under two drives
pub record IsIsolated (library : Kind → Drawing) (plan : Plan) (lit : Lit) (due other : Due)
    (c : ℕ) : Type 0 where
  pub outs : (i : ℕ) → i < length plan.outs
      → ShowsAlike (period_of plan) (driven due (plane_with library plan lit))
      (driven other (plane_with library plan lit)) c (out_cell_of plan i)
  pub nets : (i : ℕ) → i < length plan.nets
      → ShowsAlike (period_of plan) (driven due (plane_with library plan lit))
      (driven other (plane_with library plan lit)) c (net_cell_of plan i)

abbrev pub ContextsAreIsolated : Type 0
ContextsAreIsolated =
    (library : Kind → Drawing) → KeepsLaw library → (plan : Plan) → IsAdmissible plan
    → (starts : List (List Bool)) (lit : Lit) → StartsContexts plan starts lit
    → (due other : Due) → DrivesContexts plan (length starts) due
    → DrivesContexts plan (length starts) other
    → (c : ℕ) → c < length starts → ((t : ℕ)
    → injected_in plan due c t ≡ injected_in plan other c t)
    → IsIsolated library plan lit due other c

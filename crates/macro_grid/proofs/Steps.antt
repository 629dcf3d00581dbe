-- The macro step of a plan, with the answers of the two blocks that meet at an edge.
use Rattle.std.proofs.Common.{◌≡◌, ◌∙◌, ap, ℕ, ◌+◌, ◌-◌, ◌≤◌, Bool, true, false, ◌||◌, ⊎_elim, arith}
use Rattle.std.proofs.lemmas.Bool.{cases_lt}
use Rattle.tiling.specs.Tiling.Slot.{Nothing}
use Rattle.lane_core.specs.declared.plan.Plan.{Plan}
use Rattle.macro_grid.specs.Edges.{edge_columns, edge_lanes}
use Rattle.lane_core.specs.Plans.{IsAdmissible}
use Rattle.plan_layout.specs.Tape.{drawn_tiling}
use Rattle.macro_grid.proofs.Drawings.{drawn_right, drawn_below}
use Rattle.tiling.specs.Tiling.{Tiling, Lit}
use Rattle.tiling.specs.Tiling.Edge.{Beside, Above}
use Rattle.tiling.specs.MacroStep.{macro_step, slot_answers}
use Rattle.tiling.proofs.AtEdges.{beside_first, beside_next, above_first, above_next}

-- one of two answers, where the first one decides
pub answered : (r m a b : Bool) → m ≡ (a || b) → r ≡ a → r ≡ true → r ≡ m
answered r m true b e f g = cc
answered r m false b e f g = cc

pub not_answered : (r own m a b : Bool) → m ≡ (a || b) → r ≡ a → r ≡ false → own ≡ b → own ≡ m
not_answered r own m true b e f g h = cc
not_answered r own m false b e f g h = cc

-- between blocks where nothing stands no edge is lit
beside_dark : (tiling : Tiling) (lit : Lit) (q l p : ℕ) → p + 1 ≡ q → tiling p l ≡ Nothing → tiling q l ≡ Nothing → macro_step tiling lit (Beside q l) ≡ false
beside_dark tiling lit q l p h e f =
    beside_next tiling lit q l p h
    ∙ ap (λ s. slot_answers lit p l s 31 8 || slot_answers lit q l (tiling q l) 0 8) e
    ∙ ap (λ s. slot_answers lit q l s 0 8) f

above_dark : (tiling : Tiling) (lit : Lit) (q l p : ℕ) → p + 1 ≡ l → tiling q p ≡ Nothing → tiling q l ≡ Nothing → macro_step tiling lit (Above q l) ≡ false
above_dark tiling lit q l p h e f =
    above_next tiling lit q l p h
    ∙ ap (λ s. slot_answers lit q p s 16 15 || slot_answers lit q l (tiling q l) 16 0) e
    ∙ ap (λ s. slot_answers lit q l s 16 0) f

pub beside_right : (plan : Plan) → IsAdmissible plan → (lit : Lit) (q l : ℕ) → edge_columns plan ≤ q → macro_step (drawn_tiling plan) lit (Beside q l) ≡ false
beside_right plan h lit q l far =
    beside_dark (drawn_tiling plan) lit q l (q - 1) (omega arith) (drawn_right plan h (q - 1) l (omega arith)) (drawn_right plan h q l (omega arith))

pub above_right : (plan : Plan) → IsAdmissible plan → (lit : Lit) (q l : ℕ) → edge_columns plan ≤ q → macro_step (drawn_tiling plan) lit (Above q l) ≡ false
above_right plan h lit q l far =
    ⊎_elim
    (λ first. above_first (drawn_tiling plan) lit q l (omega arith) ∙ ap (λ s. slot_answers lit q l s 16 0) (drawn_right plan h q l (omega arith)))
    (λ more. above_dark (drawn_tiling plan) lit q l (l - 1) (omega arith) (drawn_right plan h q (l - 1) (omega arith)) (drawn_right plan h q l (omega arith)))
    (cases_lt l 1)

pub beside_below : (plan : Plan) → IsAdmissible plan → (lit : Lit) (q l : ℕ) → edge_lanes plan ≤ l → macro_step (drawn_tiling plan) lit (Beside q l) ≡ false
beside_below plan h lit q l far =
    ⊎_elim
    (λ first. beside_first (drawn_tiling plan) lit q l (omega arith) ∙ ap (λ s. slot_answers lit q l s 0 8) (drawn_below plan h q l (omega arith)))
    (λ more. beside_dark (drawn_tiling plan) lit q l (q - 1) (omega arith) (drawn_below plan h (q - 1) l (omega arith)) (drawn_below plan h q l (omega arith)))
    (cases_lt q 1)

pub above_below : (plan : Plan) → IsAdmissible plan → (lit : Lit) (q l : ℕ) → edge_lanes plan ≤ l → macro_step (drawn_tiling plan) lit (Above q l) ≡ false
above_below plan h lit q l far =
    above_dark (drawn_tiling plan) lit q l (l - 1) (omega arith) (drawn_below plan h q (l - 1) (omega arith)) (drawn_below plan h q l (omega arith))

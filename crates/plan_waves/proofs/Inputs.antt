-- Free entries, and the edges of a plan that is driven at its inputs.
use Rattle.std.proofs.Common.{◌≡◌, refl, sym, ◌∙◌, ap, pos, ℕ, suc, ◌-◌, ◌*◌, ◌<◌, Bool, true, false, ◌||◌, ⊎_elim, length, arith}
use Rattle.std.proofs.lemmas.Bool.{cases_lt, false_from_ne_true, true≢false, or_from, and_parts, eqb-true, ltb-true}
use Rattle.std.proofs.lemmas.Bool.Decides.{nat_tests}
use Rattle.std.proofs.lemmas.Int.{ints}
use Rattle.std.proofs.Math.Bool.{or-false}
use Rattle.ww_rule.specs.Wireworld.{Due}
use Rattle.tiling.specs.Tiling.{Slot, Edge, Lit}
use Rattle.tiling.specs.Tiling.Piece.{Tile}
use Rattle.tiling.specs.Tiling.Slot.{Upper, Lower}
use Rattle.tiling.specs.Tiling.Edge.{Beside, Above}
use Rattle.tiling.specs.Matched.{is_entered, is_left}
use Rattle.tiling.specs.MacroStep.{macro_step, slot_answers}
use Rattle.tiling.specs.Steps.{DrivesEntries, injected_edges, driven_edges}
use Rattle.lane_core.specs.declared.instr.Instr.{Instr}
use Rattle.lane_core.specs.declared.instr.Instr.TheVariants as instr
use Rattle.lane_core.specs.declared.plan.Plan.{Plan}
use Rattle.lane_core.specs.Plans.{IsAdmissible, left_of, row_of}
use Rattle.lane_core.specs.Entering.{first_loop_lane}
use Rattle.plan_layout.specs.Layout.{kind_of, in_body, tiling_of}
use Rattle.plan_layout.proofs.Sides.{in_body_has, body_goes_east}
use Rattle.tiling.proofs.AtEdges.{beside_first, beside_next}
use Rattle.plan_waves.specs.Waves.{is_free_entry, GoesOn, DrivesInputs}
use Rattle.plan_waves.proofs.Passing.{answers_none}
use Rattle.plan_layout.proofs.Parts.{some_columns, body_at, nothing_left}

pub free_place : (plan : Plan) (q l : ℕ) → is_free_entry plan (Beside q l) ≡ true → (q ≡ plan.latches) × (l < first_loop_lane plan.lanes plan.latches)
free_place plan q l h =
    let parts = and_parts _ _ h in (eqb-true _ _ parts.0, ltb-true _ _ parts.1)

-- the body is entered at its west side
abbrev pub IsEntry : Slot → Type 0
IsEntry slot = is_entered slot 0 8 ≡ true

entry_kind : (i : Instr) → IsEntry (Upper (Tile (kind_of i))) × IsEntry (Lower (Tile (kind_of i)))
entry_kind (instr.Swap i) = (refl, refl)
entry_kind (instr.Fork i) = (refl, refl)
entry_kind (instr.Xor i) = (refl, refl)
entry_kind (instr.Or i) = (refl, refl)
entry_kind (instr.AndNot i) = (refl, refl)

pub body_entry : (plan : Plan) (q l : ℕ) → IsEntry (in_body plan q l)
body_entry plan q l = in_body_has IsEntry plan q l refl entry_kind

-- the block behind a free entry stands in the body
entry_at : (plan : Plan) → IsAdmissible plan → (l : ℕ) → l < first_loop_lane plan.lanes plan.latches → tiling_of plan plan.latches l ≡ in_body plan plan.latches l
entry_at plan h l low =
    let some : 0 < length plan.columns = some_columns plan h (omega arith) in
    body_at plan plan.latches l (omega arith) (omega arith) (omega arith)

-- no macro step lights a free entry
pub free_entries_go_dark : (plan : Plan) → IsAdmissible plan → (lit : Lit) (edge : Edge) → is_free_entry plan edge ≡ true → macro_step (tiling_of plan) lit edge ≡ false
free_entries_go_dark plan h lit (Above q l) f = cc
free_entries_go_dark plan h lit (Beside q l) f =
    let place = free_place plan q l f in
    ap (λ n. macro_step (tiling_of plan) lit (Beside n l)) place.0 ∙ dark l place.1
  where
    behind : (l : ℕ) → l < first_loop_lane plan.lanes plan.latches → slot_answers lit plan.latches l (tiling_of plan plan.latches l) 0 8 ≡ false
    behind l low =
        answers_none lit plan.latches l (tiling_of plan plan.latches l) 0 8 (ap (λ s. is_left s 0 8) (entry_at plan h l low) ∙ (body_goes_east plan plan.latches l).left)

    dark : (l : ℕ) → l < first_loop_lane plan.lanes plan.latches → macro_step (tiling_of plan) lit (Beside plan.latches l) ≡ false
    dark l low =
        ⊎_elim
        (λ none. beside_first (tiling_of plan) lit plan.latches l (omega arith) ∙ behind l low)
        (λ some. (beside_next (tiling_of plan) lit plan.latches l (plan.latches - 1) (omega arith)
        ∙ or_from _ _ (ap (λ s. slot_answers lit (plan.latches - 1) l s 31 8) (nothing_left plan h (plan.latches - 1) l (omega arith) low)) (behind l low)))
        (cases_lt plan.latches 1)

-- where heads are injected at inputs, they are injected at free entries
pub inputs_are_entries : (plan : Plan) → IsAdmissible plan → (due : Due) → DrivesInputs plan due → DrivesEntries (tiling_of plan) due
inputs_are_entries plan h due d = record {
  on_time = d.on_time;
  at_entries = λ g x y e. (let f = d.at_free_entries g x y e in
      (plan.latches, f.0, f.2 ∙ ap pos (omega arith), f.3, ap (λ s. is_entered s 0 8) (entry_at plan h f.0 f.1) ∙ body_entry plan plan.latches f.0));
  nothing_before = λ g q l e. (let f = d.at_free_entries g _ _ e in
      let column : q < plan.latches = omega (arith, ints, f.2) in
      let lane : l ≡ f.0 = omega (arith, ints, f.3) in
      ap (λ s. is_left s 31 8) (nothing_left plan h q l column (omega (arith, f.1))));
}

-- no head is injected at another edge
pub not_injected : (plan : Plan) (due : Due) → DrivesInputs plan due → (g : ℕ) (edge : Edge) → is_free_entry plan edge ≡ false → injected_edges due g edge ≡ false
not_injected plan due d g (Above q l) h = refl
not_injected plan due d g (Beside q l) h =
    false_from_ne_true _ (λ e. (let f = d.at_free_entries g _ _ e in
    let column : q ≡ plan.latches = omega (arith, ints, f.2) in
    let lane : l ≡ f.0 = omega (arith, ints, f.3) in
    let low : l < first_loop_lane plan.lanes plan.latches = omega (arith, f.1) in
    let free : is_free_entry plan (Beside q l) ≡ true = grind (arith, nat_tests) in
    true≢false (sym free ∙ h)))

pub or_none : (a b : Bool) → b ≡ false → (a || b) ≡ a
or_none a b h = ap (λ x. a || x) h ∙ or-false a

-- the edges of a plan that is driven at its inputs go on
pub driven_edges_go_on : (plan : Plan) (due : Due) → DrivesInputs plan due → (lit : Lit) → GoesOn plan (driven_edges (tiling_of plan) due lit)
driven_edges_go_on plan due d lit = record { next = λ m edge h. or_none _ _ (not_injected plan due d (32 * suc m) edge h) }

-- a free entry is lit exactly by injections
pub inputs_enter : (plan : Plan) → IsAdmissible plan → (due : Due) (lit : Lit) (m lane : ℕ) → lane < first_loop_lane plan.lanes plan.latches
    → driven_edges (tiling_of plan) due lit (suc m) (Beside plan.latches lane) ≡ due (32 * suc m) (pos (left_of plan 0)) (pos (row_of lane))
inputs_enter plan h due lit m lane low =
    let free : is_free_entry plan (Beside plan.latches lane) ≡ true = grind (arith, nat_tests) in
    let column : 32 * plan.latches ≡ left_of plan 0 = omega arith in
    ap (λ b. b || due (32 * suc m) (pos (32 * plan.latches)) (pos (row_of lane))) (free_entries_go_dark plan h (driven_edges (tiling_of plan) due lit m) (Beside plan.latches lane) free)
    ∙ ap (λ x. due (32 * suc m) (pos x) (pos (row_of lane))) column

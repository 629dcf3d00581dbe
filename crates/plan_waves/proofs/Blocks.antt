-- The blocks of a plan with a tape, and what they answer: those of the plan, further east, answer as they do there.
use Rattle.std.proofs.Common.{◌≡◌, refl, sym, ◌∙◌, ap, ap₂, pos, ℕ, ◌+◌, ◌-◌, ◌*◌, ◌/◌, ◌<◌, ◌≤◌, Bool, true, false, ◌&&◌, cond, ltb, ⊎_elim, inl, inr, [], ◌∷◌, get_or, arith}
use Rattle.std.specs.Prelude.{◌==◌, nat_le}
use Rattle.std.specs.List.{list_any}
use Rattle.std.proofs.lemmas.Bool.{true≢false, cases_lt, cond-false}
use Rattle.std.proofs.lemmas.Bool.Decides.{nat_tests}
use Rattle.ww_rule.specs.Wireworld.{Due}
use Rattle.tile_core.specs.declared.kind.Kind.TheVariants as kind
use Rattle.tile_core.specs.Drawing.{is_cell_of}
use Rattle.tile_core.specs.Interface.{Interface, cell_at, lit_exits}
use Rattle.tiling.specs.Tiling.{Piece, interface_of, Slot, Lit, edge_of, is_entry_lit}
use Rattle.tiling.specs.Tiling.Piece.{Tile}
use Rattle.tiling.specs.Tiling.Slot.{Nothing, Whole, Upper, Lower}
use Rattle.tiling.specs.Tiling.Edge.{Beside, Above}
use Rattle.tiling.specs.Matched.{is_left}
use Rattle.tiling.specs.MacroStep.{piece_answers, slot_answers}
use Rattle.lane_core.specs.declared.plan.Plan.{Plan}
use Rattle.lane_core.specs.Plans.{IsAdmissible}
use Rattle.lane_core.specs.Entering.{first_loop_lane}
use Rattle.plan_layout.specs.Layout.{tiling_of}
use Rattle.plan_layout.proofs.Halves.{is_lower}
use Rattle.plan_layout.proofs.Sides.{either}
use Rattle.plan_waves.proofs.Passing.{chosen_first}
use Rattle.plan_layout.specs.Tape.{taped_tiling}
use Rattle.plan_layout.proofs.Taped.{IsOfPlan, tape_slot, plan_block, left_whole}
use Rattle.plan_waves.specs.Tape.{is_before_body, is_due_on, taped_edges}

pub of_plan : (plan : Plan) (shift q l : ℕ) → IsOfPlan plan q l → is_before_body plan shift (shift + q) l ≡ false
of_plan plan shift q l far = ⊎_elim (λ right. grind (arith, nat_tests)) (λ low. grind (arith, nat_tests)) far

pub on_tape : (plan : Plan) (shift q l : ℕ) → q < shift + plan.latches → l < first_loop_lane plan.lanes plan.latches → is_before_body plan shift q l ≡ true
on_tape plan shift q l left free = grind (arith, nat_tests)

pub off_tape : (plan : Plan) (shift q l : ℕ) → first_loop_lane plan.lanes plan.latches ≤ l → is_before_body plan shift q l ≡ false
off_tape plan shift q l low = grind (arith, nat_tests)

-- a tape is left in the east alone
pub tape_not_left : (plan : Plan) (shift tiles q l x y : ℕ) → is_left (Whole (Tile kind.East)) x y ≡ false → is_left (tape_slot plan shift tiles q l) x y ≡ false
tape_not_left plan shift tiles q l x y none =
    either (λ s. is_left s x y ≡ false) (list_any (λ input. input == l) plan.ins && nat_le (shift + plan.latches) (q + tiles)) none refl

-- and passes on there what it is given
pub tape_goes : (lit : Lit) (q l : ℕ) (b : Bool) → slot_answers lit q l (cond b (Whole (Tile kind.East)) Nothing) 31 8 ≡ (b && lit (Beside q l))
tape_goes lit q l false = refl
tape_goes lit q l true =
    let same : l + 0 ≡ l = omega arith in
    chosen_first (pos 31) (pos 8) (cell_at (31, 8)) (lit (Beside q (l + 0))) (false ∷ []) refl ∙ ap (λ n. lit (Beside q n)) same

module _ (plan : Plan) (shift : ℕ) (due : Due) (edges : ℕ → Lit) (m : ℕ) where
  abbrev now : Lit
  now = taped_edges plan shift due edges m

  -- the edges of the plan are its own
  pub beside_kept : (q l : ℕ) → IsOfPlan plan q l → now (Beside (shift + q) l) ≡ edges m (Beside q l)
  beside_kept q l far =
      let no : ltb (shift + q) shift ≡ false = grind (arith, nat_tests) in
      let column : shift + q - shift ≡ q = omega arith in
      cond-false (is_before_body plan shift (shift + q) l) (is_due_on plan due (32 * (m + (shift + plan.latches - (shift + q)))) l) (cond (ltb (shift + q) shift) false (edges m (Beside (shift + q - shift) l))) (of_plan plan shift q l far)
      ∙ cond-false (ltb (shift + q) shift) false (edges m (Beside (shift + q - shift) l)) no
      ∙ ap (λ n. edges m (Beside n l)) column

  pub above_kept : (q l : ℕ) → now (Above (shift + q) l) ≡ edges m (Above q l)
  above_kept q l =
      let no : ltb (shift + q) shift ≡ false = grind (arith, nat_tests) in
      let column : shift + q - shift ≡ q = omega arith in
      cond-false (ltb (shift + q) shift) false (edges m (Above (shift + q - shift) l)) no ∙ ap (λ n. edges m (Above n l)) column

  edge_kept : (q l : ℕ) (port : ℕ × ℕ) → IsOfPlan plan q l → now (edge_of (shift + q) l port) ≡ edges m (edge_of q l port)
  edge_kept q l port far = pick (port.0 == 0) (port.0 == 31) (port.1 == 0)
    where
      lower : (n : ℕ) → IsOfPlan plan q (l + n)
      lower n = ⊎_elim (λ right. inl right) (λ low. inr (omega (arith, low))) far

      further : (n : ℕ) → IsOfPlan plan (q + 1) (l + n)
      further n = ⊎_elim (λ right. inl (omega (arith, right))) (λ low. inr (omega (arith, low))) far

      pick : (a b c : Bool)
          → now (cond a (Beside (shift + q) (l + port.1 / 16)) (cond b (Beside (shift + q + 1) (l + port.1 / 16)) (cond c (Above (shift + q) l) (Above (shift + q) (l + (port.1 + 1) / 16)))))
          ≡ edges m (cond a (Beside q (l + port.1 / 16)) (cond b (Beside (q + 1) (l + port.1 / 16)) (cond c (Above q l) (Above q (l + (port.1 + 1) / 16)))))
      pick true b c = beside_kept q (l + port.1 / 16) (lower (port.1 / 16))
      pick false true c =
          let column : shift + q + 1 ≡ shift + (q + 1) = omega arith in
          ap (λ n. now (Beside n (l + port.1 / 16))) column ∙ beside_kept (q + 1) (l + port.1 / 16) (further (port.1 / 16))
      pick false false true = above_kept q l
      pick false false false = above_kept q (l + (port.1 + 1) / 16)

  entry_kept : (q l : ℕ) (tile : Interface) (n : ℕ) → IsOfPlan plan q l → is_entry_lit now (shift + q) l tile n ≡ is_entry_lit (edges m) q l tile n
  entry_kept q l tile n far = ap (λ b. ltb n tile.lanes && b) (edge_kept q l (get_or tile.entries n (0, 0)) far)

  piece_kept : (q l : ℕ) (piece : Piece) (x y : ℕ) → IsOfPlan plan q l → piece_answers now (shift + q) l piece x y ≡ piece_answers (edges m) q l piece x y
  piece_kept q l piece x y far =
      ap₂ (λ a b. is_cell_of (pos x) (pos y) (lit_exits (interface_of piece) a b)) (entry_kept q l (interface_of piece) 0 far) (entry_kept q l (interface_of piece) 1 far)

  slot_kept : (q l : ℕ) (slot : Slot) (x y : ℕ) → IsOfPlan plan q l → (is_lower slot ≡ true → plan.latches ≤ q) → slot_answers now (shift + q) l slot x y ≡ slot_answers (edges m) q l slot x y
  slot_kept q l Nothing x y far low = refl
  slot_kept q l (Whole piece) x y far low = piece_kept q l piece x y far
  slot_kept q l (Upper piece) x y far low = piece_kept q l piece x y far
  slot_kept q l (Lower piece) x y far low = piece_kept q (l - 1) piece x (y + 16) (inl (low refl))

  -- and so are the answers of its blocks
  pub answers_kept : IsAdmissible plan → (tiles q l x y : ℕ) → IsOfPlan plan q l
      → slot_answers now (shift + q) l (taped_tiling plan shift tiles (shift + q) l) x y ≡ slot_answers (edges m) q l (tiling_of plan q l) x y
  answers_kept h tiles q l x y far =
      ap (λ s. slot_answers now (shift + q) l s x y) (plan_block plan h shift tiles q l far)
      ∙ slot_kept q l (tiling_of plan q l) x y far
      (λ low. ⊎_elim (λ left. absurd (true≢false (sym low ∙ left_whole plan q l left))) (λ right. right) (cases_lt q plan.latches))

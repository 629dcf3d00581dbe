-- What enters the body goes through its columns, one column a macro step.
use Rattle.std.proofs.Common.{◌≡◌, refl, sym, ◌∙◌, ap, ap₂, subst, pos, ℕ, zero, suc, ◌+◌, ◌-◌, ◌<◌, ◌≤◌, Bool, true, false, cond, List, [], ◌∷◌, length, get_or, take, Option, Some, None, arith}
use Rattle.std.specs.Prelude.{◌==◌, All}
use Rattle.std.proofs.lemmas.Bool.Decides.{nat_tests}
use Rattle.std.proofs.lemmas.List.{get_or-map}
use Rattle.std.proofs.lemmas.List.FromFn.{length-map-range_with_len, get_or-map-range_with_len, fill_by_all}
use Rattle.std.proofs.lemmas.List.Sums.{fold_more}
use Rattle.tile_core.specs.Drawing.{is_cell_of}
use Rattle.tile_core.specs.Interface.{chosen, cell_at}
use Rattle.tiling.specs.Tiling.{Lit}
use Rattle.tiling.specs.Tiling.Piece.{Tile}
use Rattle.tiling.specs.Tiling.Slot.{Upper, Lower}
use Rattle.tiling.specs.Tiling.Edge.{Beside}
use Rattle.tiling.specs.Matched.{is_left}
use Rattle.tiling.specs.MacroStep.{macro_step, slot_answers}
use Rattle.lane_core.specs.declared.instr.Instr.{Instr}
use Rattle.lane_core.specs.declared.instr.Instr.TheVariants as instr
use Rattle.lane_core.specs.declared.instr.Column.{Column}
use Rattle.lane_core.specs.declared.plan.Plan.{Plan}
use Rattle.lane_core.specs.Instrs.{lane_of, upper_bit, lower_bit, bit_on, after_instrs, IsOnLanes, instr_on}
use Rattle.lane_core.specs.Columns.{after_column, after_columns}
use Rattle.lane_core.specs.Plans.{IsAdmissible}
use Rattle.plan_layout.specs.Layout.{kind_of, body_slot, instrs_of, in_body, tiling_of}
use Rattle.plan_layout.proofs.Sides.{in_body_has}
use Rattle.plan_layout.proofs.Halves.{instrs_sorted, instrs_on_lanes}
use Rattle.plan_layout.proofs.Matched.{tiling_is_matched}
use Rattle.plan_waves.specs.Waves.{is_free_entry, GoesOn, bits_at}
use Rattle.plan_waves.proofs.Passing.{step_east, chosen_first}
use Rattle.plan_layout.proofs.Parts.{body_at}
use Rattle.plan_waves.proofs.LaneBits.{answer_on, answers_agree, bit_after}
use Rattle.lane_core.proofs.Lengths.{length-after_instrs}

-- the upper and the lower one of two cells in the east
upper_east : (a b : Bool) → is_cell_of (pos 31) (pos 8) (chosen (cell_at (31, 8) ∷ cell_at (31, 24) ∷ []) (a ∷ b ∷ [])) ≡ a
upper_east true b = refl
upper_east false true = refl
upper_east false false = refl

lower_east : (a b : Bool) → is_cell_of (pos 31) (pos 24) (chosen (cell_at (31, 8) ∷ cell_at (31, 24) ∷ []) (a ∷ b ∷ [])) ≡ b
lower_east true true = refl
lower_east true false = refl
lower_east false true = refl
lower_east false false = refl

-- the halves of an instruction's tile answer its bits
upper_answers : (lit : Lit) (q l : ℕ) (i : Instr) → slot_answers lit q l (Upper (Tile (kind_of i))) 31 8 ≡ upper_bit i (lit (Beside q (l + 0))) (lit (Beside q (l + 1)))
upper_answers lit q l (instr.Swap i) = upper_east _ _
upper_answers lit q l (instr.Fork i) = upper_east _ _
upper_answers lit q l (instr.Xor i) = upper_east _ false
upper_answers lit q l (instr.Or i) = upper_east _ false
upper_answers lit q l (instr.AndNot i) = upper_east _ false

lower_answers : (lit : Lit) (q l : ℕ) (i : Instr) → slot_answers lit q l (Lower (Tile (kind_of i))) 31 8 ≡ lower_bit i (lit (Beside q (l - 1 + 0))) (lit (Beside q (l - 1 + 1)))
lower_answers lit q l (instr.Swap i) = lower_east _ _
lower_answers lit q l (instr.Fork i) = lower_east _ _
lower_answers lit q l (instr.Xor i) = lower_east _ false
lower_answers lit q l (instr.Or i) = lower_east _ false
lower_answers lit q l (instr.AndNot i) = lower_east _ false

-- the lower bit of an instruction is that of its upper entry, or none
lower_ignores : (i : Instr) (a b c : Bool) → lower_bit i a b ≡ lower_bit i a c
lower_ignores (instr.Swap i) a b c = refl
lower_ignores (instr.Fork i) a b c = refl
lower_ignores (instr.Xor i) a b c = refl
lower_ignores (instr.Or i) a b c = refl
lower_ignores (instr.AndNot i) a b c = refl

-- what stands on a lane of the body answers by the bits at its entries
body_answers : (lit : Lit) (q l : ℕ) (o : Option Instr) → slot_answers lit q l (body_slot l o) 31 8 ≡ answer_on l o (λ n. lit (Beside q n))
body_answers lit q l None =
    let same : l + 0 ≡ l = omega arith in
    chosen_first (pos 31) (pos 8) (cell_at (31, 8)) (lit (Beside q (l + 0))) (false ∷ []) refl ∙ ap (λ n. lit (Beside q n)) same
body_answers lit q l (Some i) = half (l == lane_of i)
  where
    half : (b : Bool) → slot_answers lit q l (cond b (Upper (Tile (kind_of i))) (Lower (Tile (kind_of i)))) 31 8
        ≡ cond b (upper_bit i (lit (Beside q l)) (lit (Beside q (l + 1)))) (lower_bit i (lit (Beside q (l - 1))) (lit (Beside q l)))
    half true = let same : l + 0 ≡ l = omega arith in upper_answers lit q l i ∙ ap (λ n. upper_bit i (lit (Beside q n)) (lit (Beside q (l + 1)))) same
    half false =
        let same : l - 1 + 0 ≡ l - 1 = omega arith in
        lower_answers lit q l i ∙ ap (λ n. lower_bit i (lit (Beside q n)) (lit (Beside q (l - 1 + 1)))) same ∙ lower_ignores i _ _ _

pub east_kind : (i : Instr) → (is_left (Upper (Tile (kind_of i))) 31 8 ≡ true) × (is_left (Lower (Tile (kind_of i))) 31 8 ≡ true)
east_kind (instr.Swap i) = (refl, refl)
east_kind (instr.Fork i) = (refl, refl)
east_kind (instr.Xor i) = (refl, refl)
east_kind (instr.Or i) = (refl, refl)
east_kind (instr.AndNot i) = (refl, refl)

-- a macro step at the exit of a lane of a column
column_answers : (plan : Plan) → IsAdmissible plan → (lit : Lit) (c l : ℕ) → c < length plan.columns → l < plan.lanes
    → macro_step (tiling_of plan) lit (Beside (plan.latches + (c + 1)) l) ≡ answer_on l (instr_on (instrs_of plan c) l) (λ n. lit (Beside (plan.latches + c) n))
column_answers plan h lit c l within low =
    let q = plan.latches + c in
    let here : tiling_of plan q l ≡ in_body plan q l = body_at plan q l (omega arith) (omega arith) low in
    let column : q - plan.latches ≡ c = omega arith in
    step_east (tiling_of plan) (tiling_is_matched plan h) lit q (plan.latches + (c + 1)) l (omega arith)
    (ap (λ s. is_left s 31 8) here ∙ in_body_has (λ s. is_left s 31 8 ≡ true) plan q l refl east_kind)
    ∙ ap (λ s. slot_answers lit q l s 31 8) here
    ∙ body_answers lit q l (instr_on (instrs_of plan (q - plan.latches)) l)
    ∙ ap (λ n. answer_on l (instr_on (instrs_of plan n) l) (λ k. lit (Beside q k))) column

-- the bits at the entries of a column
pub length-bits_at : (plan : Plan) (c : ℕ) (lit : Lit) → length (bits_at plan c lit) ≡ plan.lanes
length-bits_at plan c lit = length-map-range_with_len (λ lane. lit (Beside (plan.latches + c) lane)) 0 plan.lanes

pub bit_on-bits_at : (plan : Plan) (c : ℕ) (lit : Lit) (l : ℕ) → l < plan.lanes → bit_on (bits_at plan c lit) l ≡ lit (Beside (plan.latches + c) l)
bit_on-bits_at plan c lit l low = get_or-map-range_with_len (λ lane. lit (Beside (plan.latches + c) lane)) 0 plan.lanes l l false low (omega arith)

on_lanes : (n : ℕ) (xs : List Instr) → All (IsOnLanes n) xs → All (λ i. (lane_of i < n) × (lane_of i + 1 < n)) xs
on_lanes n xs h k d within = let low = h k d within in (omega (arith, low), low)

-- the bits one column further, one macro step later
pub next_bits : (plan : Plan) → IsAdmissible plan → (lit later : Lit) (c : ℕ) → c < length plan.columns
    → ((l : ℕ) → l < plan.lanes → later (Beside (plan.latches + (c + 1)) l) ≡ macro_step (tiling_of plan) lit (Beside (plan.latches + (c + 1)) l))
    → bits_at plan (c + 1) later ≡ after_instrs (instrs_of plan c) (bits_at plan c lit)
next_bits plan h lit later c within step =
    let xs = instrs_of plan c in
    let bits = bits_at plan c lit in
    let fit : All (IsOnLanes plan.lanes) xs = instrs_on_lanes plan.lanes plan.columns c h.instrs in
    let fit' : All (IsOnLanes (length bits)) xs = subst (λ (n : ℕ). All (IsOnLanes n) xs) (sym (length-bits_at plan c lit)) fit in
    sym (fill_by_all (λ lane. later (Beside (plan.latches + (c + 1)) lane)) (after_instrs xs bits) plan.lanes false
    (length-after_instrs xs bits ∙ length-bits_at plan c lit)
    (λ l low. bit_after xs (instrs_sorted plan.columns c) bits fit' l
    ∙ answers_agree (λ n. n < plan.lanes) (bit_on bits) (λ n. lit (Beside (plan.latches + c) n)) (λ n small. bit_on-bits_at plan c lit n small) xs (on_lanes plan.lanes xs fit) l low
    ∙ sym (column_answers plan h lit c l within low)
    ∙ sym (step l low)))

no_instrs : Column
no_instrs = record { instrs = []; sorted_apart = refl }

column_is : (plan : Plan) (c : ℕ) → c < length plan.columns → instrs_of plan c ≡ (get_or plan.columns c no_instrs).instrs
column_is plan c within = get_or-map (λ column. column.instrs) plan.columns c no_instrs [] within

-- an entry of a later column is no free entry
pub not_free : (plan : Plan) (c l : ℕ) → is_free_entry plan (Beside (plan.latches + (c + 1)) l) ≡ false
not_free plan c l = grind (arith, nat_tests)

pub columns_pass : (plan : Plan) → IsAdmissible plan → (edges : ℕ → Lit) → GoesOn plan edges → (m c : ℕ) → c ≤ length plan.columns
    → bits_at plan c (edges (m + c)) ≡ after_columns (take c plan.columns) (bits_at plan 0 (edges m))
columns_pass plan h edges g m zero within = let same : m + 0 ≡ m = omega arith in ap (λ n. bits_at plan 0 (edges n)) same
columns_pass plan h edges g m (suc c) within =
    let one : suc c ≡ c + 1 = omega arith in
    let later : m + suc c ≡ suc (m + c) = omega arith in
    let bits = bits_at plan 0 (edges m) in
    ap₂ (λ i n. bits_at plan i (edges n)) one later
    ∙ next_bits plan h (edges (m + c)) (edges (suc (m + c))) c (omega arith) (λ l low. g.next (m + c) (Beside (plan.latches + (c + 1)) l) (not_free plan c l))
    ∙ ap₂ after_instrs (column_is plan c (omega arith)) (columns_pass plan h edges g m c (omega arith))
    ∙ sym (fold_more after_column bits plan.columns c no_instrs (omega arith))
    ∙ ap (λ i. after_columns (take i plan.columns) bits) (sym one)

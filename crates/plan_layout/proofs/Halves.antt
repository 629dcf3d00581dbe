-- Under the upper half of a tile stands its lower half, and nowhere else does a lower half stand.
use Rattle.std.proofs.Common.{◌≡◌, refl, sym, ◌∙◌, ap, subst, ℕ, zero, suc, ◌+◌, ◌%◌, ◌<◌, ◌≤◌, Bool, true, false, ◌&&◌, cond, ltb, ⊎_elim, Some, List, [], ◌∷◌, get_or, map, arith}
use Rattle.std.specs.Prelude.{◌==◌, IsTrue, All, find, not}
use Rattle.std.specs.List.{list_all}
use Rattle.std.proofs.lemmas.Bool.Decides.{nat_tests}
use Rattle.std.proofs.lemmas.Bool.{cases_eq}
use Rattle.std.proofs.lemmas.List.Elements.{All-head, All-tail}
use Rattle.tile_core.specs.declared.kind.Kind.TheVariants as kind
use Rattle.tiling.specs.Tiling.{Slot}
use Rattle.tiling.specs.Tiling.Piece.{Tile}
use Rattle.tiling.specs.Tiling.Slot.{Nothing, Whole, Upper, Lower}
use Rattle.lane_core.specs.declared.instr.Instr.{Instr}
use Rattle.lane_core.specs.declared.instr.Column.{Column}
use Rattle.lane_core.specs.Instrs.{lane_of, is_above, are_sorted_apart, is_on, instr_on, IsOnLanes}
use Rattle.lane_core.specs.Columns.{IsColumnOnLanes}
use Rattle.plan_layout.specs.Layout.{kind_of, body_slot, return_slot}
use Rattle.lane_core.proofs.Lookup.{none_below}
use Rattle.lists.proofs.Bools.{and_true_left as and_left, and_true_right as and_right}

abbrev pub is_upper : Slot → Bool
is_upper Nothing = false
is_upper (Whole piece) = false
is_upper (Upper piece) = true
is_upper (Lower piece) = false

abbrev pub is_lower : Slot → Bool
is_lower Nothing = false
is_lower (Whole piece) = false
is_lower (Upper piece) = false
is_lower (Lower piece) = true

-- the second stands under the first: it is its lower half, or is no lower half at all
abbrev pub Joined : Slot → Slot → Type 0
Joined Nothing below = is_lower below ≡ false
Joined (Whole piece) below = is_lower below ≡ false
Joined (Upper piece) below = below ≡ Lower piece
Joined (Lower piece) below = is_lower below ≡ false

pub joined_apart : (s t : Slot) → is_upper s ≡ false → is_lower t ≡ false → Joined s t
joined_apart Nothing t u h = h
joined_apart (Whole p) t u h = h
joined_apart (Upper p) t u h = cc
joined_apart (Lower p) t u h = h

-- what stands on a lane of a column, by its instructions
abbrev slot_on : List Instr → ℕ → Slot
slot_on xs l = body_slot l (instr_on xs l)

slot_on-other : (x : Instr) (xs : List Instr) (l : ℕ) → is_on l x ≡ false → slot_on (x ∷ xs) l ≡ slot_on xs l
slot_on-other x xs l off = ap (λ b. body_slot l (cond b (Some x) (find (is_on l) xs))) off

slot_on-upper : (x : Instr) (xs : List Instr) (l : ℕ) → l ≡ lane_of x → slot_on (x ∷ xs) l ≡ Upper (Tile (kind_of x))
slot_on-upper x xs l here =
    let on : is_on l x ≡ true = grind (arith, nat_tests) in
    let same : (l == lane_of x) ≡ true = grind (arith, nat_tests) in
    ap (λ b. body_slot l (cond b (Some x) (find (is_on l) xs))) on ∙ ap (λ b. cond b (Upper (Tile (kind_of x))) (Lower (Tile (kind_of x)))) same

slot_on-lower : (x : Instr) (xs : List Instr) (l : ℕ) → l ≡ lane_of x + 1 → slot_on (x ∷ xs) l ≡ Lower (Tile (kind_of x))
slot_on-lower x xs l here =
    let on : is_on l x ≡ true = grind (arith, nat_tests) in
    let same : (l == lane_of x) ≡ false = grind (arith, nat_tests) in
    ap (λ b. body_slot l (cond b (Some x) (find (is_on l) xs))) on ∙ ap (λ b. cond b (Upper (Tile (kind_of x))) (Lower (Tile (kind_of x)))) same

-- on the lane next below the lanes of x, and on the one before it, none of the instructions that follow x has its lower half
below_fresh : (x : Instr) (xs : List Instr) (l : ℕ) → l ≤ lane_of x + 2 → list_all (is_above x) xs ≡ true → is_lower (slot_on xs l) ≡ false
below_fresh x [] l near h = refl
below_fresh x (y ∷ ys) l near h =
    let above : is_above x y ≡ true = and_left (is_above x y) (list_all (is_above x) ys) h in
    let far : lane_of x + 1 < lane_of y = grind (arith, nat_tests) in
    ⊎_elim
    (λ same. ap is_lower (slot_on-upper y ys l same))
    (λ other. (let off : is_on l y ≡ false = grind (arith, nat_tests) in
    ap is_lower (slot_on-other y ys l off) ∙ below_fresh x ys l near (and_right (is_above x y) (list_all (is_above x) ys) h)))
    (cases_eq l (lane_of y))

-- slots that are the same as joined ones are joined
pub same_joined : (s s' t t' : Slot) → s ≡ s' → t ≡ t' → Joined s' t' → Joined s t
same_joined s s' t t' e f j = subst (λ (v : Slot). Joined v t) (sym e) (subst (λ (v : Slot). Joined s' v) (sym f) j)

-- the halves in a column stand under each other
pub body_joined : (xs : List Instr) (l : ℕ) → IsTrue (are_sorted_apart xs) → Joined (slot_on xs l) (slot_on xs (l + 1))
body_joined [] l h = refl
body_joined (x ∷ xs) l h =
    let below : list_all (is_above x) xs ≡ true = and_left (list_all (is_above x) xs) (are_sorted_apart xs) h in
    let rest : IsTrue (are_sorted_apart xs) = and_right (list_all (is_above x) xs) (are_sorted_apart xs) h in
    ⊎_elim
    (λ same. same_joined _ _ _ _ (slot_on-upper x xs l same) (slot_on-lower x xs (l + 1) (omega arith)) refl)
    (λ other. ⊎_elim
    (λ next. (let off : is_on (l + 1) x ≡ false = grind (arith, nat_tests) in
    same_joined _ _ _ _ (slot_on-lower x xs l next) (slot_on-other x xs (l + 1) off) (below_fresh x xs (l + 1) (omega arith) below)))
    (λ further. ⊎_elim
    (λ before. (let off : is_on l x ≡ false = grind (arith, nat_tests) in
    let none : slot_on xs l ≡ Whole (Tile kind.East) = ap (body_slot l) (none_below x l xs (omega arith) below) in
    same_joined _ _ _ _ (slot_on-other x xs l off ∙ none) (slot_on-upper x xs (l + 1) before) refl))
    (λ apart. (let off : is_on l x ≡ false = grind (arith, nat_tests) in
    let off' : is_on (l + 1) x ≡ false = grind (arith, nat_tests) in
    same_joined _ _ _ _ (slot_on-other x xs l off) (slot_on-other x xs (l + 1) off') (body_joined xs l rest)))
    (cases_eq (l + 1) (lane_of x)))
    (cases_eq l (lane_of x + 1)))
    (cases_eq l (lane_of x))

-- on the last lane no upper half stands, and on the first no lower half
pub body_ends : (xs : List Instr) (l lanes : ℕ) → All (IsOnLanes lanes) xs → lanes ≤ l + 1 → is_upper (slot_on xs l) ≡ false
body_ends [] l lanes h last = refl
body_ends (x ∷ xs) l lanes h last =
    let fits : lane_of x + 1 < lanes = All-head (IsOnLanes lanes) x xs h in
    let rest = body_ends xs l lanes (All-tail (IsOnLanes lanes) x xs h) last in
    ⊎_elim
    (λ low. ap is_upper (slot_on-lower x xs l low))
    (λ off'. (let off : is_on l x ≡ false = grind (arith, nat_tests) in ap is_upper (slot_on-other x xs l off) ∙ rest))
    (cases_eq l (lane_of x + 1))

pub body_begins : (xs : List Instr) → is_lower (slot_on xs 0) ≡ false
body_begins [] = refl
body_begins (x ∷ xs) =
    ⊎_elim
    (λ up. ap is_lower (slot_on-upper x xs 0 up))
    (λ off'. (let off : is_on 0 x ≡ false = grind (arith, nat_tests) in ap is_lower (slot_on-other x xs 0 off) ∙ body_begins xs))
    (cases_eq 0 (lane_of x))

-- the instructions of a column, past the last one too, are sorted and on the lanes
pub instrs_sorted : (columns : List Column) (c : ℕ) → IsTrue (are_sorted_apart (get_or (map (λ d. d.instrs) columns) c []))
instrs_sorted [] c = refl
instrs_sorted (column ∷ columns) zero = column.sorted_apart
instrs_sorted (column ∷ columns) (suc c) = instrs_sorted columns c

pub instrs_on_lanes : (lanes : ℕ) (columns : List Column) (c : ℕ) → All (IsColumnOnLanes lanes) columns → All (IsOnLanes lanes) (get_or (map (λ d. d.instrs) columns) c [])
instrs_on_lanes lanes [] c h = λ k d w. absurd (omega arith)
instrs_on_lanes lanes (column ∷ columns) zero h = All-head (IsColumnOnLanes lanes) column columns h
instrs_on_lanes lanes (column ∷ columns) (suc c) h = instrs_on_lanes lanes columns c (All-tail (IsColumnOnLanes lanes) column columns h)

-- the swaps on the way back, by the tests that place them
swaps_joined : (a e f g h i u v : Bool) → f ≡ not e → g ≡ e → u ≡ true → v ≡ true
    → Joined
    (cond (a && e && u) (Upper (Tile kind.WestSwap)) (cond (a && f && h) (Lower (Tile kind.WestSwap)) (Whole (Tile kind.West))))
    (cond (a && f && i) (Upper (Tile kind.WestSwap)) (cond (a && g && v) (Lower (Tile kind.WestSwap)) (Whole (Tile kind.West))))
swaps_joined false e f g h i u v p q r s = refl
swaps_joined true true true g h i u v p q r s = cc
swaps_joined true true false false h i u v p q r s = cc
swaps_joined true true false true h i false v p q r s = cc
swaps_joined true true false true h i true false p q r s = cc
swaps_joined true true false true h i true true p q r s = refl
swaps_joined true false false g h i u v p q r s = cc
swaps_joined true false true true h i u v p q r s = cc
swaps_joined true false true false false false u v p q r s = refl
swaps_joined true false true false false true u v p q r s = refl
swaps_joined true false true false true false u v p q r s = refl
swaps_joined true false true false true true u v p q r s = refl

other_parity : (x y z : ℕ) → x + y ≡ 1 → z < 2 → (y == z) ≡ not (x == z)
other_parity x y z one small =
    ⊎_elim
    (λ same. (let yes : (x == z) ≡ true = grind (arith, nat_tests) in
    let no : (y == z) ≡ false = grind (arith, nat_tests) in
    no ∙ sym (ap not yes)))
    (λ differ. (let no : (x == z) ≡ false = grind (arith, nat_tests) in
    let yes : (y == z) ≡ true = grind (arith, nat_tests) in
    yes ∙ sym (ap not no)))
    (cases_eq x z)

pub return_joined : (loops back off : ℕ) → off + 1 < loops → Joined (return_slot loops back off) (return_slot loops back (off + 1))
return_joined loops back off within =
    let one : off % 2 + (off + 1) % 2 ≡ 1 = omega arith in
    let two : (off + 1 + 1) % 2 ≡ off % 2 = omega arith in
    let small : back % 2 < 2 = omega arith in
    swaps_joined (ltb back loops) (off % 2 == back % 2) ((off + 1) % 2 == back % 2) ((off + 1 + 1) % 2 == back % 2)
    (ltb 0 off) (ltb (off + 1 + 1) loops) (ltb (off + 1) loops) (ltb 0 (off + 1))
    (other_parity (off % 2) ((off + 1) % 2) (back % 2) one small)
    (ap (λ n. n == back % 2) two)
    (grind (arith, nat_tests)) (grind (arith, nat_tests))

-- neither is there an upper half on the last lane of the way back, nor a lower half on the first
swaps_end : (a b : Bool) → is_upper (cond (a && false) (Upper (Tile kind.WestSwap)) (cond b (Lower (Tile kind.WestSwap)) (Whole (Tile kind.West)))) ≡ false
swaps_end true true = refl
swaps_end true false = refl
swaps_end false true = refl
swaps_end false false = refl

pub return_ends : (loops back off : ℕ) → loops ≤ off + 1 → is_upper (return_slot loops back off) ≡ false
return_ends loops back off last =
    let past : ltb (off + 1) loops ≡ false = grind (arith, nat_tests) in
    ap (λ u. is_upper (cond (ltb back loops && off % 2 == back % 2 && u) (Upper (Tile kind.WestSwap)) (cond (ltb back loops && (off + 1) % 2 == back % 2 && ltb 0 off) (Lower (Tile kind.WestSwap)) (Whole (Tile kind.West))))) past
    ∙ swaps_end (ltb back loops && off % 2 == back % 2) (ltb back loops && (off + 1) % 2 == back % 2 && ltb 0 off)

swaps_begin : (a b : Bool) → is_lower (cond a (Upper (Tile kind.WestSwap)) (cond (b && false) (Lower (Tile kind.WestSwap)) (Whole (Tile kind.West)))) ≡ false
swaps_begin true b = refl
swaps_begin false true = refl
swaps_begin false false = refl

pub return_begins : (loops back off : ℕ) → off ≡ 0 → is_lower (return_slot loops back off) ≡ false
return_begins loops back off first =
    let none : ltb 0 off ≡ false = grind (arith, nat_tests) in
    ap (λ u. is_lower (cond (ltb back loops && off % 2 == back % 2 && ltb (off + 1) loops) (Upper (Tile kind.WestSwap)) (cond (ltb back loops && (off + 1) % 2 == back % 2 && u) (Lower (Tile kind.WestSwap)) (Whole (Tile kind.West))))) none
    ∙ swaps_begin (ltb back loops && off % 2 == back % 2 && ltb (off + 1) loops) (ltb back loops && (off + 1) % 2 == back % 2)

-- Rows of cells, one after the other.
use Rattle.std.proofs.Common.{◌≡◌, refl, sym, ◌∙◌, ap, ℤ, pos, negsuc, ℕ, zero, suc, ◌+◌, ◌*◌, ◌<◌, ◌≤◌, ⊎_elim, cond, ltb, List, [], ◌∷◌, ◌++◌, length, get_or, arith}
use Rattle.std.specs.Prelude.{flat_map}
use Rattle.std.proofs.Math.Path.{fun_ext}
use Rattle.std.proofs.Math.Nat.{suc-mul}
use Rattle.std.proofs.lemmas.Bool.{cases_lt, lt-ltb, le-ltb}
use Rattle.std.proofs.lemmas.List.{get_or_append_left, get_or-append-add, get_or_past}
use Rattle.std.proofs.lemmas.List.Elements.{All-get_or}
use Rattle.lists.specs.Items.{list_at}
use Rattle.ww_rule.specs.declared.pattern.State.{State}
use Rattle.ww_rule.specs.declared.pattern.State.TheVariants.{Empty}
use Rattle.ww_rule.specs.Grid.{plane_of, IsGrid}
use Rattle.tile_timing.specs.Window.{shown}

abbrev pub flat : List (List State) → List State
flat rows = flat_map (λ row. row) rows

abbrev Long : (width : ℕ) → List (List State) → Type 0
Long width rows = (y : ℕ) → y < length rows → length (list_at rows y) ≡ width

-- a cell of a row
cell_in : (width : ℕ) (rows : List (List State)) → Long width rows → (x y : ℕ) → x < width → get_or (flat rows) (y * width + x) Empty ≡ get_or (list_at rows y) x Empty
cell_in width [] long x y inside = refl
cell_in width (row ∷ rows) long x zero inside =
    let wide : length row ≡ width = long 0 (omega arith) in
    let e : 0 * width + x ≡ x = omega arith in
    ap (λ n. get_or (row ++ flat rows) n Empty) e ∙ get_or_append_left row (flat rows) Empty x (omega (arith, wide, inside))
cell_in width (row ∷ rows) long x (suc y) inside =
    let wide : length row ≡ width = long 0 (omega arith) in
    let e : suc y * width + x ≡ length row + (y * width + x) = omega (arith, suc-mul y width, wide) in
    ap (λ n. get_or (row ++ flat rows) n Empty) e ∙ get_or-append-add row (flat rows) (y * width + x) Empty
    ∙ cell_in width rows (λ k low. long (suc k) (omega (arith, low))) x y inside

-- past the last column, rows have no cell
past : (width : ℕ) (rows : List (List State)) → Long width rows → (x y : ℕ) → width ≤ x → get_or (list_at rows y) x Empty ≡ Empty
past width rows long x y out =
    ⊎_elim (λ (lt : y < length rows). get_or_past (list_at rows y) x Empty (omega (arith, long y lt, out)))
    (λ (ge : length rows ≤ y). ap (λ row. get_or row x Empty) (get_or_past rows y [] ge)) (cases_lt y (length rows))

cell_at : (width : ℕ) (rows : List (List State)) → Long width rows → (x y : ℕ) → cond (ltb x width) (get_or (flat rows) (y * width + x) Empty) Empty ≡ get_or (list_at rows y) x Empty
cell_at width rows long x y =
    ⊎_elim (λ (lt : x < width). ap (λ b. cond b (get_or (flat rows) (y * width + x) Empty) Empty) (lt-ltb x width lt) ∙ cell_in width rows long x y lt)
    (λ (ge : width ≤ x). ap (λ b. cond b (get_or (flat rows) (y * width + x) Empty) Empty) (le-ltb x width ge) ∙ sym (past width rows long x y ge)) (cases_lt x width)

pub flat_is_plane : (width height : ℕ) (rows : List (List State)) → IsGrid width height rows → shown (flat rows) width ≡ plane_of rows
flat_is_plane width height rows grid = fun_ext (λ x. fun_ext (λ y. same x y))
  where
    long : Long width rows
    long y low = All-get_or (λ row. length row ≡ width) rows y [] low grid.long

    same : (x y : ℤ) → shown (flat rows) width x y ≡ plane_of rows x y
    same (pos x) (pos y) = cell_at width rows long x y
    same (pos x) (negsuc y) = refl
    same (negsuc x) y = refl

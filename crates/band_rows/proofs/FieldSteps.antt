-- A field one generation later.
use Rattle.std.proofs.Common.{ℤ, pos, ◌-ℤ◌, ◌+ℤ◌, ℕ, suc, ◌+◌, ◌-◌, ◌*◌, ◌<◌, ◌≤◌, ◌≡◌, sym, ap, ap₂, subst, ◌∙◌, List, length, get_or, arith}
use Rattle.std.specs.Prelude.{◌≢◌}
use Rattle.std.proofs.Math.Nat.{suc-mul, mul-le-mul_right}
use Rattle.ww_rule.specs.Wireworld.{Plane, next_plane}
use Rattle.lane_kernel.specs.Rows.{row_state}
use Rattle.lane_kernel.specs.Around.{next_word, IsFramed, IsInner}
use Rattle.lane_kernel.specs.Marked.{AreListed, AreOn, IsMarked}
use Rattle.lane_kernel.specs.PlaneRows.{place, row_in_plane, plane_size, stride_of, HasDarkSides, IsInRow, IsEmptyWest, ShowsHeads}
use Rattle.lane_kernel.proofs.Places.{Fit}
use Rattle.lane_kernel.proofs.PlaneRows.{is_next_plane}
use Rattle.band_rows.specs.declared.field.Field.{Field}
use Rattle.band_rows.specs.Fields.{field_heads, IsPlaneField, IsFieldStepped, ShowsField}

-- the words of rows are inner words
pub inner_place : (columns rows s c k many : ℕ) → s ≡ rows + 2 → c < columns → k < rows → many ≡ (columns + 2) * s + 2 → IsInner s many (place s c (k + 1))
inner_place columns rows s c k many e west low size =
    let m = suc-mul c s in
    let m1 = suc-mul (c + 1) s in
    let m2 = suc-mul (c + 2) s in
    let le : c + 3 ≤ columns + 2 = omega (arith, west) in
    let most = mul-le-mul_right s le in
    let third : (c + 3) * s ≡ (c + 2) * s + s = omega (arith, m2) in
    let second : (c + 2) * s ≡ (c + 1) * s + s = omega (arith, m1) in
    let first : (c + 1) * s ≡ c * s + s = omega (arith, m) in
    record { from = omega (arith, first); to = omega (arith, most, third, second, low, e, size) }

pub framed_of : (columns rows s : ℕ) (cells : List ℕ) → s ≡ stride_of rows → length cells ≡ plane_size columns rows → ((i : ℕ) → get_or cells i 0 ≢ 0 → IsInRow columns rows i) → IsFramed s cells
framed_of columns rows s cells e long in_rows i some =
    let r = in_rows i some in
    let size : length cells ≡ (columns + 2) * s + 2 = long ∙ sym (ap (λ s. (columns + 2) * s + 2) e) in
    let at : i ≡ place s r.column (r.row + 1) = r.is ∙ sym (ap (λ s. place s r.column (r.row + 1)) e) in
    subst (IsInner s (length cells)) (sym at) (inner_place columns rows s r.column r.row (length cells) e r.west r.above size)

pub same_marked : (s : ℕ) {h h' t t' c c' b b' : List ℕ} → h' ≡ h → t' ≡ t → c' ≡ c → b' ≡ b → IsMarked s h t c b → IsMarked s h' t' c' b'
same_marked s {h} {h'} {t} {t'} {c} {c'} {b} {b'} p q r u m =
    subst (λ b. IsMarked s h' t' c' b) (sym u) (subst (λ c. IsMarked s h' t' c b) (sym r) (subst (λ t. IsMarked s h' t c b) (sym q) (subst (λ h. IsMarked s h t c b) (sym p) m)))

pub same_listed : (s many : ℕ) {b b' l l' : List ℕ} → b' ≡ b → l' ≡ l → AreListed s b l many → AreListed s b' l' many
same_listed s many {b} {b'} {l} {l'} p q h = subst (λ l. AreListed s b' l many) (sym q) (subst (λ b. AreListed s b l many) (sym p) h)

pub same_word : (s : ℕ) {h h' t t' c c' : List ℕ} (i : ℕ) → h ≡ h' → t ≡ t' → c ≡ c' → next_word s h t c i ≡ next_word s h' t' c' i
same_word s {h} {h'} {t} {t'} {c} {c'} i p q r = ap₂ (λ h t. next_word s h t c i) p q ∙ ap (λ c. next_word s h' t' c i) r

pub field_shows : (old new : Field) → IsPlaneField old → AreOn old.cells.items old.tails.items → Fit old.heads.items → IsFieldStepped old new → (p : Plane) (y : ℤ) → IsEmptyWest p
    → HasDarkSides old.columns old.stride old.heads.items → ShowsHeads (field_heads old 0) p (y -ℤ pos 1) → ShowsField old p y → ShowsHeads (field_heads old (old.rows + 1)) p (y +ℤ pos old.rows)
    → ShowsField new (next_plane p) y
field_shows old new is on fits stepped p y bare dark over shown under k x low =
    let size = stepped.size in
    let rows = size.rows in
    let f = λ (columns stride : ℕ) (t c : List ℕ). row_state (row_in_plane columns stride new.heads.items (k + 1)) (row_in_plane columns stride t (k + 1)) (row_in_plane columns stride c (k + 1)) x in
    ap₂ (λ a b. f a b new.tails.items new.cells.items) size.columns size.stride
    ∙ ap₂ (f old.columns old.stride) stepped.tails stepped.cells
    ∙ is_next_plane old.stride old.heads.items old.tails.items old.cells.items new.heads.items fits on stepped.heads old.columns old.rows p y is.stride bare dark over shown under k x (omega (arith, low, rows))

-- a plane has two word columns, and two words, at least
pub two_columns : (field : Field) → IsPlaneField field → field.stride + field.stride + 2 ≤ length field.cells.items
two_columns field is =
    let s = is.stride in
    let long = is.long_cells in
    let two : 2 ≤ field.columns + 2 = omega arith in
    let most = mul-le-mul_right (field.rows + 2) two in
    omega (arith, s, long, most)

-- the planes of a field in slices
pub same_on : {c c' w w' : List ℕ} → c' ≡ c → w' ≡ w → AreOn c w → AreOn c' w'
same_on {c} {c'} {w} {w'} p q on = subst (λ c. AreOn c w') (sym p) (subst (AreOn c) (sym q) on)

pub framed_in : (field : Field) → IsPlaneField field → {cells : List ℕ} → cells ≡ field.cells.items → IsFramed field.stride cells
framed_in field is e = subst (IsFramed field.stride) (sym e) (framed_of field.columns field.rows field.stride field.cells.items is.stride is.long_cells is.cells_in_rows)

-- Fields of bands.
use Rattle.std.proofs.Common.{ℤ, pos, ◌+ℤ◌, ℕ, ◌+◌, ◌-◌, ◌<◌, ◌≤◌, ◌≡◌, sym, ap, ap₂, subst, ◌∙◌, Bool, false, List, length, get_or, arith}
use Rattle.std.specs.Prelude.{◌≢◌, if◌then◌else◌}
use Rattle.std.proofs.lemmas.Bool.{eq-eqb, ne_eqb}
use Rattle.std.proofs.lemmas.List.FromFn.{length-map-range_with_len}
use Rattle.ww_rule.specs.Wireworld.{Plane}
use Rattle.lane_kernel.specs.Rows.{is_set, state_of}
use Rattle.lane_kernel.specs.PlaneRows.{place, row_in_plane, ShowsHeads}
use Rattle.band_rows.specs.declared.field.Field.{Field}
use Rattle.band_rows.specs.declared.plane_row.PlaneRow.{PlaneRow}
use Rattle.band_rows.specs.Facing.{words_in}
use Rattle.band_rows.specs.Fields.{AreOfOneSize, IsDarkField, ShowsField, TailsShow, field_heads, field_state, field_tails}
use Rattle.lane_kernel.proofs.Places.{heads_of_row}
use Rattle.band_core.specs.declared.band.Band.{Band}
use Rattle.band_core.specs.Band.{bottom_at, top_at}

-- a row has a word for each word column
pub long_row : (columns stride : ℕ) (plane : List ℕ) (r : ℕ) → length (row_in_plane columns stride plane r) ≡ columns
long_row columns stride plane r = length-map-range_with_len (λ c. get_or plane (place stride c r) 0) 0 columns

pub narrow_row : (row : PlaneRow) (columns : ℕ) → length (words_in row) ≤ columns → row.columns ≤ columns
narrow_row row columns le = let l = long_row row.columns row.stride row.plane.now row.r in omega (arith, l, le)

pub heads_show : (field : Field) (p : Plane) (y : ℤ) (k : ℕ) → k < field.rows → ShowsField field p y → ShowsHeads (field_heads field (k + 1)) p (y +ℤ pos k)
heads_show field p y k lt shows =
    heads_of_row (field_heads field (k + 1)) (field_tails field (k + 1)) (row_in_plane field.columns field.stride field.cells.items (k + 1)) p (y +ℤ pos k) (λ x. shows k x lt)

-- what the third plane of a field says of a cell
abbrev pub cell_set : Field → (x k : ℕ) → Bool
cell_set field x k = is_set (row_in_plane field.columns field.stride field.cells.items (k + 1)) x

pub dark_state : (field : Field) (x k : ℕ) → k < field.rows → IsDarkField field → field_state field x k ≡ state_of false false (cell_set field x k)
dark_state field x k lt dark = ap₂ (λ h t. state_of h t (cell_set field x k)) (dark.heads k x lt) (dark.tails k x lt)

-- fields with the same tails
pub tails_kept : (old new : Field) (p : Plane) (y : ℤ) → AreOfOneSize old new → new.tails.items ≡ old.tails.items → TailsShow old p y → TailsShow new p y
tails_kept old new p y size same shows k lt =
    let rows = size.rows in
    let words : field_tails new (k + 1) ≡ field_tails old (k + 1) =
    ap₂ (λ c s. row_in_plane c s new.tails.items (k + 1)) size.columns size.stride ∙ ap (λ t. row_in_plane old.columns old.stride t (k + 1)) same in
    subst (λ words. ShowsHeads words p (y +ℤ pos k)) (sym words) (shows k (omega (arith, lt, rows)))

-- ---- the rows of heads for a band's neighbours

pub bottom_now : (band : Band) (g : ℕ) → 0 < band.field.rows → band.generation ≡ g → field_heads band.field (band.field.rows - 1 + 1) ≡ bottom_at g band
bottom_now band g some q =
    let field = band.field in
    ap (field_heads field) (let r : field.rows - 1 + 1 ≡ field.rows = omega (arith, some) in r)
    ∙ sym (ap (λ t. if t then field_heads field field.rows else field_tails field field.rows) (eq-eqb band.generation g q))

pub bottom_before : (band : Band) (g : ℕ) → 0 < band.field.rows → band.generation ≢ g → field_tails band.field (band.field.rows - 1 + 1) ≡ bottom_at g band
bottom_before band g some ne =
    let field = band.field in
    ap (field_tails field) (let r : field.rows - 1 + 1 ≡ field.rows = omega (arith, some) in r)
    ∙ sym (ap (λ t. if t then field_heads field field.rows else field_tails field field.rows) (ne_eqb band.generation g ne))

pub top_now : (band : Band) (g : ℕ) → band.generation ≡ g → field_heads band.field 1 ≡ top_at g band
top_now band g q = sym (ap (λ t. if t then field_heads band.field 1 else field_tails band.field 1) (eq-eqb band.generation g q))

pub top_before : (band : Band) (g : ℕ) → band.generation ≢ g → field_tails band.field 1 ≡ top_at g band
top_before band g ne = sym (ap (λ t. if t then field_heads band.field 1 else field_tails band.field 1) (ne_eqb band.generation g ne))

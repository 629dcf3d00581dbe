-- Which cells belong to which piece.
use Rattle.std.proofs.Common.{ℤ, pos, negsuc, ◌-ℤ◌, ℕ, zero, suc, ◌+◌, ◌-◌, ◌*◌, ◌/◌, ◌%◌, ◌<◌, ◌≡◌, ◌⊎◌, refl, ap, ap₂, ◌∙◌, subst, true, arith, inl, inr}
use Rattle.std.proofs.lemmas.Bool.{and_parts, cases_lt, ltb-true}
use Rattle.std.proofs.lemmas.Int.{ints}
use Rattle.std.specs.Prelude.{Option, Some, None}
use Rattle.std.proofs.lemmas.Option.{same_Some}
use Rattle.tile_core.specs.Interface.{Interface, is_in_box}
use Rattle.tiling.specs.Tiling.{Piece, interface_of, Slot, Tiling}
use Rattle.tiling.specs.Tiling.Slot.{Nothing, Whole, Upper, Lower}
use Rattle.tiling.specs.Matched.{HasWholePieces}

-- a piece with its first block
pub record Placed : Type 0 where
  pub column : ℕ
  pub lane : ℕ
  pub piece : Piece

abbrev pub placed : ℕ → ℕ → Piece → Placed
placed q l p = record { column = q; lane = l; piece = p }

abbrev pub place_of : ℕ → ℕ → Slot → Option Placed
place_of q l Nothing = None
place_of q l (Whole p) = Some (placed q l p)
place_of q l (Upper p) = Some (placed q l p)
place_of q l (Lower p) = Some (placed q (l - 1) p)

-- the piece to which a cell belongs
abbrev pub tile_at : Tiling → ℤ → ℤ → Option Placed
tile_at tiling (pos x) (pos y) = place_of (x / 32) (y / 16) (tiling (x / 32) (y / 16))
tile_at tiling (pos x) (negsuc y) = None
tile_at tiling (negsuc x) y = None

abbrev pub face : Placed → Interface
face t = interface_of t.piece

-- a cell by its place in the piece's box
abbrev pub cell_x : Placed → ℕ → ℤ
cell_x t x = pos (32 * t.column + x)

abbrev pub cell_y : Placed → ℕ → ℤ
cell_y t y = pos (16 * t.lane + y)

-- the piece stands there
abbrev pub IsPlaced : Tiling → Placed → Type 0
IsPlaced tiling t = (tiling t.column t.lane ≡ Whole t.piece) ⊎ (tiling t.column t.lane ≡ Upper t.piece)

-- a cell of the plane, by its place in the box of a piece that stands there
pub record InBox (tiling : Tiling) (t : Placed) (u v : ℤ) : Type 0 where
  pub x : ℕ
  pub y : ℕ
  pub column : x < 32
  pub row : y < 16 * (face t).lanes
  pub u_is : u ≡ cell_x t x
  pub v_is : v ≡ cell_y t y

split_x : (X : ℕ) → X ≡ 32 * (X / 32) + X % 32
split_x X = omega arith

split_y : (Y : ℕ) → Y ≡ 16 * (Y / 16) + Y % 16
split_y Y = omega arith

place_at : (tiling : Tiling) (q l x y X Y : ℕ) → x < 32 → y < 16 → X ≡ 32 * q + x → Y ≡ 16 * l + y → tile_at tiling (pos X) (pos Y) ≡ place_of q l (tiling q l)
place_at tiling q l x y X Y a b e f =
    let col : X / 32 ≡ q = omega (arith, e, a) in
    let row : Y / 16 ≡ l = omega (arith, f, b) in
    ap₂ (λ i j. place_of i j (tiling i j)) col row

-- each cell of a piece's box belongs to the piece
pub in_box_is : (tiling : Tiling) → HasWholePieces tiling → (t : Placed) (u v : ℤ) → IsPlaced tiling t → InBox tiling t u v → tile_at tiling u v ≡ Some t
in_box_is tiling h t u v (inl whole) b =
    let low : b.y < 16 = omega (arith, b.row, h.one t.column t.lane t.piece whole) in
    ap₂ (tile_at tiling) b.u_is b.v_is ∙ place_at tiling t.column t.lane b.x b.y _ _ b.column low refl refl ∙ ap (place_of t.column t.lane) whole
in_box_is tiling h t u v (inr upper) b =
    elim (cases_lt b.y 16) [
      | inl low ↦ ap₂ (tile_at tiling) b.u_is b.v_is ∙ place_at tiling t.column t.lane b.x b.y _ _ b.column low refl refl ∙ ap (place_of t.column t.lane) upper
      | inr high ↦
          let row : b.y - 16 < 16 = omega (arith, b.row, h.two t.column t.lane t.piece upper) in
          let same : 16 * t.lane + b.y ≡ 16 * (t.lane + 1) + (b.y - 16) = omega (arith, high) in
          let back : t.lane + 1 - 1 ≡ t.lane = omega arith in
          ap₂ (tile_at tiling) b.u_is b.v_is
          ∙ place_at tiling t.column (t.lane + 1) b.x (b.y - 16) _ _ b.column row refl same
          ∙ ap (place_of t.column (t.lane + 1)) (h.below t.column t.lane t.piece upper)
          ∙ ap (λ l. Some (placed t.column l t.piece)) back
    ]

-- a cell that belongs to a piece lies in its box, and the piece stands there
pub record Belongs (tiling : Tiling) (t : Placed) (u v : ℤ) : Type 0 where
  pub stands : IsPlaced tiling t
  pub inside : InBox tiling t u v

belongs_slot : (tiling : Tiling) → HasWholePieces tiling → (t : Placed) (X Y : ℕ) (s : Slot) → tiling (X / 32) (Y / 16) ≡ s → place_of (X / 32) (Y / 16) s ≡ Some t → Belongs tiling t (pos X) (pos Y)
belongs_slot tiling h t X Y Nothing e f = cc
belongs_slot tiling h t X Y (Whole p) e f =
    let here = placed (X / 32) (Y / 16) p in
    let one = h.one (X / 32) (Y / 16) p e in
    let b : Belongs tiling here (pos X) (pos Y) =
    record {
      stands = inl e;
      inside = record { x = X % 32; y = Y % 16; column = omega arith; row = omega (arith, one); u_is = ap pos (split_x X); v_is = ap pos (split_y Y) };
    } in
    subst (λ s. Belongs tiling s (pos X) (pos Y)) (same_Some _ _ f) b
belongs_slot tiling h t X Y (Upper p) e f =
    let here = placed (X / 32) (Y / 16) p in
    let two = h.two (X / 32) (Y / 16) p e in
    let b : Belongs tiling here (pos X) (pos Y) =
    record {
      stands = inr e;
      inside = record { x = X % 32; y = Y % 16; column = omega arith; row = omega (arith, two); u_is = ap pos (split_x X); v_is = ap pos (split_y Y) };
    } in
    subst (λ s. Belongs tiling s (pos X) (pos Y)) (same_Some _ _ f) b
belongs_slot tiling h t X Y (Lower p) e f = below_one (Y / 16) refl
  where
    below_one : (l : ℕ) → l ≡ Y / 16 → Belongs tiling t (pos X) (pos Y)
    below_one zero z = absurd (h.first (X / 32) p (ap (tiling (X / 32)) z ∙ e))
    below_one (suc l) z =
        let here = placed (X / 32) l p in
        let at : l + 1 ≡ Y / 16 = omega (arith, z) in
        let upper = h.above (X / 32) l p (ap (tiling (X / 32)) at ∙ e) in
        let two = h.two (X / 32) l p upper in
        let b : Belongs tiling here (pos X) (pos Y) =
        record {
          stands = inr upper;
          inside = record { x = X % 32; y = Y % 16 + 16; column = omega arith; row = omega (arith, two); u_is = ap pos (split_x X); v_is = ap pos (omega (arith, z)) };
        } in
        let back : l ≡ Y / 16 - 1 = omega (arith, z) in
        subst (λ s. Belongs tiling s (pos X) (pos Y)) (ap (λ k. placed (X / 32) k p) back ∙ same_Some _ _ f) b

pub belongs : (tiling : Tiling) → HasWholePieces tiling → (t : Placed) (u v : ℤ) → tile_at tiling u v ≡ Some t → Belongs tiling t u v
belongs tiling h t (pos X) (pos Y) e = belongs_slot tiling h t X Y (tiling (X / 32) (Y / 16)) refl e
belongs tiling h t (pos X) (negsuc Y) e = cc
belongs tiling h t (negsuc X) v e = cc

box_local : (I : Interface) (A B : ℤ) → is_in_box I A B ≡ true → (x : ℕ) × (y : ℕ) × (A ≡ pos x) × (B ≡ pos y) × (x < 32) × (y < 16 * I.lanes)
box_local I (pos x) (pos y) e =
    let parts = and_parts _ _ e in
    (x, y, refl, refl, ltb-true _ _ parts.0, ltb-true _ _ parts.1)
box_local I (pos x) (negsuc y) e = cc
box_local I (negsuc x) B e = cc

-- a cell that the box's test admits lies in the box
pub in_box_test : (tiling : Tiling) (t : Placed) (u v : ℤ) → is_in_box (face t) (u -ℤ pos (32 * t.column)) (v -ℤ pos (16 * t.lane)) ≡ true → InBox tiling t u v
in_box_test tiling t u v e =
    let b = box_local (face t) (u -ℤ pos (32 * t.column)) (v -ℤ pos (16 * t.lane)) e in
    record { x = b.0; y = b.1; column = b.4; row = b.5; u_is = back u (32 * t.column) b.0 b.2; v_is = back v (16 * t.lane) b.1 b.3 }
  where
    back : (u : ℤ) (a x : ℕ) → u -ℤ pos a ≡ pos x → u ≡ pos (a + x)
    back u a x e = omega (arith, ints)

pub local : (a x : ℕ) → pos (a + x) -ℤ pos a ≡ pos x
local a x = omega (arith, ints)

-- a cell's number from its place in the box
pub whole_place : (n q x X : ℕ) → pos X ≡ pos (n * q + x) → n * q + x ≡ X
whole_place n q x X e = omega (arith, ints, e)

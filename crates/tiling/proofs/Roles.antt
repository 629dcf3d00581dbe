-- Where two pieces touch, one is entered and the other left; and no port is both.
use Rattle.std.proofs.Common.{pos, ℕ, ◌+◌, ◌/◌, ◌%◌, ◌≡◌, refl, sym, ap₂, ◌∙◌, Bool, true, false, ◌&&◌, arith}
use Rattle.std.proofs.lemmas.Bool.{and_from}
use Rattle.std.specs.Prelude.{Some}
use Rattle.tile_core.specs.declared.kind.Kind.TheVariants.{Swap, Xor, Or, AndNot, Fork, East, South, North, EastSouth, SouthWest, WestNorth, NorthEast, West, WestSwap}
use Rattle.tile_core.specs.Drawing.{is_cell_of}
use Rattle.tile_core.specs.Interface.{entry_cells, exit_cells}
use Rattle.tiling.specs.Tiling.{Piece, interface_of, Slot, Tiling}
use Rattle.tiling.specs.Tiling.Piece.{Tile, Output}
use Rattle.tiling.specs.Matched.{HasWholePieces, IsMatched, is_entered, is_left}
use Rattle.tiling.proofs.Region.{Placed, face, tile_at, InBox}
use Rattle.tiling.proofs.Border.{at_local, is_entry, is_exit}
use Rattle.tiling.proofs.Blocks.{entered_at, left_at, entered_is, left_is}
use Rattle.tiling.proofs.Facing.{Facing, East_of, West_of, South_of, North_of}
use Rattle.tile_timing.proofs.Traces.{none_of, none_of-says}

-- what does not hold on both sides of an edge does not hold of two cells that face each other
not_both : (tiling : Tiling) (f : Slot → ℕ → ℕ → Bool)
    → ((q l : ℕ) → (f (tiling q l) 31 8 && f (tiling (q + 1) l) 0 8) ≡ false)
    → ((q l : ℕ) → (f (tiling q l) 16 15 && f (tiling q (l + 1)) 16 0) ≡ false)
    → (X Y U V : ℕ) → Facing X Y U V → f (tiling (X / 32) (Y / 16)) (X % 32) (Y % 16) ≡ true → f (tiling (U / 32) (V / 16)) (U % 32) (V % 16) ≡ true → (true ≡ false)
not_both tiling f beside above X Y U V (East_of a b c d) e g =
    let q : U / 32 ≡ X / 32 + 1 = omega (arith, a, c) in
    let l : V / 16 ≡ Y / 16 = omega (arith, b) in
    let r : U % 32 ≡ 0 = omega (arith, a, c) in
    let s : V % 16 ≡ 8 = omega (arith, b, d) in
    let first = sym (ap₂ (f (tiling (X / 32) (Y / 16))) c d) ∙ e in
    let second = sym (ap₂ (λ i j. f (tiling i j) (U % 32) (V % 16)) q l ∙ ap₂ (f (tiling (X / 32 + 1) (Y / 16))) r s) ∙ g in
    sym (and_from _ _ first second) ∙ beside (X / 32) (Y / 16)
not_both tiling f beside above X Y U V (West_of a b c d) e g =
    let q : X / 32 ≡ U / 32 + 1 = omega (arith, a, c) in
    let l : Y / 16 ≡ V / 16 = omega (arith, b) in
    let r : X % 32 ≡ 0 = omega (arith, a, c) in
    let s : V % 16 ≡ 8 = omega (arith, b, d) in
    let first = sym (ap₂ (f (tiling (U / 32) (V / 16))) c s) ∙ g in
    let second = sym (ap₂ (λ i j. f (tiling i j) (X % 32) (Y % 16)) q l ∙ ap₂ (f (tiling (U / 32 + 1) (V / 16))) r d) ∙ e in
    sym (and_from _ _ first second) ∙ beside (U / 32) (V / 16)
not_both tiling f beside above X Y U V (South_of a b c d) e g =
    let q : U / 32 ≡ X / 32 = omega (arith, b) in
    let l : V / 16 ≡ Y / 16 + 1 = omega (arith, a, d) in
    let r : U % 32 ≡ 16 = omega (arith, b, c) in
    let s : V % 16 ≡ 0 = omega (arith, a, d) in
    let first = sym (ap₂ (f (tiling (X / 32) (Y / 16))) c d) ∙ e in
    let second = sym (ap₂ (λ i j. f (tiling i j) (U % 32) (V % 16)) q l ∙ ap₂ (f (tiling (X / 32) (Y / 16 + 1))) r s) ∙ g in
    sym (and_from _ _ first second) ∙ above (X / 32) (Y / 16)
not_both tiling f beside above X Y U V (North_of a b c d) e g =
    let q : X / 32 ≡ U / 32 = omega (arith, b) in
    let l : Y / 16 ≡ V / 16 + 1 = omega (arith, a, d) in
    let r : U % 32 ≡ 16 = omega (arith, b, c) in
    let s : Y % 16 ≡ 0 = omega (arith, a, d) in
    let first = sym (ap₂ (f (tiling (U / 32) (V / 16))) r d) ∙ g in
    let second = sym (ap₂ (λ i j. f (tiling i j) (X % 32) (Y % 16)) q l ∙ ap₂ (f (tiling (U / 32) (V / 16 + 1))) c s) ∙ e in
    sym (and_from _ _ first second) ∙ above (U / 32) (V / 16)

pub entries_apart : (tiling : Tiling) → IsMatched tiling → (X Y U V : ℕ) → Facing X Y U V → entered_at tiling X Y ≡ true → entered_at tiling U V ≡ true → (true ≡ false)
entries_apart tiling m = not_both tiling is_entered m.entries_beside m.entries_above

pub exits_apart : (tiling : Tiling) → IsMatched tiling → (X Y U V : ℕ) → Facing X Y U V → left_at tiling X Y ≡ true → left_at tiling U V ≡ true → (true ≡ false)
exits_apart tiling m = not_both tiling is_left m.exits_beside m.exits_above

-- the same by the pieces
pub entry_at : (tiling : Tiling) → HasWholePieces tiling → (t : Placed) (X Y : ℕ) → tile_at tiling (pos X) (pos Y) ≡ Some t → (b : InBox tiling t (pos X) (pos Y)) → is_entry t (pos X) (pos Y) ≡ entered_at tiling X Y
entry_at tiling h t X Y e b =
    let at = at_local tiling t (pos X) (pos Y) b in
    ap₂ (λ i j. is_cell_of i j (entry_cells (face t))) at.0 at.1 ∙ sym (entered_is tiling h t X Y e b)

pub exit_at : (tiling : Tiling) → HasWholePieces tiling → (t : Placed) (X Y : ℕ) → tile_at tiling (pos X) (pos Y) ≡ Some t → (b : InBox tiling t (pos X) (pos Y)) → is_exit t (pos X) (pos Y) ≡ left_at tiling X Y
exit_at tiling h t X Y e b =
    let at = at_local tiling t (pos X) (pos Y) b in
    ap₂ (λ i j. is_cell_of i j (exit_cells (face t))) at.0 at.1 ∙ sym (left_is tiling h t X Y e b)

disjoint_test : (p : Piece) → none_of (entry_cells (interface_of p)) (exit_cells (interface_of p)) ≡ true
disjoint_test (Tile Swap) = refl
disjoint_test (Tile Xor) = refl
disjoint_test (Tile Or) = refl
disjoint_test (Tile AndNot) = refl
disjoint_test (Tile Fork) = refl
disjoint_test (Tile East) = refl
disjoint_test (Tile South) = refl
disjoint_test (Tile North) = refl
disjoint_test (Tile EastSouth) = refl
disjoint_test (Tile SouthWest) = refl
disjoint_test (Tile WestNorth) = refl
disjoint_test (Tile NorthEast) = refl
disjoint_test (Tile West) = refl
disjoint_test (Tile WestSwap) = refl
disjoint_test Output = refl

-- an entry is no exit
pub entry_no_exit : (p : Piece) (x y : ℕ) → is_cell_of (pos x) (pos y) (entry_cells (interface_of p)) ≡ true → is_cell_of (pos x) (pos y) (exit_cells (interface_of p)) ≡ false
entry_no_exit p x y = none_of-says (entry_cells (interface_of p)) (exit_cells (interface_of p)) (pos x) (pos y) (disjoint_test p)

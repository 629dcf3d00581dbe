-- Rows of text lie in the box of their tile. (A law of a trait cites these proofs, and so they
-- stand in specs.)
use Rattle.std.proofs.Common.{ℤ, pos, negsuc, ℕ, zero, suc, ◌*◌, ◌<◌, ◌≤◌, ◌≡◌, sym, ap, ◌∙◌, Bool, true, ◌&&◌, ◌==◌, leb, List, [], ◌∷◌, length, get_or, arith, inl, inr}
use Rattle.std.proofs.lemmas.Bool.{and_parts, and_from, true≢false, cases_lt, lt-ltb, leb-true}
use Rattle.std.proofs.lemmas.List.{get_or_past}
use Rattle.tile_core.specs.Interface.{Interface, is_in_box}
use Rattle.tile_library.specs.Drawings.{drawn_rows}

-- each row is at most n long
abbrev pub is_narrow : ℕ → List (List ℕ) → Bool
is_narrow n [] = true
is_narrow n (row ∷ rows) = leb (length row) n && is_narrow n rows

is_narrow-says : (n : ℕ) (rows : List (List ℕ)) (y : ℕ) → is_narrow n rows ≡ true
    → length (get_or rows y []) ≤ n
is_narrow-says n [] y t = omega arith
is_narrow-says n (row ∷ rows) zero t =
    leb-true (length row) n (and_parts (leb (length row) n) (is_narrow n rows) t).0
is_narrow-says n (row ∷ rows) (suc y) t =
    is_narrow-says n rows y (and_parts (leb (length row) n) (is_narrow n rows) t).1

-- rows that fit the box of a tile
abbrev pub fits_box : Interface → List (List ℕ) → Bool
fits_box tile rows = leb (length rows) (16 * tile.lanes) && is_narrow 32 rows

drawn_within : (rows : List (List ℕ)) (m x y : ℕ) → length rows ≤ m → is_narrow 32 rows ≡ true
    → drawn_rows rows (pos x) (pos y) ≡ true → (x < 32) × (y < m)
drawn_within rows m x y h t e = (
  elim (cases_lt x 32) [
    | inl lt ↦ lt
    | inr ge ↦ absurd (true≢false (sym e ∙ ap (λ v. v == 67)
        (get_or_past (get_or rows y []) x 46 (omega (arith, is_narrow-says 32 rows y t)))))
  ],
  elim (cases_lt y m) [
    | inl lt ↦ lt
    | inr ge ↦ absurd (true≢false (sym e ∙ ap (λ r. get_or r x 46 == 67)
        (get_or_past rows y [] (omega arith))))
  ],
)

-- what rows that fit the box draw lies in the box
pub drawn_in_box : (tile : Interface) (rows : List (List ℕ)) → fits_box tile rows ≡ true → (x y : ℤ)
    → drawn_rows rows x y ≡ true → is_in_box tile x y ≡ true
drawn_in_box tile rows fits (pos x) (pos y) e =
    let parts = and_parts _ _ fits in
    let w = drawn_within rows (16 * tile.lanes) x y (leb-true _ _ parts.0) parts.1 e in
    and_from _ _ (lt-ltb x 32 w.0) (lt-ltb y (16 * tile.lanes) w.1)
drawn_in_box tile rows fits (pos x) (negsuc y) e = absurd (true≢false (sym e))
drawn_in_box tile rows fits (negsuc x) y e = absurd (true≢false (sym e))

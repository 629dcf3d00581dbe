-- Rows without conductors.
use Rattle.std.proofs.Common.{ℤ, pos, negsuc, ℕ, zero, suc, ◌+◌, ◌-◌, ◌<◌, ◌⊎◌, ◌≡◌, ◌∙◌, sym, refl, ap, Bool, true, false, ◌&&◌, ◌==◌, List, [], ◌∷◌, take, drop, get_or, arith, inl, inr}
use Rattle.std.specs.List.{list_all}
use Rattle.std.proofs.lemmas.Bool.{and_parts, eqb-true}
use Rattle.std.proofs.lemmas.List.{get_or-take, get_or-drop}
use Rattle.tile_library.specs.Drawings.{drawn_rows}

abbrev dotted : List ℕ → Bool
dotted row = list_all (λ b. b == 46) row

dot_at : (row : List ℕ) (x : ℕ) → dotted row ≡ true → get_or row x 46 ≡ 46
dot_at [] x t = refl
dot_at (b ∷ row) zero t = eqb-true b 46 (and_parts (b == 46) (dotted row) t).0
dot_at (b ∷ row) (suc x) t = dot_at row x (and_parts (b == 46) (dotted row) t).1

row_at : (rows : List (List ℕ)) (y : ℕ) → list_all dotted rows ≡ true → dotted (get_or rows y []) ≡ true
row_at [] y t = refl
row_at (row ∷ rows) zero t = (and_parts (dotted row) (list_all dotted rows) t).0
row_at (row ∷ rows) (suc y) t = row_at rows y (and_parts (dotted row) (list_all dotted rows) t).1

undrawn : (rows : List (List ℕ)) (x : ℤ) (y : ℕ) → dotted (get_or rows y []) ≡ true → drawn_rows rows x (pos y) ≡ false
undrawn rows (pos x) y t = ap (λ b. b == 67) (dot_at (get_or rows y []) x t)
undrawn rows (negsuc x) y t = refl

-- the rows above one, and those below another, have dots alone
abbrev pub is_wired : ℕ → ℕ → List (List ℕ) → Bool
is_wired first last rows = list_all dotted (take first rows) && list_all dotted (drop (suc last) rows)

pub beside : (first last : ℕ) (rows : List (List ℕ)) → is_wired first last rows ≡ true → (x : ℤ) (y : ℕ) → (y < first) ⊎ (last < y) → drawn_rows rows x (pos y) ≡ false
beside first last rows t x y (inl above) =
    let dots = (and_parts (list_all dotted (take first rows)) (list_all dotted (drop (suc last) rows)) t).0 in
    undrawn rows x y (ap dotted (sym (get_or-take first rows y [] above)) ∙ row_at (take first rows) y dots)
beside first last rows t x y (inr below) =
    let dots = (and_parts (list_all dotted (take first rows)) (list_all dotted (drop (suc last) rows)) t).1 in
    let at : suc last + (y - suc last) ≡ y = omega (arith, below) in
    undrawn rows x y (ap (λ k. dotted (get_or rows k [])) (sym at) ∙ ap dotted (sym (get_or-drop (suc last) rows (y - suc last) [])) ∙ row_at (drop (suc last) rows) (y - suc last) dots)

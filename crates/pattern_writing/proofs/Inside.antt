-- The tags of a grid stand for row ends and cells in its box, and nothing else.
use Rattle.std.proofs.Common.{ℕ, ◌+◌, ◌≡◌, ◌<◌, ◌≤◌, inl, inr, refl, sym, ap, List, [], ◌∷◌, ◌++◌, map, flat_map, length, append_assoc, arith}
use Rattle.std.specs.List.{All}
use Rattle.std.proofs.lemmas.Bool.Decides.{eqb_tells}
use Rattle.std.proofs.lemmas.List.Elements.{All-head, All-tail}
use Rattle.ww_rule.specs.declared.pattern.State.{State}
use Rattle.ww_rule.specs.declared.pattern.State.TheVariants.{Empty}
use Rattle.ww_rule.specs.Grid.{IsGrid}
use Rattle.pattern_writing.specs.Writer.{grid_tags, row_tags, tag_of, unless_last, without_end}
use Rattle.pattern_writing.proofs.Look.{Mark, RowEnd, Of, mark_of, mark_of_cell, tag}
use Rattle.ww_rule.proofs.Boxes.{rows_within as few_rows}

-- a tag that goes on in its row stands in the box, and so does the rest
abbrev pub GoesOn : Mark → Type 0 → Type 0 → Type 0 → Type 0
GoesOn RowEnd here below on = below
GoesOn (Of state) here below on = here × on

goes_on : (m : Mark) (A B C D E : Type 0) → (B → D) → (C → E) → GoesOn m A B C → GoesOn m A D E
goes_on RowEnd A B C D E f g h = f h
goes_on (Of state) A B C D E f g h = (h.0, g h.1)

-- the tags stand for row ends and cells in a box, from the place at cx and cy on
abbrev pub AreInside : ℕ → ℕ → List ℕ → ℕ → ℕ → Type 0
AreInside w h [] cx cy = Unit {0}
AreInside w h (t ∷ ts) cx cy =
    (t ≡ tag (mark_of t)) × (cy < h) × GoesOn (mark_of t) (cx < w) (AreInside w h ts 0 (cy + 1)) (AreInside w h ts (cx + 1) cy)

module _ (w h : ℕ) where
  -- also without the row ends at the end
  last_end : (t : ℕ) (r : List ℕ) (cx cy : ℕ) → AreInside w h (t ∷ r) cx cy → AreInside w h (unless_last 36 t r) cx cy
  last_end t (z ∷ zs) cx cy k = k
  last_end t [] cx cy k = elim (eqb_tells 36 t) as (λ _. AreInside w h (unless_last 36 t []) cx cy) [
    | inl same ↦ rw (same.0) tt
    | inr other ↦ rw (other.0) k
  ]

  trimmed : (ts : List ℕ) (cx cy : ℕ) → AreInside w h ts cx cy → AreInside w h (without_end 36 ts) cx cy
  trimmed [] cx cy k = tt
  trimmed (t ∷ ts) cx cy k =
      last_end t (without_end 36 ts) cx cy (k.0, k.1, goes_on (mark_of t) _ _ _ _ _ (trimmed ts 0 (cy + 1)) (trimmed ts (cx + 1) cy) k.2)

  -- and without the empty cells at the end of a row
  last_empty : (t : ℕ) (r rest : List ℕ) (cx cy : ℕ) → AreInside w h (t ∷ (r ++ (36 ∷ rest))) cx cy → AreInside w h (unless_last 46 t r ++ (36 ∷ rest)) cx cy
  last_empty t (z ∷ zs) rest cx cy k = k
  last_empty t [] rest cx cy k = elim (eqb_tells 46 t) as (λ _. AreInside w h (unless_last 46 t [] ++ (36 ∷ rest)) cx cy) [
    | inl same ↦ rw (same.0) (ended (mark_of t) (ap mark_of (sym same.1)) k.2)
    | inr other ↦ rw (other.0) k
  ]
    where
      ended : (m : Mark) → m ≡ Of Empty → GoesOn m (cx < w) (AreInside w h (36 ∷ rest) 0 (cy + 1)) (AreInside w h (36 ∷ rest) (cx + 1) cy) → AreInside w h (36 ∷ rest) cx cy
      ended RowEnd e n = absurd (cc)
      ended (Of state) e n = (n.1.0, n.1.1, n.1.2)

  row_trimmed : (ts rest : List ℕ) (cx cy : ℕ) → AreInside w h (ts ++ (36 ∷ rest)) cx cy → AreInside w h (without_end 46 ts ++ (36 ∷ rest)) cx cy
  row_trimmed [] rest cx cy k = k
  row_trimmed (t ∷ ts) rest cx cy k =
      last_empty t (without_end 46 ts) rest cx cy (k.0, k.1, goes_on (mark_of t) _ _ _ _ _ (row_trimmed ts rest 0 (cy + 1)) (row_trimmed ts rest (cx + 1) cy) k.2)

  cell_tag : (state : State) → tag_of state ≡ tag (mark_of (tag_of state))
  cell_tag state = rw (mark_of_cell state) refl

  row_inside : (row : List State) (rest : List ℕ) (cx cy : ℕ) → cx + length row ≤ w → cy < h → AreInside w h rest 0 (cy + 1) → AreInside w h (map tag_of row ++ (36 ∷ rest)) cx cy
  row_inside [] rest cx cy fits low k = (refl, low, k)
  row_inside (state ∷ row) rest cx cy fits low k =
      (cell_tag state, low, rw (mark_of_cell state) (omega (arith, fits), row_inside row rest (cx + 1) cy (omega (arith, fits)) low k))

  rows_inside : (rows : List (List State)) (cy : ℕ) → All (λ row. length row ≡ w) rows → cy + length rows ≤ h → AreInside w h (flat_map row_tags rows) 0 cy
  rows_inside [] cy long fits = tt
  rows_inside (row ∷ rows) cy long fits =
      let wide : length row ≡ w = All-head (λ row. length row ≡ w) row rows long in
      let rest = rows_inside rows (cy + 1) (All-tail (λ row. length row ≡ w) row rows long) (omega (arith, fits)) in
      rw (append_assoc (without_end 46 (map tag_of row)) (36 ∷ []) (flat_map row_tags rows)) (
      row_trimmed (map tag_of row) (flat_map row_tags rows) 0 cy (row_inside row (flat_map row_tags rows) 0 cy (omega (arith, wide)) (omega (arith, fits)) rest))

pub grid_inside : (w h : ℕ) (rows : List (List State)) → IsGrid w h rows → AreInside w h (grid_tags rows) 0 0
grid_inside w h rows grid =
    let few = few_rows w h rows grid in
    trimmed w h (flat_map row_tags rows) 0 0 (rows_inside w h rows 0 grid.long (omega (arith, few)))

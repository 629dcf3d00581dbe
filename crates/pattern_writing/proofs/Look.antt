-- The cells that tags spell, one tag at a time.
use Rattle.std.proofs.Common.{ℕ, zero, suc, ◌+◌, ◌≡◌, ◌≢◌, ◌<◌, inl, inr, refl, ap, ap₂, ◌∙◌, Bool, true, false, ◌&&◌, ◌==◌, List, [], ◌∷◌, ◌++◌, map, flat_map, get_or, append_assoc, arith}
use Rattle.std.specs.Prelude.{if◌then◌else◌}
use Rattle.std.proofs.lemmas.Bool.{and_parts, eqb-true}
use Rattle.std.proofs.lemmas.Bool.Decides.{eqb_tells}
use Rattle.ww_rule.specs.declared.pattern.State.{State}
use Rattle.ww_rule.specs.declared.pattern.State.TheVariants.{Empty, Head, Tail, Conductor}
use Rattle.pattern_writing.specs.Writer.{grid_tags, row_end, row_tags, tag_of, unless_last, without_end}
use Rattle.std.proofs.lemmas.Bool.{ne_eqb, eq-eqb}

-- what a tag stands for: the end of a row, or a cell
pub data Mark : Type 0 where
  RowEnd : Mark
  Of : State → Mark

abbrev pub tag : Mark → ℕ
tag RowEnd = row_end
tag (Of state) = tag_of state

abbrev pub mark_of : ℕ → Mark
mark_of t = if t == 36 then RowEnd else if t == 65 then Of Head else if t == 66 then Of Tail else if t == 67 then Of Conductor else Of Empty

pub mark_of_cell : (state : State) → mark_of (tag_of state) ≡ Of state
mark_of_cell Empty = refl
mark_of_cell Head = refl
mark_of_cell Tail = refl
mark_of_cell Conductor = refl

-- the state of a cell after a tag at a place, by the states of the rest if the tag ends a row, or goes on
abbrev pub seen : Mark → ℕ → ℕ → ℕ → ℕ → State → State → State
seen RowEnd cx cy x y below on = below
seen (Of state) cx cy x y below on = if cy == y && cx == x then state else on

-- the state of the cell at x and y, by tags from the place at cx and cy on; empty where no tag is there
abbrev pub look : List ℕ → ℕ → ℕ → ℕ → ℕ → State
look [] cx cy x y = Empty
look (t ∷ ts) cx cy x y = seen (mark_of t) cx cy x y (look ts 0 (cy + 1) x y) (look ts (cx + 1) cy x y)

-- nothing is spelled in the rows before
seen_above : (m : Mark) (cx cy x y : ℕ) (below on : State) → y < cy → below ≡ Empty → on ≡ Empty → seen m cx cy x y below on ≡ Empty
seen_above RowEnd cx cy x y below on l e k = e
seen_above (Of state) cx cy x y below on l e k = rw (ne_eqb cy y (λ h. omega (arith, l, h))) k

pub look_above : (ts : List ℕ) (cx cy x y : ℕ) → y < cy → look ts cx cy x y ≡ Empty
look_above [] cx cy x y l = refl
look_above (t ∷ ts) cx cy x y l =
    seen_above (mark_of t) cx cy x y _ _ l (look_above ts 0 (cy + 1) x y (omega (arith, l))) (look_above ts (cx + 1) cy x y l)

-- row ends at the end spell nothing
last_end : (t : ℕ) (r : List ℕ) (cx cy x y : ℕ) → look (unless_last 36 t r) cx cy x y ≡ look (t ∷ r) cx cy x y
last_end t (z ∷ zs) cx cy x y = refl
last_end t [] cx cy x y = elim (eqb_tells 36 t) as (λ _. look (unless_last 36 t []) cx cy x y ≡ look (t ∷ []) cx cy x y) [
  | inl same ↦ rw (← same.1) refl
  | inr other ↦ rw (other.0) refl
]

pub look_trimmed : (ts : List ℕ) (cx cy x y : ℕ) → look (without_end 36 ts) cx cy x y ≡ look ts cx cy x y
look_trimmed [] cx cy x y = refl
look_trimmed (t ∷ ts) cx cy x y =
    last_end t (without_end 36 ts) cx cy x y
    ∙ ap₂ (λ a b. seen (mark_of t) cx cy x y a b) (look_trimmed ts 0 (cy + 1) x y) (look_trimmed ts (cx + 1) cy x y)

-- nor do empty cells at the end of a row
empty_cell : (t : Bool) (below : State) → (t ≡ true → below ≡ Empty) → below ≡ (if t then Empty else below)
empty_cell true below h = h refl
empty_cell false below h = refl

last_empty : (t : ℕ) (r rest : List ℕ) (cx cy x y : ℕ) → look (unless_last 46 t r ++ (36 ∷ rest)) cx cy x y ≡ look (t ∷ (r ++ (36 ∷ rest))) cx cy x y
last_empty t (z ∷ zs) rest cx cy x y = refl
last_empty t [] rest cx cy x y = elim (eqb_tells 46 t) as (λ _. look (unless_last 46 t [] ++ (36 ∷ rest)) cx cy x y ≡ look (t ∷ (36 ∷ rest)) cx cy x y) [
  | inl same ↦ rw (← same.1) (empty_cell (cy == y && cx == x) (look rest 0 (cy + 1) x y) (λ e. let same_row : cy ≡ y = eqb-true cy y (and_parts _ _ e).0 in look_above rest 0 (cy + 1) x y (omega (arith, same_row))))
  | inr other ↦ rw (other.0) refl
]

look_row_trimmed : (ts rest : List ℕ) (cx cy x y : ℕ) → look (without_end 46 ts ++ (36 ∷ rest)) cx cy x y ≡ look (ts ++ (36 ∷ rest)) cx cy x y
look_row_trimmed [] rest cx cy x y = refl
look_row_trimmed (t ∷ ts) rest cx cy x y =
    last_empty t (without_end 46 ts) rest cx cy x y
    ∙ ap₂ (λ a b. seen (mark_of t) cx cy x y a b) (look_row_trimmed ts rest 0 (cy + 1) x y) (look_row_trimmed ts rest (cx + 1) cy x y)

-- a row of cells, for the cells of other rows and for its own
other_row : (row : List State) (rest : List ℕ) (cx cy x y : ℕ) → cy ≢ y → look (map tag_of row ++ (36 ∷ rest)) cx cy x y ≡ look rest 0 (cy + 1) x y
other_row [] rest cx cy x y h = refl
other_row (state ∷ row) rest cx cy x y h = rw (mark_of_cell state, ne_eqb cy y h) (other_row row rest (cx + 1) cy x y h)

own_row : (row : List State) (rest : List ℕ) (cx cy k : ℕ) → look (map tag_of row ++ (36 ∷ rest)) cx cy (cx + k) cy ≡ get_or row k Empty
own_row [] rest cx cy k = look_above rest 0 (cy + 1) (cx + k) cy (omega arith)
own_row (state ∷ row) rest cx cy zero =
    let here : cx ≡ cx + 0 = omega arith in
    rw (mark_of_cell state, eq-eqb cy cy refl, ← here, eq-eqb cx cx refl) refl
own_row (state ∷ row) rest cx cy (suc k) =
    let there : cx + suc k ≡ cx + 1 + k = omega arith in
    rw (mark_of_cell state, eq-eqb cy cy refl, there, ne_eqb cx (cx + 1 + k) (λ h. omega (arith, h))) (own_row row rest (cx + 1) cy k)

row_first : (row : List State) (rows : List (List State)) (cx cy x y : ℕ) → look (flat_map row_tags (row ∷ rows)) cx cy x y ≡ look (map tag_of row ++ (36 ∷ flat_map row_tags rows)) cx cy x y
row_first row rows cx cy x y =
    ap (λ ts. look ts cx cy x y) (append_assoc (without_end 46 (map tag_of row)) (36 ∷ []) (flat_map row_tags rows))
    ∙ look_row_trimmed (map tag_of row) (flat_map row_tags rows) cx cy x y

look_rows : (rows : List (List State)) (cy x j : ℕ) → look (flat_map row_tags rows) 0 cy x (cy + j) ≡ get_or (get_or rows j []) x Empty
look_rows [] cy x j = refl
look_rows (row ∷ rows) cy x zero =
    let here : cy + 0 ≡ cy = omega arith in
    let from : x ≡ 0 + x = omega arith in
    row_first row rows 0 cy x (cy + 0) ∙ rw here (ap (λ k. look (map tag_of row ++ (36 ∷ flat_map row_tags rows)) 0 cy k cy) from ∙ own_row row (flat_map row_tags rows) 0 cy x)
look_rows (row ∷ rows) cy x (suc j) =
    let there : cy + suc j ≡ cy + 1 + j = omega arith in
    row_first row rows 0 cy x (cy + suc j)
    ∙ other_row row (flat_map row_tags rows) 0 cy x (cy + suc j) (λ h. omega (arith, h))
    ∙ rw there (look_rows rows (cy + 1) x j)

-- the tags of a grid spell its cells
pub look_grid : (rows : List (List State)) (x y : ℕ) → look (grid_tags rows) 0 0 x y ≡ get_or (get_or rows y []) x Empty
look_grid rows x y =
    let from : y ≡ 0 + y = omega arith in
    look_trimmed (flat_map row_tags rows) 0 0 x y ∙ ap (λ k. look (flat_map row_tags rows) 0 0 x k) from ∙ look_rows rows 0 x y

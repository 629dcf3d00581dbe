-- What is drawn of the items of a text is what they say.
use Rattle.std.proofs.Common.{ℕ, ◌+◌, ◌-◌, ◌*◌, ◌^◌, ◌<◌, ◌≤◌, ◌≡◌, ◌≢◌, ◌⊎◌, inl, inr, refl, sym, ap, ap₂, ◌∙◌, subst, Bool, true, false, true≢false, cond, not, ◌&&◌, ◌||◌, ◌==◌, List, [], ◌∷◌, ◌++◌, length, get_or, set, replicate, arith, append_assoc}
use Rattle.std.specs.Prelude.{if◌then◌else◌, Option, Some, None, nat_le, nat_lt, slice_get, unwrap_or, take_while, filter_map}
use Rattle.std.specs.List.{AllByRecursion, cons_option, list_any}
use Rattle.std.proofs.lemmas.Bool.{cases_Bool, cases_eq, cases_lt, and_parts, leb-true, ltb-true, eqb-true}
use Rattle.std.proofs.lemmas.Bool.Decides.{nat_tests}
use Rattle.std.proofs.lemmas.Grind.{get_or-set_at}
use Rattle.std.proofs.lemmas.List.{append-nil, get_or-set_other, get_or-replicate, length-replicate}
use Rattle.std.proofs.lemmas.List.Sums.{take_while-cons}
use Rattle.std.proofs.lemmas.Option.{none-some}
use Rattle.pattern_reading.specs.declared.faults.RleFaultKind.{RleFaultKind}
use Rattle.pattern_reading.specs.declared.faults.RleFaultKind.TheVariants.{CellOutside}
use Rattle.ww_rule.specs.declared.pattern.State.{State}
use Rattle.ww_rule.specs.declared.pattern.State.TheVariants.{Empty, Head, Tail, Conductor}
use Rattle.ww_rule.specs.Grid.{IsGrid}
use Rattle.pattern_reading.specs.Numbers.{◌>>=◌}
use Rattle.pattern_reading.specs.Items.{Item, Cells, RowEnds, End, Blank, CutOff, NoItem, LineItem, Placed, IsCounted, is_end, column_after, row_after, placed_after}
use Rattle.pattern_reading.specs.Laws.{next_column, next_row}
use Rattle.pattern_reading.specs.Pattern.{RleFaultAt, fault_at, item_fault, run_fault, state_at, state_in}
use Rattle.pattern_reading.proofs.Places.{next_place}
use Rattle.rle_read.specs.Drawn.{Drawn, Reached, Fault, Ended, Open, kept, reached_by, drawn_with, drawn_after, rows_with, place_of, blank_drawing}
use Rattle.ww_rule.specs.Cuts.{with_run}
use Rattle.rle_read.proofs.Runs.{run_inside, run_in_rows, run_grid, run_covers, run_spares}
use Rattle.std.proofs.lemmas.List.Elements.{filter_map-append as filter_map_append}
use Rattle.std.proofs.Math.Bool.{and-false as and_none}
use Rattle.std.proofs.Math.Nat.{zero-mul}

-- the cells from the next place on
abbrev pub IsAhead : Drawn → ℕ → ℕ → Type 0
IsAhead d x y = (d.y < y) ⊎ ((d.y ≡ y) × (d.x ≤ x))

-- the states that items give to a cell
abbrev pub given : List Placed → ℕ → ℕ → List State
given placed x y = filter_map (λ p. state_in x y p p.item) placed

-- The drawing is that of these items: the next place is the sum of their counts, the cells are as they say, and none of them covers a
-- cell from the next place on.
pub record IsDrawn (width height : ℕ) (d : Drawn) (before : List Item) (placed : List Placed) : Type 0 where
  pub wide : d.width ≡ width
  pub high : d.height ≡ height
  pub column : d.x ≡ kept (column_after before)
  pub row : d.y ≡ kept (row_after before)
  pub grid : IsGrid width height d.rows
  pub cells : (x y : ℕ) → x < width → y < height → get_or (get_or d.rows y []) x Empty ≡ state_at placed x y
  pub free : (x y : ℕ) → x < width → y < height → IsAhead d x y → given placed x y ≡ []

-- kept places

kept_add : (a n : ℕ) → kept (kept a + n) ≡ kept (a + n)
kept_add a n = omega arith

below_kept : (a b : ℕ) → b < 2 ^ 64 - 1 → (kept a ≤ b → a ≤ b) × (a ≤ b → kept a ≤ b)
below_kept a b h = (λ k. omega (arith, k), λ k. omega (arith, k))

-- whether a place covers a cell
abbrev covers : ℕ → ℕ → ℕ → ℕ → ℕ → Bool
covers px py n x y = py == y && nat_le px x && nat_lt x (px + n)

covers_kept : (px py n x y : ℕ) → x < 2 ^ 64 - 1 → y < 2 ^ 64 - 1 → covers px py n x y ≡ covers (kept px) (kept py) n x y
covers_kept px py n x y h k = by_column (cases_lt px (2 ^ 64 - 1)) (cases_lt py (2 ^ 64 - 1))
  where
    past_column : (qx qy : ℕ) → x < qx → covers qx qy n x y ≡ false
    past_column qx qy l = let e : nat_le qx x ≡ false = grind (arith, nat_tests) in rw e (ap (λ t. t && nat_lt x (qx + n)) (and_none (qy == y)))

    past_row : (qx qy : ℕ) → y < qy → covers qx qy n x y ≡ false
    past_row qx qy l = let e : (qy == y) ≡ false = grind (arith, nat_tests) in rw e refl

    by_column : (px < 2 ^ 64 - 1) ⊎ (2 ^ 64 - 1 ≤ px) → (py < 2 ^ 64 - 1) ⊎ (2 ^ 64 - 1 ≤ py) → covers px py n x y ≡ covers (kept px) (kept py) n x y
    by_column (inl a) (inl b) =
        let ex : kept px ≡ px = omega arith in
        let ey : kept py ≡ py = omega arith in
        ap₂ (λ qx qy. covers qx qy n x y) (sym ex) (sym ey)
    by_column (inr a) b = past_column px py (omega (arith, h, a)) ∙ sym (past_column (kept px) (kept py) (omega (arith, h, a)))
    by_column (inl a) (inr b) = past_row px py (omega (arith, k, b)) ∙ sym (past_row (kept px) (kept py) (omega (arith, k, b)))

-- one more item

abbrev state_of : List State → State
state_of states = unwrap_or (slice_get states 0) Empty

given_one : (placed : List Placed) (p : Placed) (x y : ℕ) (o : Option State) → state_in x y p p.item ≡ o → given (placed ++ p ∷ []) x y ≡ given placed x y ++ cons_option o []
given_one placed p x y o e = filter_map_append (λ p. state_in x y p p.item) placed (p ∷ []) ∙ ap (λ o. given placed x y ++ cons_option o []) e

module _ (width height : ℕ) (small_width : width < 2 ^ 64) (small_height : height < 2 ^ 64) (d : Drawn) (before : List Item) (placed : List Placed) (was : IsDrawn width height d before placed) (line : ℕ) where
  abbrev here : Item → Placed
  here item = record { line = line; x = column_after before; y = row_after before; item = item }

  -- an item that is no run and ends no row
  still : (item : Item) → drawn_after item d ≡ d → next_column item (column_after before) ≡ column_after before → next_row item (row_after before) ≡ row_after before → ((x y : ℕ) (p : Placed) → state_in x y p item ≡ None) → IsDrawn width height (drawn_after item d) (item ∷ before) (placed ++ here item ∷ [])
  still item same column row none = subst (λ (a : Drawn). IsDrawn width height a (item ∷ before) (placed ++ here item ∷ [])) (sym same) (record {
    wide = was.wide;
    high = was.high;
    column = was.column ∙ ap kept (sym ((next_place item before).0 ∙ column));
    row = was.row ∙ ap kept (sym ((next_place item before).1 ∙ row));
    grid = was.grid;
    cells = λ x y h k. was.cells x y h k ∙ ap state_of (sym (kept_states x y));
    free = λ x y h k ahead. kept_states x y ∙ was.free x y h k ahead;
  })
    where
      kept_states : (x y : ℕ) → given (placed ++ here item ∷ []) x y ≡ given placed x y
      kept_states x y = given_one placed (here item) x y None (none x y (here item)) ∙ append-nil (given placed x y)

  -- the end of rows
  rows_end : (n : ℕ) → 0 < n → IsDrawn width height (drawn_after (RowEnds n) d) (RowEnds n ∷ before) (placed ++ here (RowEnds n) ∷ [])
  rows_end n some = record {
    wide = was.wide;
    high = was.high;
    column = ap kept (sym (next_place (RowEnds n) before).0);
    row = ap (λ y. kept (y + n)) was.row ∙ kept_add (row_after before) n ∙ ap kept (sym (next_place (RowEnds n) before).1);
    grid = was.grid;
    cells = λ x y h k. was.cells x y h k ∙ ap state_of (sym (kept_states x y));
    free = λ x y h k ahead. kept_states x y ∙ was.free x y h k (inl (lower x y k ahead));
  }
    where
      kept_states : (x y : ℕ) → given (placed ++ here (RowEnds n) ∷ []) x y ≡ given placed x y
      kept_states x y = given_one placed (here (RowEnds n)) x y None refl ∙ append-nil (given placed x y)

      lower : (x y : ℕ) → y < height → (kept (d.y + n) < y) ⊎ ((kept (d.y + n) ≡ y) × (0 ≤ x)) → d.y < y
      lower x y k (inl a) = let b = (below_kept (d.y + n) y (omega (arith, k, small_height))).0 (omega (arith, a)) in omega (arith, b, some)
      lower x y k (inr a) = let b = (below_kept (d.y + n) y (omega (arith, k, small_height))).0 (omega (arith, a.0)) in omega (arith, b, some)

  -- a run of cells
  module _ (n : ℕ) (state : State) (some : 0 < n) (drawn : ((state ≡ Empty) × (rows_with d n state ≡ d.rows)) ⊎ ((rows_with d n state ≡ set d.rows d.y (with_run (get_or d.rows d.y []) d.x n state)) × (d.x + n ≤ width) × (d.y < height))) where
    abbrev run : Item
    run = Cells n state

    is_covered : (x y : ℕ) → x < width → y < height → covers (column_after before) (row_after before) n x y ≡ covers d.x d.y n x y
    is_covered x y h k =
        covers_kept (column_after before) (row_after before) n x y (omega (arith, h, small_width)) (omega (arith, k, small_height))
        ∙ ap₂ (λ px py. covers px py n x y) (sym was.column) (sym was.row)

    given_covered : (x y : ℕ) → x < width → y < height → covers d.x d.y n x y ≡ true → given (placed ++ here run ∷ []) x y ≡ given placed x y ++ state ∷ []
    given_covered x y h k e = given_one placed (here run) x y (Some state) (ap (λ b. if b then Some state else None) (is_covered x y h k ∙ e))

    given_spared : (x y : ℕ) → x < width → y < height → covers d.x d.y n x y ≡ false → given (placed ++ here run ∷ []) x y ≡ given placed x y
    given_spared x y h k e = given_one placed (here run) x y None (ap (λ b. if b then Some state else None) (is_covered x y h k ∙ e)) ∙ append-nil (given placed x y)

    in_run : (x y : ℕ) → covers d.x d.y n x y ≡ true → (d.y ≡ y) × (d.x ≤ x) × (x < d.x + n)
    in_run x y e =
        let outer = and_parts (d.y == y && nat_le d.x x) (nat_lt x (d.x + n)) e in
        let inner = and_parts (d.y == y) (nat_le d.x x) outer.0 in
        (eqb-true d.y y inner.0, leb-true _ _ inner.1, ltb-true _ _ outer.1)

    run_has : (x y : ℕ) → d.y ≡ y → d.x ≤ x → x < d.x + n → covers d.x d.y n x y ≡ true
    run_has x y e h k =
        let a : (d.y == y) ≡ true = grind (arith, nat_tests) in
        let b : nat_le d.x x ≡ true = grind (arith, nat_tests) in
        let c : nat_lt x (d.x + n) ≡ true = grind (arith, nat_tests) in
        rw (a, b, c) refl

    -- a cell that the run covers is ahead of the drawing
    no_state_yet : (x y : ℕ) → x < width → y < height → covers d.x d.y n x y ≡ true → given placed x y ≡ []
    no_state_yet x y h k e = let at = in_run x y e in was.free x y h k (inr (at.0, at.1))

    -- the rows
    fits : d.x + n ≤ width → d.y < height → (d.y < length d.rows) × (d.x + n ≤ length (get_or d.rows d.y []))
    fits right low = run_in_rows width height d.rows d.x d.y n was.grid some right low

    new_grid : ((state ≡ Empty) × (rows_with d n state ≡ d.rows)) ⊎ ((rows_with d n state ≡ set d.rows d.y (with_run (get_or d.rows d.y []) d.x n state)) × (d.x + n ≤ width) × (d.y < height)) → IsGrid width height (rows_with d n state)
    new_grid (inl e) = subst (IsGrid width height) (sym e.1) was.grid
    new_grid (inr e) = let f = fits e.1 e.2 in subst (IsGrid width height) (sym e.0) (run_grid width height d.rows d.x d.y n state was.grid f.0 f.1)

    covered_cell : (x y : ℕ) → x < width → y < height → covers d.x d.y n x y ≡ true → ((state ≡ Empty) × (rows_with d n state ≡ d.rows)) ⊎ ((rows_with d n state ≡ set d.rows d.y (with_run (get_or d.rows d.y []) d.x n state)) × (d.x + n ≤ width) × (d.y < height)) → get_or (get_or (rows_with d n state) y []) x Empty ≡ state
    covered_cell x y h k c (inl e) = ap (λ rows. get_or (get_or rows y []) x Empty) e.1 ∙ was.cells x y h k ∙ ap state_of (no_state_yet x y h k c) ∙ sym e.0
    covered_cell x y h k c (inr e) =
        let f = fits e.1 e.2 in
        let at = in_run x y c in
        let new = with_run (get_or d.rows d.y []) d.x n state in
        ap (λ rows. get_or (get_or rows y []) x Empty) e.0
        ∙ ap (λ row. get_or row x Empty) (get_or-set_at d.rows d.y y new [] (sym at.0) f.0)
        ∙ run_covers (get_or d.rows d.y []) d.x n x state Empty f.1 at.1 at.2

    spared_row : (x y : ℕ) → covers d.x d.y n x y ≡ false → d.x + n ≤ length (get_or d.rows d.y []) → d.y < length d.rows → (y ≡ d.y) ⊎ (y ≡ d.y → ⊥) → (x < d.x) ⊎ (d.x ≤ x) → (x < d.x + n) ⊎ (d.x + n ≤ x) → get_or (get_or (set d.rows d.y (with_run (get_or d.rows d.y []) d.x n state)) y []) x Empty ≡ get_or (get_or d.rows y []) x Empty
    spared_row x y c long low (inr other) left right = ap (λ row. get_or row x Empty) (get_or-set_other d.rows d.y y (with_run (get_or d.rows d.y []) d.x n state) [] other)
    spared_row x y c long low (inl e) (inl left) right =
        ap (λ row. get_or row x Empty) (get_or-set_at d.rows d.y y (with_run (get_or d.rows d.y []) d.x n state) [] e low)
        ∙ run_spares (get_or d.rows d.y []) d.x n x state Empty long (inl left)
        ∙ ap (λ k. get_or (get_or d.rows k []) x Empty) (sym e)
    spared_row x y c long low (inl e) (inr left) (inr right) =
        ap (λ row. get_or row x Empty) (get_or-set_at d.rows d.y y (with_run (get_or d.rows d.y []) d.x n state) [] e low)
        ∙ run_spares (get_or d.rows d.y []) d.x n x state Empty long (inr right)
        ∙ ap (λ k. get_or (get_or d.rows k []) x Empty) (sym e)
    spared_row x y c long low (inl e) (inr left) (inl right) = absurd (true≢false (sym (run_has x y (sym e) left right) ∙ c))

    spared_cell : (x y : ℕ) → covers d.x d.y n x y ≡ false → ((state ≡ Empty) × (rows_with d n state ≡ d.rows)) ⊎ ((rows_with d n state ≡ set d.rows d.y (with_run (get_or d.rows d.y []) d.x n state)) × (d.x + n ≤ width) × (d.y < height)) → get_or (get_or (rows_with d n state) y []) x Empty ≡ get_or (get_or d.rows y []) x Empty
    spared_cell x y c (inl e) = ap (λ rows. get_or (get_or rows y []) x Empty) e.1
    spared_cell x y c (inr e) =
        let f = fits e.1 e.2 in
        ap (λ rows. get_or (get_or rows y []) x Empty) e.0 ∙ spared_row x y c f.1 f.0 (cases_eq y d.y) (cases_lt x d.x) (cases_lt x (d.x + n))

    new_cell : (x y : ℕ) → x < width → y < height → (covers d.x d.y n x y ≡ true) ⊎ (covers d.x d.y n x y ≡ false) → get_or (get_or (rows_with d n state) y []) x Empty ≡ state_at (placed ++ here run ∷ []) x y
    new_cell x y h k (inl c) =
        covered_cell x y h k c drawn ∙ sym (ap state_of (given_covered x y h k c ∙ ap (λ states. states ++ state ∷ []) (no_state_yet x y h k c)))
    new_cell x y h k (inr c) = spared_cell x y c drawn ∙ was.cells x y h k ∙ ap state_of (sym (given_spared x y h k c))

    -- what is ahead of the run
    past : (x y : ℕ) → x < width → IsAhead (drawn_after run d) x y → IsAhead d x y × (covers d.x d.y n x y ≡ false)
    past x y h (inl low) = (inl low, let e : (d.y == y) ≡ false = grind (arith, nat_tests) in rw e refl)
    past x y h (inr at) =
        let right : d.x + n ≤ x = (below_kept (d.x + n) x (omega (arith, h, small_width))).0 at.1 in
        (inr (at.0, omega (arith, right)), uncovered (nat_lt x (d.x + n)) refl right)
      where
        uncovered : (b : Bool) → nat_lt x (d.x + n) ≡ b → d.x + n ≤ x → covers d.x d.y n x y ≡ false
        uncovered true e right = absurd (let l : x < d.x + n = ltb-true _ _ e in omega (arith, l, right))
        uncovered false e right = rw e (and_none (d.y == y && nat_le d.x x))

    pub run_drawn : IsDrawn width height (drawn_after run d) (run ∷ before) (placed ++ here run ∷ [])
    run_drawn = record {
      wide = was.wide;
      high = was.high;
      column = ap (λ x. kept (x + n)) was.column ∙ kept_add (column_after before) n ∙ ap kept (sym (next_place run before).0);
      row = was.row ∙ ap kept (sym (next_place run before).1);
      grid = new_grid drawn;
      cells = λ x y h k. new_cell x y h k (cases_Bool (covers d.x d.y n x y));
      free = λ x y h k ahead. let p = past x y h ahead in given_spared x y h k p.1 ∙ was.free x y h k p.0;
    }

-- items at their places

room_same : (px py n width height : ℕ) → width < 2 ^ 64 → height < 2 ^ 64 → 0 < n → (nat_le (px + n) width && nat_lt py height) ≡ (nat_le (kept px + n) width && nat_lt (kept py) height)
room_same px py n width height h k some = by_place (cases_lt px (2 ^ 64 - 1)) (cases_lt py (2 ^ 64 - 1))
  where
    no_column : (q qy : ℕ) → width < q → (nat_le q width && nat_lt qy height) ≡ false
    no_column q qy l = let e : nat_le q width ≡ false = grind (arith, nat_tests) in rw e refl

    no_row : (q qy : ℕ) → height ≤ qy → (nat_le q width && nat_lt qy height) ≡ false
    no_row q qy l = let e : nat_lt qy height ≡ false = grind (arith, nat_tests) in rw e (and_none (nat_le q width))

    by_place : (px < 2 ^ 64 - 1) ⊎ (2 ^ 64 - 1 ≤ px) → (py < 2 ^ 64 - 1) ⊎ (2 ^ 64 - 1 ≤ py) → (nat_le (px + n) width && nat_lt py height) ≡ (nat_le (kept px + n) width && nat_lt (kept py) height)
    by_place (inl a) (inl b) =
        let ex : kept px ≡ px = omega arith in
        let ey : kept py ≡ py = omega arith in
        ap₂ (λ qx qy. nat_le (qx + n) width && nat_lt qy height) (sym ex) (sym ey)
    by_place (inr a) b = no_column (px + n) py (omega (arith, h, a, some)) ∙ sym (no_column (kept px + n) (kept py) (omega (arith, h, a, some)))
    by_place (inl a) (inr b) = no_row (px + n) py (omega (arith, k, b)) ∙ sym (no_row (kept px + n) (kept py) (omega (arith, k, b)))

module _ (width height : ℕ) (small_width : width < 2 ^ 64) (small_height : height < 2 ^ 64) where
  abbrev at_line : ℕ → RleFaultKind → Option RleFaultAt
  at_line line kind = Some (record { kind = kind; line = line })

  abbrev placed_at : ℕ → List Item → Item → Placed
  placed_at line before item = record { line = line; x = column_after before; y = row_after before; item = item }

  run_same : (d : Drawn) (before : List Item) (placed : List Placed) → IsDrawn width height d before placed → (n : ℕ) → 0 < n → (nat_le (column_after before + n) width && nat_lt (row_after before) height) ≡ (nat_le (d.x + n) d.width && nat_lt d.y d.height)
  run_same d before placed was n some =
      room_same (column_after before) (row_after before) n width height small_width small_height some
      ∙ ap₂ (λ x y. nat_le (x + n) width && nat_lt y height) (sym was.column) (sym was.row)
      ∙ ap₂ (λ w h. nat_le (d.x + n) w && nat_lt d.y h) (sym was.wide) (sym was.high)

  kind_same : (d : Drawn) (before : List Item) (placed : List Placed) → IsDrawn width height d before placed → (line : ℕ) (item at : Item) → IsCounted item → item_fault width height (placed_at line before at) item ≡ item_fault d.width d.height (place_of line d at) item
  kind_same d before placed was line (Cells n Empty) at counted = refl
  kind_same d before placed was line (Cells n Head) at counted = ap (λ b. if b then None else Some CellOutside) (run_same d before placed was n counted)
  kind_same d before placed was line (Cells n Tail) at counted = ap (λ b. if b then None else Some CellOutside) (run_same d before placed was n counted)
  kind_same d before placed was line (Cells n Conductor) at counted = ap (λ b. if b then None else Some CellOutside) (run_same d before placed was n counted)
  kind_same d before placed was line (RowEnds n) at counted = refl
  kind_same d before placed was line End at counted = refl
  kind_same d before placed was line Blank at counted = refl
  kind_same d before placed was line CutOff at counted = refl
  kind_same d before placed was line NoItem at counted = refl

  fault_same : (d : Drawn) (before : List Item) (placed : List Placed) → IsDrawn width height d before placed → (line : ℕ) (item : Item) → IsCounted item → fault_at width height (placed_at line before item) ≡ fault_at d.width d.height (place_of line d item)
  fault_same d before placed was line item counted = ap (λ o. o >>= λ kind. Some (record { kind = kind; line = line })) (kind_same d before placed was line item item counted)

  -- a run that is drawn
  cells_drawn : (d : Drawn) (before : List Item) (placed : List Placed) → IsDrawn width height d before placed → (line n : ℕ) (state : State) → 0 < n → (state ≢ Empty) → rows_with d n state ≡ set d.rows d.y (with_run (get_or d.rows d.y []) d.x n state) → run_fault d.width d.height (place_of line d (Cells n state)) n state ≡ None → IsDrawn width height (drawn_after (Cells n state) d) (Cells n state ∷ before) (placed ++ placed_at line before (Cells n state) ∷ [])
  cells_drawn d before placed was line n state some drawn rows sound =
      let box = run_inside d.width d.height (place_of line d (Cells n state)) n state drawn sound in
      run_drawn width height small_width small_height d before placed was line n state some (inr (rows, omega (arith, box.0, was.wide), omega (arith, box.1, was.high)))

  item_drawn : (d : Drawn) (before : List Item) (placed : List Placed) → IsDrawn width height d before placed → (line : ℕ) (item : Item) → IsCounted item → is_end item ≡ false → item_fault d.width d.height (place_of line d item) item ≡ None → IsDrawn width height (drawn_after item d) (item ∷ before) (placed ++ placed_at line before item ∷ [])
  item_drawn d before placed was line (Cells n Empty) counted going sound = run_drawn width height small_width small_height d before placed was line n Empty counted (inl (refl, refl))
  item_drawn d before placed was line (Cells n Head) counted going sound = cells_drawn d before placed was line n Head counted (λ e. cc) refl sound
  item_drawn d before placed was line (Cells n Tail) counted going sound = cells_drawn d before placed was line n Tail counted (λ e. cc) refl sound
  item_drawn d before placed was line (Cells n Conductor) counted going sound = cells_drawn d before placed was line n Conductor counted (λ e. cc) refl sound
  item_drawn d before placed was line (RowEnds n) counted going sound = rows_end width height small_width small_height d before placed was line n counted
  item_drawn d before placed was line End counted going sound = absurd (true≢false going)
  item_drawn d before placed was line Blank counted going sound = still width height small_width small_height d before placed was line Blank refl refl refl (λ x y p. refl)
  item_drawn d before placed was line CutOff counted going sound = still width height small_width small_height d before placed was line CutOff refl refl refl (λ x y p. refl)
  item_drawn d before placed was line NoItem counted going sound = absurd (none-some _ (sym sound))

  -- what is said of items after others
  abbrev pub places_after : List Item → List LineItem → List Placed
  places_after before items = placed_after before (take_while (λ i. not (is_end i.item)) items)

  abbrev pub faults_after : List Item → List LineItem → List RleFaultAt
  faults_after before items = filter_map (fault_at width height) (places_after before items)

  abbrev pub ends_in : List LineItem → Bool
  ends_in items = list_any (λ i. is_end i.item) items

  abbrev pub IsSaid : List Item → List Placed → List LineItem → Reached → Type 0
  IsSaid before placed items (Fault fault) = slice_get (faults_after before items) 0 ≡ Some fault
  IsSaid before placed items (Ended after) = (faults_after before items ≡ []) × (ends_in items ≡ true) × ((all : List Item) × IsDrawn width height after all (placed ++ places_after before items))
  IsSaid before placed items (Open after) = (faults_after before items ≡ []) × (ends_in items ≡ false)

  no_places : (before : List Item) (i : LineItem) (is : List LineItem) → is_end i.item ≡ true → places_after before (i ∷ is) ≡ []
  no_places before i is e = ap (placed_after before) (take_while-cons (λ i. not (is_end i.item)) i is ∙ ap (λ b. cond (not b) (i ∷ take_while (λ i. not (is_end i.item)) is) []) e)

  more_places : (before : List Item) (i : LineItem) (is : List LineItem) → is_end i.item ≡ false → places_after before (i ∷ is) ≡ placed_at i.line before i.item ∷ places_after (i.item ∷ before) is
  more_places before i is e = ap (placed_after before) (take_while-cons (λ i. not (is_end i.item)) i is ∙ ap (λ b. cond (not b) (i ∷ take_while (λ i. not (is_end i.item)) is) []) e)

  said_more : (before : List Item) (placed : List Placed) (i : LineItem) (is : List LineItem) → is_end i.item ≡ false → fault_at width height (placed_at i.line before i.item) ≡ None → (r : Reached) → IsSaid (i.item ∷ before) (placed ++ placed_at i.line before i.item ∷ []) is r → IsSaid before placed (i ∷ is) r
  said_more before placed i is going sound r said = by_reached r said
    where
      faults : faults_after before (i ∷ is) ≡ faults_after (i.item ∷ before) is
      faults = ap (filter_map (fault_at width height)) (more_places before i is going) ∙ ap (λ o. cons_option o (faults_after (i.item ∷ before) is)) sound

      ends : ends_in (i ∷ is) ≡ ends_in is
      ends = ap (λ b. b || ends_in is) going

      by_reached : (r : Reached) → IsSaid (i.item ∷ before) (placed ++ placed_at i.line before i.item ∷ []) is r → IsSaid before placed (i ∷ is) r
      by_reached (Fault fault) h = ap (λ fs. slice_get fs 0) faults ∙ h
      by_reached (Ended after) h =
          (faults ∙ h.0, ends ∙ h.1, (h.2.0, subst (IsDrawn width height after h.2.0) (append_assoc placed (placed_at i.line before i.item ∷ []) (places_after (i.item ∷ before) is) ∙ ap (λ ps. placed ++ ps) (sym (more_places before i is going))) h.2.1))
      by_reached (Open after) h = (faults ∙ h.0, ends ∙ h.1)

  pub said : (items : List LineItem) (d : Drawn) (before : List Item) (placed : List Placed) → IsDrawn width height d before placed → AllByRecursion (λ i. IsCounted i.item) items → IsSaid before placed items (drawn_with d items)
  said [] d before placed was counted = (refl, refl)
  said (i ∷ is) d before placed was counted =
      by_first (is_end i.item) refl (fault_at d.width d.height (place_of i.line d i.item)) refl (λ after all more drawn. said is after all more drawn counted.1)
    where
      same : fault_at width height (placed_at i.line before i.item) ≡ fault_at d.width d.height (place_of i.line d i.item)
      same = fault_same d before placed was i.line i.item counted.0

      no_kind : (o : Option RleFaultKind) → (o >>= at_line i.line) ≡ None → o ≡ None
      no_kind None e = refl
      no_kind (Some kind) e = absurd (none-some _ (sym e))

      by_first : (e : Bool) → is_end i.item ≡ e → (o : Option RleFaultAt) → fault_at d.width d.height (place_of i.line d i.item) ≡ o → ((after : Drawn) (all : List Item) (more : List Placed) → IsDrawn width height after all more → IsSaid all more is (drawn_with after is)) → IsSaid before placed (i ∷ is) (reached_by e o d i.item (λ after. drawn_with after is))
      by_first true e o f next =
          (ap (filter_map (fault_at width height)) (no_places before i is e), ap (λ b. b || ends_in is) e, (before, subst (IsDrawn width height d before) (sym (append-nil placed) ∙ ap (λ ps. placed ++ ps) (sym (no_places before i is e))) was))
      by_first false e (Some fault) f next =
          ap (λ ps. slice_get (filter_map (fault_at width height) ps) 0) (more_places before i is e) ∙ ap (λ o. slice_get (cons_option o (faults_after (i.item ∷ before) is)) 0) (same ∙ f)
      by_first false e None f next =
          said_more before placed i is e (same ∙ f) (drawn_with (drawn_after i.item d) is)
          (next (drawn_after i.item d) (i.item ∷ before) (placed ++ placed_at i.line before i.item ∷ []) (item_drawn d before placed was i.line i.item counted.0 e (no_kind (item_fault d.width d.height (place_of i.line d i.item) i.item) f)))

-- the drawing of an empty box

no_height : (w h : ℕ) → w ≢ 0 → w * h ≡ 0 → h ≡ 0
no_height w h some area = grind arith

pub blank_grid : (width height : ℕ) → IsGrid width height (if width == 0 then [] else replicate height (replicate width Empty))
blank_grid width height = by_width (width == 0) refl
  where
    by_width : (b : Bool) → (width == 0) ≡ b → IsGrid width height (if b then [] else replicate height (replicate width Empty))
    by_width true e =
        let none : width ≡ 0 = eqb-true width 0 e in
        record {
          long = λ k row h. absurd (omega (arith, h));
          many = λ some. absurd (some (ap (λ w. w * height) none ∙ zero-mul height));
          none = λ _. refl;
        }
    by_width false e =
        let some : width ≢ 0 = λ z. true≢false (sym (ap (λ w. w == 0) z) ∙ e) in
        record {
          long = λ k row h. let at : get_or (replicate height (replicate width Empty)) k row ≡ replicate width Empty = get_or-replicate height k (replicate width Empty) row (omega (arith, h, length-replicate height (replicate width Empty))) in ap length at ∙ length-replicate width Empty;
          many = λ _. length-replicate height (replicate width Empty);
          none = λ area. let no : height ≡ 0 = no_height width height some area in ap (λ h. replicate h (replicate width Empty)) no;
        }

blank_cell : (width height x y : ℕ) → x < width → y < height → get_or (get_or (if width == 0 then [] else replicate height (replicate width Empty)) y []) x Empty ≡ Empty
blank_cell width height x y h k =
    let some : (width == 0) ≡ false = grind (arith, nat_tests) in
    ap (λ b. get_or (get_or (if b then [] else replicate height (replicate width Empty)) y []) x Empty) some
    ∙ ap (λ row. get_or row x Empty) (get_or-replicate height y (replicate width Empty) [] k)
    ∙ get_or-replicate width x Empty Empty h

pub blank_drawn : (width height : ℕ) → IsDrawn width height (blank_drawing width height) [] []
blank_drawn width height = record {
  wide = refl;
  high = refl;
  column = refl;
  row = refl;
  grid = blank_grid width height;
  cells = λ x y h k. blank_cell width height x y h k;
  free = λ x y h k ahead. refl;
}

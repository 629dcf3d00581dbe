-- No two runs of cells overlap.
use Rattle.std.proofs.Common.{ℕ, zero, suc, ◌+◌, ◌≡◌, ◌≢◌, ◌<◌, ◌≤◌, inl, inr, ◌⊎◌, refl, sym, Bool, true, false, not, ◌&&◌, ◌==◌, List, [], ◌∷◌, length, take, arith}
use Rattle.std.specs.Prelude.{if◌then◌else◌, nat_le, nat_lt, Some, None, filter_map, take_while}
use Rattle.std.specs.List.{prefix_len, cons_option}
use Rattle.std.proofs.lemmas.Bool.{and_parts, eqb-true, leb-true, ltb-true}
use Rattle.ww_rule.specs.declared.pattern.State.{State}
use Rattle.pattern_reading.specs.Header.{lines_after_header}
use Rattle.pattern_reading.specs.Items.{Item, Cells, RowEnds, End, Blank, CutOff, NoItem, LineItem, IsCounted, column_after, is_end, placed_after, row_after}
use Rattle.pattern_reading.specs.Pattern.{items_after_header, state_in}
use Rattle.pattern_reading.specs.Laws.{HasOneRun}
use Rattle.pattern_reading.proofs.Places.{next_place}
use Rattle.pattern_reading.proofs.Counted.{AreCounted, lines_counted}

front_counted : (n : ℕ) (items : List LineItem) → AreCounted items → AreCounted (take n items)
front_counted zero items h = tt
front_counted (suc n) [] h = tt
front_counted (suc n) (i ∷ items) h = (h.0, front_counted n items h.1)

-- a cell before the place at cx and cy
abbrev IsBefore : ℕ → ℕ → ℕ → ℕ → Type 0
IsBefore x y cx cy = (y < cy) ⊎ ((y ≡ cy) × (x < cx))

-- the states that the items give to a cell
abbrev states : ℕ → ℕ → List Item → List LineItem → List State
states x y before items = filter_map (λ p. state_in x y p p.item) (placed_after before items)

covers : (x y cx cy n : ℕ) → (cy == y && nat_le cx x && nat_lt x (cx + n)) ≡ true → (cy ≡ y) × (cx ≤ x) × (x < cx + n)
covers x y cx cy n e =
    let outer = and_parts (cy == y && nat_le cx x) (nat_lt x (cx + n)) e in
    let inner = and_parts (cy == y) (nat_le cx x) outer.0 in
    (eqb-true cy y inner.0, leb-true cx x inner.1, ltb-true x (cx + n) outer.1)

not_before : (x y cx cy : ℕ) → IsBefore x y cx cy → cy ≡ y → cx ≤ x → ⊥
not_before x y cx cy (inl h) e l = omega (arith, h, e)
not_before x y cx cy (inr h) e l = let less = h.1 in omega (arith, less, l)

run_before : (x y cx cy n : ℕ) (state : State) (rest : List State) → IsBefore x y cx cy → rest ≡ [] → cons_option (if cy == y && nat_le cx x && nat_lt x (cx + n) then Some state else None) rest ≡ []
run_before x y cx cy n state rest h e = by_test (cy == y && nat_le cx x && nat_lt x (cx + n)) refl
  where
    by_test : (b : Bool) → (cy == y && nat_le cx x && nat_lt x (cx + n)) ≡ b → cons_option (if b then Some state else None) rest ≡ []
    by_test true k = let c = covers x y cx cy n k in absurd (not_before x y cx cy h c.0 c.1)
    by_test false k = e

later_column : (x y cx cy n : ℕ) → IsBefore x y cx cy → IsBefore x y (cx + n) cy
later_column x y cx cy n (inl h) = inl h
later_column x y cx cy n (inr h) = let less = h.1 in inr (h.0, omega (arith, less))

later_row : (x y cx cy n : ℕ) → n ≢ 0 → IsBefore x y cx cy → IsBefore x y 0 (cy + n)
later_row x y cx cy n some (inl h) = inl (omega (arith, h))
later_row x y cx cy zero some (inr h) = absurd (some refl)
later_row x y cx cy (suc n) some (inr h) = let same = h.0 in inl (omega (arith, same))

-- none for a cell before them
none_before : (x y : ℕ) (items : List LineItem) (before : List Item) → AreCounted items → IsBefore x y (column_after before) (row_after before) → states x y before items ≡ []
none_before x y [] before h k = refl
none_before x y (i ∷ items) before h k = by_item i.item h.0 (λ j. none_before x y items (i.item ∷ before) h.1 j)
  where
    by_item : (item : Item) → IsCounted item → (IsBefore x y (column_after (item ∷ before)) (row_after (item ∷ before)) → states x y (item ∷ before) items ≡ []) → cons_option (state_in x y (record { line = i.line; x = column_after before; y = row_after before; item = item }) item) (states x y (item ∷ before) items) ≡ []
    by_item (Cells n state) some rest =
        let next = next_place (Cells n state) before in
        run_before x y (column_after before) (row_after before) n state _ k (rest (rw (next.0, next.1) (later_column x y (column_after before) (row_after before) n k)))
    by_item (RowEnds n) some rest =
        let next = next_place (RowEnds n) before in
        rest (rw (next.0, next.1) (later_row x y (column_after before) (row_after before) n (λ e. omega (arith, some, e)) k))
    by_item End some rest = let next = next_place End before in rest (rw (next.0, next.1) k)
    by_item Blank some rest = let next = next_place Blank before in rest (rw (next.0, next.1) k)
    by_item CutOff some rest = let next = next_place CutOff before in rest (rw (next.0, next.1) k)
    by_item NoItem some rest = let next = next_place NoItem before in rest (rw (next.0, next.1) k)

run_alone : (x y cx cy n : ℕ) (state : State) (rest : List State) → (IsBefore x y (cx + n) cy → rest ≡ []) → length rest ≤ 1 → length (cons_option (if cy == y && nat_le cx x && nat_lt x (cx + n) then Some state else None) rest) ≤ 1
run_alone x y cx cy n state rest none one = by_test (cy == y && nat_le cx x && nat_lt x (cx + n)) refl
  where
    by_test : (b : Bool) → (cy == y && nat_le cx x && nat_lt x (cx + n)) ≡ b → length (cons_option (if b then Some state else None) rest) ≤ 1
    by_test true k =
        let c = covers x y cx cy n k in
        let e : rest ≡ [] = none (inr (sym c.0, c.2)) in
        rw e (omega arith)
    by_test false k = one

at_most_one : (x y : ℕ) (items : List LineItem) (before : List Item) → AreCounted items → length (states x y before items) ≤ 1
at_most_one x y [] before h = omega arith
at_most_one x y (i ∷ items) before h = by_item i.item (λ j. none_before x y items (i.item ∷ before) h.1 j) (at_most_one x y items (i.item ∷ before) h.1)
  where
    by_item : (item : Item) → (IsBefore x y (column_after (item ∷ before)) (row_after (item ∷ before)) → states x y (item ∷ before) items ≡ []) → length (states x y (item ∷ before) items) ≤ 1 → length (cons_option (state_in x y (record { line = i.line; x = column_after before; y = row_after before; item = item }) item) (states x y (item ∷ before) items)) ≤ 1
    by_item (Cells n state) none one =
        let next = next_place (Cells n state) before in
        run_alone x y (column_after before) (row_after before) n state _ (λ j. none (rw (next.0, next.1) j)) one
    by_item (RowEnds n) none one = one
    by_item End none one = one
    by_item Blank none one = one
    by_item CutOff none one = one
    by_item NoItem none one = one

pub one_run : (text : List ℕ) → HasOneRun text
one_run text x y =
    at_most_one x y (take_while (λ i. not (is_end i.item)) (items_after_header text)) [] (front_counted (prefix_len (λ i. not (is_end i.item)) (items_after_header text)) (items_after_header text) (lines_counted (lines_after_header text)))

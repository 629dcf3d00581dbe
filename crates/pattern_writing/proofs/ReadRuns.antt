-- Runs of tags, as a reader places them, spell what the tags spell one by one.
use Rattle.std.proofs.Common.{ℕ, zero, suc, ◌+◌, ◌-◌, ◌≡◌, ◌≢◌, ◌<◌, ◌≤◌, refl, sym, ap, ◌∙◌, Bool, true, false, true≢false, ◌&&◌, ◌==◌, List, [], ◌∷◌, ◌++◌, map, replicate, arith}
use Rattle.std.specs.Prelude.{if◌then◌else◌, nat_le, nat_lt, Option, Some, None, filter_map, slice_get, unwrap_or}
use Rattle.std.specs.List.{AllByRecursion, cons_option}
use Rattle.std.proofs.lemmas.Bool.{and_from, and_parts, eqb-true, le-leb, leb-true, lt-ltb, ltb-true}
use Rattle.ww_rule.specs.declared.pattern.State.{State}
use Rattle.ww_rule.specs.declared.pattern.State.TheVariants.{Empty}
use Rattle.pattern_reading.specs.Items.{Item, Cells, RowEnds, Placed, column_after, placed_after, row_after}
use Rattle.pattern_reading.specs.Pattern.{state_at, state_in}
use Rattle.pattern_reading.proofs.Places.{next_place}
use Rattle.pattern_writing.specs.Writer as writer
use Rattle.pattern_writing.specs.Laws.{spelled}
use Rattle.pattern_writing.proofs.Look.{Mark, RowEnd, Of, look, mark_of}
use Rattle.pattern_reading.proofs.SpelledPattern.{on_one_line}
use Rattle.std.proofs.lemmas.Bool.{ne_eqb, eq-eqb}

-- what a run of a mark stands for
abbrev pub item : ℕ → Mark → Item
item n RowEnd = RowEnds n
item n (Of state) = Cells n state

-- a run is not empty
abbrev pub IsRun : writer.TagRun → Type 0
IsRun run = run.count ≢ 0

abbrev pub item_of : writer.TagRun → Item
item_of run = item run.count (mark_of run.tag)

-- on one line
-- the state by the first of some items, or by the rest
abbrev first_or : Option State → State → State
first_or None rest = rest
first_or (Some state) rest = state

state_first : (x y : ℕ) (p : Placed) (ps : List Placed) → state_at (p ∷ ps) x y ≡ first_or (state_in x y p p.item) (state_at ps x y)
state_first x y p ps = by_state (state_in x y p p.item) (filter_map (λ q. state_in x y q q.item) ps)
  where
    by_state : (o : Option State) (found : List State) → unwrap_or (slice_get (cons_option o found) 0) Empty ≡ first_or o (unwrap_or (slice_get found 0) Empty)
    by_state None found = refl
    by_state (Some state) found = refl

-- a run of cells
module _ (t : ℕ) (state : State) (e : mark_of t ≡ Of state) where
  in_run : (n : ℕ) (ts : List ℕ) (cx cy k : ℕ) → k < n → look (replicate n t ++ ts) cx cy (cx + k) cy ≡ state
  in_run zero ts cx cy k l = absurd (omega (arith, l))
  in_run (suc n) ts cx cy zero l =
      let here : cx ≡ cx + 0 = omega arith in
      rw (e, eq-eqb cy cy refl, ← here, eq-eqb cx cx refl) refl
  in_run (suc n) ts cx cy (suc k) l =
      let there : cx + suc k ≡ cx + 1 + k = omega arith in
      rw (e, eq-eqb cy cy refl, there, ne_eqb cx (cx + 1 + k) (λ h. omega (arith, h))) (in_run n ts (cx + 1) cy k (omega (arith, l)))

  out_of_run : (n : ℕ) (ts : List ℕ) (cx cy x y : ℕ) → (cy ≡ y → cx ≤ x → x < cx + n → ⊥) → look (replicate n t ++ ts) cx cy x y ≡ look ts (cx + n) cy x y
  out_of_run zero ts cx cy x y h = let here : cx ≡ cx + 0 = omega arith in ap (λ c. look ts c cy x y) here
  out_of_run (suc n) ts cx cy x y h =
      let there : cx + 1 + n ≡ cx + suc n = omega arith in
      rw (e, not_here (cy == y && cx == x) refl) (
      out_of_run n ts (cx + 1) cy x y (λ a b c. h a (omega (arith, b)) (omega (arith, c))) ∙ ap (λ c. look ts c cy x y) there)
    where
      not_here : (b : Bool) → (cy == y && cx == x) ≡ b → b ≡ false
      not_here false k = refl
      not_here true k =
          let parts = and_parts (cy == y) (cx == x) k in
          let row : cy ≡ y = eqb-true cy y parts.0 in
          let column : cx ≡ x = eqb-true cx x parts.1 in
          absurd (h row (omega (arith, column)) (omega (arith, column)))

  cells_state : (n : ℕ) (ts : List ℕ) (cx cy x y : ℕ) → first_or (if cy == y && nat_le cx x && nat_lt x (cx + n) then Some state else None) (look ts (cx + n) cy x y) ≡ look (replicate n t ++ ts) cx cy x y
  cells_state n ts cx cy x y = by_test (cy == y && nat_le cx x && nat_lt x (cx + n)) refl
    where
      by_test : (b : Bool) → (cy == y && nat_le cx x && nat_lt x (cx + n)) ≡ b → first_or (if b then Some state else None) (look ts (cx + n) cy x y) ≡ look (replicate n t ++ ts) cx cy x y
      by_test false k =
          sym (out_of_run n ts cx cy x y (λ a b c. true≢false (sym (and_from (cy == y && nat_le cx x) (nat_lt x (cx + n)) (and_from (cy == y) (nat_le cx x) (ap (λ r. cy == r) (sym a) ∙ eq-eqb cy cy refl) (le-leb cx x b)) (lt-ltb x (cx + n) c)) ∙ k)))
      by_test true k =
          let parts = and_parts (cy == y && nat_le cx x) (nat_lt x (cx + n)) k in
          let place = and_parts (cy == y) (nat_le cx x) parts.0 in
          let row : cy ≡ y = eqb-true cy y place.0 in
          let low : cx ≤ x = leb-true cx x place.1 in
          let high : x < cx + n = ltb-true x (cx + n) parts.1 in
          let column : cx + (x - cx) ≡ x = omega (arith, low) in
          sym (ap (λ r. look (replicate n t ++ ts) cx cy x r) (sym row) ∙ ap (λ c. look (replicate n t ++ ts) cx cy c cy) (sym column) ∙ in_run n ts cx cy (x - cx) (omega (arith, low, high)))

-- a run of row ends
module _ (t : ℕ) (e : mark_of t ≡ RowEnd) where
  ends_from_start : (n : ℕ) (ts : List ℕ) (cy x y : ℕ) → look (replicate n t ++ ts) 0 cy x y ≡ look ts 0 (cy + n) x y
  ends_from_start zero ts cy x y = let here : cy ≡ cy + 0 = omega arith in ap (λ r. look ts 0 r x y) here
  ends_from_start (suc n) ts cy x y =
      let there : cy + 1 + n ≡ cy + suc n = omega arith in
      rw e (ends_from_start n ts (cy + 1) x y ∙ ap (λ r. look ts 0 r x y) there)

  ends_state : (n : ℕ) (ts : List ℕ) (cx cy x y : ℕ) → n ≢ 0 → look ts 0 (cy + n) x y ≡ look (replicate n t ++ ts) cx cy x y
  ends_state zero ts cx cy x y some = absurd (some refl)
  ends_state (suc n) ts cx cy x y some =
      let there : cy + 1 + n ≡ cy + suc n = omega arith in
      rw e (ap (λ r. look ts 0 r x y) (sym there) ∙ sym (ends_from_start n ts (cy + 1) x y))

-- the place where the next run begins
abbrev pub Stands : List Item → ℕ → ℕ → Type 0
Stands before cx cy = (column_after before ≡ cx) × (row_after before ≡ cy)

pub after_cells : (n : ℕ) (state : State) (before : List Item) (cx cy : ℕ) → Stands before cx cy → Stands (Cells n state ∷ before) (cx + n) cy
after_cells n state before cx cy h = let next = next_place (Cells n state) before in (next.0 ∙ ap (λ c. c + n) h.0, next.1 ∙ h.1)

pub after_ends : (n : ℕ) (before : List Item) (cx cy : ℕ) → Stands before cx cy → Stands (RowEnds n ∷ before) 0 (cy + n)
after_ends n before cx cy h = let next = next_place (RowEnds n) before in (next.0, next.1 ∙ ap (λ r. r + n) h.1)

abbrev pub placed : List Item → List writer.TagRun → List Placed
placed before runs = placed_after before (on_one_line (map item_of runs))

-- the states of the runs
pub run_states : (runs : List writer.TagRun) (before : List Item) (cx cy x y : ℕ) → AllByRecursion IsRun runs → Stands before cx cy → state_at (placed before runs) x y ≡ look (spelled runs) cx cy x y
run_states [] before cx cy x y h s = refl
run_states (run ∷ runs) before cx cy x y h s =
    state_first x y (record { line = 0; x = column_after before; y = row_after before; item = item_of run }) (placed (item_of run ∷ before) runs)
    ∙ by_mark (mark_of run.tag) refl (λ a b k. run_states runs (item_of run ∷ before) a b x y h.1 k)
  where
    by_mark : (m : Mark) → mark_of run.tag ≡ m → ((a b : ℕ) → Stands (item_of run ∷ before) a b → state_at (placed (item_of run ∷ before) runs) x y ≡ look (spelled runs) a b x y) → first_or (state_in x y (record { line = 0; x = column_after before; y = row_after before; item = item_of run }) (item_of run)) (state_at (placed (item_of run ∷ before) runs) x y) ≡ look (replicate run.count run.tag ++ spelled runs) cx cy x y
    by_mark RowEnd e rest =
        let there : Stands (item_of run ∷ before) 0 (cy + run.count) = rw e (after_ends run.count before cx cy s) in
        let k = rest 0 (cy + run.count) there in
        rw k (rw e (ends_state run.tag e run.count (spelled runs) cx cy x y h.0))
    by_mark (Of state) e rest =
        let there : Stands (item_of run ∷ before) (cx + run.count) cy = rw e (after_cells run.count state before cx cy s) in
        let k = rest (cx + run.count) cy there in
        rw k (rw (e, s.0, s.1) (cells_state run.tag state e run.count (spelled runs) cx cy x y))

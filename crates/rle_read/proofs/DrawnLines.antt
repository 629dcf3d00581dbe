-- Items drawn line by line.
use Rattle.std.proofs.Common.{ℕ, ◌<◌, ◌≡◌, ◌≢◌, refl, sym, ap, ap₂, ◌∙◌, Bool, true, false, List, [], ◌∷◌, ◌++◌, map, get_or, set}
use Rattle.std.specs.Prelude.{Option, Some, None}
use Rattle.ww_rule.specs.declared.pattern.State.{State}
use Rattle.ww_rule.specs.declared.pattern.State.TheVariants.{Empty, Head, Tail, Conductor}
use Rattle.ww_rule.specs.Grid.{IsGrid}
use Rattle.pattern_reading.specs.declared.faults.RleFaultKind.{RleFaultKind}
use Rattle.pattern_reading.specs.Lines.{Line}
use Rattle.pattern_reading.specs.Numbers.{◌>>=◌}
use Rattle.pattern_reading.specs.Header.{is_comment}
use Rattle.pattern_reading.specs.Items.{Item, Cells, RowEnds, End, Blank, CutOff, NoItem, LineItem, TaggedDigits, IsCounted, item_in, pieces_of, is_end, items_of_line, items_of_lines}
use Rattle.pattern_reading.specs.Pattern.{RleFaultAt, fault_at, item_fault, run_fault}
use Rattle.rle_read.specs.declared.items.Item as read
use Rattle.rle_read.specs.Texts.{item_of}
use Rattle.rle_read.specs.Drawn.{Drawn, Reached, Fault, Ended, Open, reached_by, drawn_with, drawn_after, place_of}
use Rattle.ww_rule.specs.Cuts.{with_run}
use Rattle.rle_read.proofs.Runs.{run_inside, run_in_rows, run_grid}

-- the items of bytes of a line that is no comment
abbrev pub items_from : Line → List ℕ → List LineItem
items_from line bytes = map (λ piece. record { line = line.number; item = item_in line.is_ended piece.digits piece.tag }) (pieces_of bytes)

-- what is drawn with more items, where the first are all drawn
abbrev pub going_on : Reached → List LineItem → Reached
going_on (Fault fault) items = Fault fault
going_on (Ended d) items = Ended d
going_on (Open d) items = drawn_with d items

reached_on : (e : Bool) (o : Option RleFaultAt) (d : Drawn) (item : Item) (xs ys : List LineItem) → ((after : Drawn) → drawn_with after (xs ++ ys) ≡ going_on (drawn_with after xs) ys) → reached_by e o d item (λ after. drawn_with after (xs ++ ys)) ≡ going_on (reached_by e o d item (λ after. drawn_with after xs)) ys
reached_on true o d item xs ys h = refl
reached_on false (Some fault) d item xs ys h = refl
reached_on false None d item xs ys h = h (drawn_after item d)

pub drawn_with_append : (d : Drawn) (xs ys : List LineItem) → drawn_with d (xs ++ ys) ≡ going_on (drawn_with d xs) ys
drawn_with_append d [] ys = refl
drawn_with_append d (x ∷ xs) ys = reached_on (is_end x.item) (fault_at d.width d.height (place_of x.line d x.item)) d x.item xs ys (λ after. drawn_with_append after xs ys)

-- the first item of some decides how far they are drawn
open_first : (d : Drawn) (i : LineItem) (is : List LineItem) → is_end i.item ≡ false → fault_at d.width d.height (place_of i.line d i.item) ≡ None → drawn_with d (i ∷ is) ≡ drawn_with (drawn_after i.item d) is
open_first d i is e f = ap₂ (λ e o. reached_by e o d i.item (λ after. drawn_with after is)) e f

fault_first : (d : Drawn) (i : LineItem) (is : List LineItem) (fault : RleFaultAt) → is_end i.item ≡ false → fault_at d.width d.height (place_of i.line d i.item) ≡ Some fault → drawn_with d (i ∷ is) ≡ Fault fault
fault_first d i is fault e f = ap₂ (λ e o. reached_by e o d i.item (λ after. drawn_with after is)) e f

end_first : (d : Drawn) (i : LineItem) (is : List LineItem) → is_end i.item ≡ true → drawn_with d (i ∷ is) ≡ Ended d
end_first d i is e = ap (λ e. reached_by e (fault_at d.width d.height (place_of i.line d i.item)) d i.item (λ after. drawn_with after is)) e

-- an item's fault does not depend on its line
fault_on : (width height n : ℕ) (d : Drawn) (item at : Item) → item_fault width height (place_of n d at) item ≡ item_fault width height (place_of 0 d at) item
fault_on width height n d (Cells k Empty) at = refl
fault_on width height n d (Cells k Head) at = refl
fault_on width height n d (Cells k Tail) at = refl
fault_on width height n d (Cells k Conductor) at = refl
fault_on width height n d (RowEnds k) at = refl
fault_on width height n d End at = refl
fault_on width height n d Blank at = refl
fault_on width height n d CutOff at = refl
fault_on width height n d NoItem at = refl

pub fault_of_kind : (n : ℕ) (d : Drawn) (item : Item) (o : Option RleFaultKind) → item_fault d.width d.height (place_of 0 d item) item ≡ o → fault_at d.width d.height (place_of n d item) ≡ (o >>= λ kind. Some (record { kind = kind; line = n }))
fault_of_kind n d item o e = ap (λ o. o >>= λ kind. Some (record { kind = kind; line = n })) (fault_on d.width d.height n d item item ∙ e)

module _ (line : Line) (d : Drawn) (bytes rest : List ℕ) (piece : TaggedDigits) (item : Item) (e : pieces_of bytes ≡ piece ∷ pieces_of rest) (is : item ≡ item_in line.is_ended piece.digits piece.tag) where
  first_is : items_from line bytes ≡ record { line = line.number; item = item } ∷ items_from line rest
  first_is = ap (map (λ piece. record { line = line.number; item = item_in line.is_ended piece.digits piece.tag })) e ∙ ap (λ i. record { line = line.number; item = i } ∷ items_from line rest) (sym is)

  pub next_item : (after : Drawn) → is_end item ≡ false → item_fault d.width d.height (place_of 0 d item) item ≡ None → after ≡ drawn_after item d → drawn_with after (items_from line rest) ≡ drawn_with d (items_from line bytes)
  next_item after no_end sound made =
      ap (λ a. drawn_with a (items_from line rest)) made
      ∙ sym (ap (drawn_with d) first_is ∙ open_first d (record { line = line.number; item = item }) (items_from line rest) no_end (fault_of_kind line.number d item None sound))

  pub faulty_item : (kind : RleFaultKind) → is_end item ≡ false → item_fault d.width d.height (place_of 0 d item) item ≡ Some kind → Fault (record { kind = kind; line = line.number }) ≡ drawn_with d (items_from line bytes)
  faulty_item kind no_end faulty =
      sym (ap (drawn_with d) first_is ∙ fault_first d (record { line = line.number; item = item }) (items_from line rest) (record { kind = kind; line = line.number }) no_end (fault_of_kind line.number d item (Some kind) faulty))

  pub last_item : is_end item ≡ true → Ended d ≡ drawn_with d (items_from line bytes)
  last_item ends = sym (ap (drawn_with d) first_is ∙ end_first d (record { line = line.number; item = item }) (items_from line rest) ends)

-- a line that is no comment, and one that is
pub line_items : (line : Line) → is_comment line ≡ false → items_of_line line ≡ items_from line line.bytes
line_items line e = rw e refl

-- what an item that is read stands for
pub not_end : (r : read.Item) → (r ≢ read.TheVariants.End) → is_end (item_of r) ≡ false
not_end (read.TheVariants.Cells n state) h = refl
not_end (read.TheVariants.RowEnds n) h = refl
not_end read.TheVariants.End h = absurd (h refl)
not_end read.TheVariants.Blank h = refl
not_end read.TheVariants.CutOff h = refl
not_end read.TheVariants.NoItem h = refl

run_kept : (d : Drawn) (n : ℕ) (state : State) → IsGrid d.width d.height d.rows → 0 < n → (state ≢ Empty) → run_fault d.width d.height (place_of 0 d (Cells n state)) n state ≡ None → IsGrid d.width d.height (set d.rows d.y (with_run (get_or d.rows d.y []) d.x n state))
run_kept d n state grid some drawn sound =
    let box = run_inside d.width d.height (place_of 0 d (Cells n state)) n state drawn sound in
    let fits = run_in_rows d.width d.height d.rows d.x d.y n grid some box.0 box.1 in
    run_grid d.width d.height d.rows d.x d.y n state grid fits.0 fits.1

-- an item keeps the rows a box
pub drawn_grid : (d : Drawn) (item : Item) → IsGrid d.width d.height d.rows → IsCounted item → item_fault d.width d.height (place_of 0 d item) item ≡ None → IsGrid (drawn_after item d).width (drawn_after item d).height (drawn_after item d).rows
drawn_grid d (Cells n Empty) grid counted sound = grid
drawn_grid d (Cells n Head) grid counted sound = run_kept d n Head grid counted (λ e. cc) sound
drawn_grid d (Cells n Tail) grid counted sound = run_kept d n Tail grid counted (λ e. cc) sound
drawn_grid d (Cells n Conductor) grid counted sound = run_kept d n Conductor grid counted (λ e. cc) sound
drawn_grid d (RowEnds n) grid counted sound = grid
drawn_grid d End grid counted sound = grid
drawn_grid d Blank grid counted sound = grid
drawn_grid d CutOff grid counted sound = grid
drawn_grid d NoItem grid counted sound = grid

-- the lines after one whose items are drawn so far
pub after_line : (d : Drawn) (line : Line) (all more : List Line) (reached : Reached) → all ≡ line ∷ more → reached ≡ drawn_with d (items_of_line line) → drawn_with d (items_of_lines all) ≡ going_on reached (items_of_lines more)
after_line d line all more reached e is =
    ap (λ ls. drawn_with d (items_of_lines ls)) e
    ∙ drawn_with_append d (items_of_line line) (items_of_lines more)
    ∙ ap (λ r. going_on r (items_of_lines more)) (sym is)

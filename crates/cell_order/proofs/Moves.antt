-- Cells that come one after another.
use Rattle.std.proofs.Common.{◌≡◌, refl, sym, ◌∙◌, ap, ap₂, ℕ, ◌+◌, ◌<◌, Bool, true, List, [], ◌∷◌, ◌++◌, length, get_or, Option, Some, None, option_map, subst, slice_set, slice_get, map, ⊎_elim, ◌≢◌, arith}
use Rattle.std.proofs.lemmas.Bool.{lt-ltb, cases_eq}
use Rattle.std.proofs.lemmas.List.{length_push, length-append, get_or_append_left, get_or-set_same, get_or-set_other}
use Rattle.std.proofs.lemmas.Option.{slice_get_within, slice_get-get_or, get_or_from_slice_get, none-some, same_Some}
use Rattle.lists.proofs.Appends.{slice_get_push}
use Rattle.lane_core.specs.declared.instr.Instr.{Instr}
use Rattle.cell_meaning.specs.Origins.{entry_source, cell_instr, maker_on}
use Rattle.cell_core.specs.declared.cells.Src.{Src}
use Rattle.cell_core.specs.declared.cells.Src.TheVariants.{Input, Latch, One, Zero, Cell as Made}
use Rattle.cell_core.specs.declared.cells.Cell.{Cell}
use Rattle.cell_core.specs.declared.cells.Cell.TheVariants.{Or, Xor, AndNot}
use Rattle.cell_core.specs.declared.list.CellList.{CellList}
use Rattle.cell_core.specs.Sources.{reads_there}
use Rattle.cell_core.specs.Meaning.{cell_bit, cell_bits, bit_in}
use Rattle.cell_core.proofs.Bits.{appending_keeps_bits, pushed_bit}
use Rattle.cell_core.proofs.Following.{∷-parts, and_not_follows, both, none_is_some, or_follows, ports_alike, xor_follows, ArePorts, CellFollows, Follows}
use Rattle.cell_core.proofs.Order.{in_order_push}
use Rattle.cell_core.proofs.OwnBits.{cell_in_order, bit_of_cell}
use Rattle.cell_core.specs.Loops.{names_one}
use Rattle.cell_order.specs.Alike.{ComputeAlike}
use Rattle.cell_order.specs.Renamed.{Numbers, renamed, renamed_cell, AreRenamed}

-- ---- a source under the new numbers
pub follows : (list : CellList) (cells : List Cell) (numbers : Numbers) → AreRenamed list cells numbers → (src new : Src) → renamed numbers src ≡ Some new → Follows list cells src new
follows list cells numbers are (Input i) new e = subst (λ s. Follows list cells (Input i) s) (same_Some _ _ e) (record { there = λ made h. h; bit = λ inputs state. refl })
follows list cells numbers are (Latch i) new e = subst (λ s. Follows list cells (Latch i) s) (same_Some _ _ e) (record { there = λ made h. h; bit = λ inputs state. refl })
follows list cells numbers are One new e = subst (λ s. Follows list cells One s) (same_Some _ _ e) (record { there = λ made h. h; bit = λ inputs state. refl })
follows list cells numbers are Zero new e = subst (λ s. Follows list cells Zero s) (same_Some _ _ e) (record { there = λ made h. h; bit = λ inputs state. refl })
follows list cells numbers are (Made i) new e = known (get_or numbers i None) refl e where
  known : (n : Option ℕ) → get_or numbers i None ≡ n → option_map Made n ≡ Some new → Follows list cells (Made i) new
  known None at e = absurd (none-some new e)
  known (Some m) at e = subst (λ s. Follows list cells (Made i) s) (same_Some _ _ e) (record { there = λ made h. lt-ltb m (length cells) (are.there i m at); bit = are.bits i m at })

-- it keeps its entry, and the kind of the cell that makes it
record Renames (list : CellList) (cells : List Cell) (src new : Src) : Type 0 where
  entry : entry_source new ≡ entry_source src
  maker : (lane : ℕ) → maker_on cells lane new ≡ maker_on list.cells lane src

renames : (list : CellList) (cells : List Cell) (numbers : Numbers) → AreRenamed list cells numbers → (src new : Src) → renamed numbers src ≡ Some new → Renames list cells src new
renames list cells numbers are (Input i) new e = subst (λ s. Renames list cells (Input i) s) (same_Some _ _ e) (record { entry = refl; maker = λ lane. refl })
renames list cells numbers are (Latch i) new e = subst (λ s. Renames list cells (Latch i) s) (same_Some _ _ e) (record { entry = refl; maker = λ lane. refl })
renames list cells numbers are One new e = subst (λ s. Renames list cells One s) (same_Some _ _ e) (record { entry = refl; maker = λ lane. refl })
renames list cells numbers are Zero new e = subst (λ s. Renames list cells Zero s) (same_Some _ _ e) (record { entry = refl; maker = λ lane. refl })
renames list cells numbers are (Made i) new e = known (get_or numbers i None) refl e where
  known : (n : Option ℕ) → get_or numbers i None ≡ n → option_map Made n ≡ Some new → Renames list cells (Made i) new
  known None at e = absurd (none-some new e)
  known (Some m) at e = subst (λ s. Renames list cells (Made i) s) (same_Some _ _ e) (record { entry = refl; maker = are.makers i m at })

-- ---- a cell under the new numbers
cell_follows : (list : CellList) (cells : List Cell) (numbers : Numbers) → AreRenamed list cells numbers → (cell new : Cell) → renamed_cell numbers cell ≡ Some new → CellFollows list cells cell new
cell_follows list cells numbers are (Or a b) new e = or_follows list cells (renamed numbers) (follows list cells numbers are) a b new e
cell_follows list cells numbers are (Xor a b) new e = xor_follows list cells (renamed numbers) (follows list cells numbers are) a b new e
cell_follows list cells numbers are (AndNot a b) new e = and_not_follows list cells (renamed numbers) (follows list cells numbers are) a b new e

same_instr : (numbers : Numbers) (cell new : Cell) → renamed_cell numbers cell ≡ Some new → (lane : ℕ) → cell_instr lane new ≡ cell_instr lane cell
same_instr numbers (Or a b) new e lane = let (x, y, at_a, at_b, is) = both Or (renamed numbers a) (renamed numbers b) new e in ap (cell_instr lane) (sym is)
same_instr numbers (Xor a b) new e lane = let (x, y, at_a, at_b, is) = both Xor (renamed numbers a) (renamed numbers b) new e in ap (cell_instr lane) (sym is)
same_instr numbers (AndNot a b) new e lane = let (x, y, at_a, at_b, is) = both AndNot (renamed numbers a) (renamed numbers b) new e in ap (cell_instr lane) (sym is)

-- ---- a cell comes, at the end
front_kept : (cells rest : List Cell) (m : ℕ) (d : Cell) → m < length cells → slice_get (cells ++ rest) m ≡ slice_get cells m
front_kept cells rest m d low =
    slice_get-get_or (cells ++ rest) m d (let e = length-append cells rest in omega (arith, e, low))
    ∙ ap Some (get_or_append_left cells rest d m low) ∙ sym (slice_get-get_or cells m d low)

pub moved_more : (list : CellList) (cells : List Cell) (numbers : Numbers) → AreRenamed list cells numbers → (i : ℕ) (cell new : Cell) → slice_get list.cells i ≡ Some cell
    → renamed_cell numbers cell ≡ Some new → AreRenamed list (cells ++ new ∷ []) numbers
moved_more list cells numbers are i cell new at is =
    let f : CellFollows list cells cell new = cell_follows list cells numbers are cell new is in
    let within : i < length list.cells = slice_get_within list.cells i cell at in
    let reads : reads_there list.inputs (length list.starts) (0 + i) cell ≡ true =
    ap (λ c. reads_there list.inputs (length list.starts) (0 + i) c) (sym (get_or_from_slice_get list.cells i cell cell at))
    ∙ cell_in_order list.inputs (length list.starts) 0 list.cells i cell within list.in_order in
    let more : length (cells ++ new ∷ []) ≡ length cells + 1 = length_push cells new in
    record {
      in_order = in_order_push list.inputs (length list.starts) cells new are.in_order (f.there (0 + i) reads);
      there = λ k m e. let lt : m < length cells = are.there k m e in omega arith;
      bits = λ k m e inputs state.
          appending_keeps_bits cells (new ∷ []) inputs state 0 0 (Made m) (lt-ltb m (length cells) (are.there k m e)) ∙ are.bits k m e inputs state;
      makers = λ k m e lane. ap (option_map (cell_instr lane)) (front_kept cells (new ∷ []) m new (are.there k m e)) ∙ are.makers k m e lane;
    }

-- and its number is written down
pub moved_numbered : (list : CellList) (cells : List Cell) (numbers : Numbers) → AreRenamed list cells numbers → (i : ℕ) (cell new : Cell) → slice_get list.cells i ≡ Some cell
    → renamed_cell numbers cell ≡ Some new → (place : ℕ) → place ≡ length cells → i < length numbers → AreRenamed list (cells ++ new ∷ []) (slice_set numbers i (Some place))
moved_numbered list cells numbers are i cell new at is place last inside =
    let more : AreRenamed list (cells ++ new ∷ []) numbers = moved_more list cells numbers are i cell new at is in
    let f : CellFollows list cells cell new = cell_follows list cells numbers are cell new is in
    let within : i < length list.cells = slice_get_within list.cells i cell at in
    let long : length (cells ++ new ∷ []) ≡ length cells + 1 = length_push cells new in
    let same_place : (m : ℕ) → get_or (slice_set numbers i (Some place)) i None ≡ Some m → place ≡ m = λ m e. same_Some _ _ (sym (get_or-set_same numbers i (Some place) None inside) ∙ e) in
    let other : (k m : ℕ) → k ≢ i → get_or (slice_set numbers i (Some place)) k None ≡ Some m → get_or numbers k None ≡ Some m =
    λ k m ne e. sym (get_or-set_other numbers i k (Some place) None ne) ∙ e in
    let own : (inputs state : List Bool) → bit_in (cells ++ new ∷ []) inputs state (Made place) ≡ bit_in list.cells inputs state (Made i) =
    λ inputs state. pushed_bit inputs state cells new place (sym last) ∙ f.bit inputs state
    ∙ ap (cell_bit inputs state (cell_bits inputs state list.cells)) (sym (get_or_from_slice_get list.cells i cell cell at))
    ∙ sym (bit_of_cell list i cell inputs state within) in
    let own_maker : (lane : ℕ) → maker_on (cells ++ new ∷ []) lane (Made place) ≡ maker_on list.cells lane (Made i) =
    λ lane. ap (λ p. maker_on (cells ++ new ∷ []) lane (Made p)) last ∙ ap (option_map (cell_instr lane)) (slice_get_push cells new)
    ∙ ap Some (same_instr numbers cell new is lane) ∙ sym (ap (option_map (cell_instr lane)) at) in
    record {
      in_order = more.in_order;
      there = λ k m e. ⊎_elim
          (λ (h : k ≡ i). let p : place ≡ m = same_place m (ap (λ j. get_or (slice_set numbers i (Some place)) j None) (sym h) ∙ e) in omega arith)
          (λ (ne : k ≢ i). more.there k m (other k m ne e)) (cases_eq k i);
      bits = λ k m e inputs state. ⊎_elim
          (λ (h : k ≡ i). ap (λ p. bit_in (cells ++ new ∷ []) inputs state (Made p)) (sym (same_place m (ap (λ j. get_or (slice_set numbers i (Some place)) j None) (sym h) ∙ e)))
          ∙ own inputs state ∙ ap (λ j. bit_in list.cells inputs state (Made j)) (sym h))
          (λ (ne : k ≢ i). more.bits k m (other k m ne e) inputs state) (cases_eq k i);
      makers = λ k m e lane. ⊎_elim
          (λ (h : k ≡ i). ap (λ p. maker_on (cells ++ new ∷ []) lane (Made p)) (sym (same_place m (ap (λ j. get_or (slice_set numbers i (Some place)) j None) (sym h) ∙ e)))
          ∙ own_maker lane ∙ ap (λ j. maker_on list.cells lane (Made j)) (sym h))
          (λ (ne : k ≢ i). more.makers k m (other k m ne e) lane) (cases_eq k i);
    }

-- nets keep their entries, and the kinds of cells that make them
pub entries_follow : (list : CellList) (cells : List Cell) (numbers : Numbers) → AreRenamed list cells numbers → (sources found : List Src) → map (renamed numbers) sources ≡ map Some found
    → map entry_source found ≡ map entry_source sources
entries_follow list cells numbers are [] [] e = refl
entries_follow list cells numbers are [] (new ∷ found) e = absurd (none_is_some (λ s. Some s) new found e)
entries_follow list cells numbers are (src ∷ sources) [] e = absurd (none_is_some (renamed numbers) src sources (sym e))
entries_follow list cells numbers are (src ∷ sources) (new ∷ found) e =
    let parts : (renamed numbers src ≡ Some new) × (map (renamed numbers) sources ≡ map Some found) = ∷-parts e in
    ap₂ (λ (s : Option Src) (l : List (Option Src)). s ∷ l) (renames list cells numbers are src new parts.0).entry (entries_follow list cells numbers are sources found parts.1)

pub makers_follow : (list : CellList) (cells : List Cell) (numbers : Numbers) → AreRenamed list cells numbers → (sources found : List Src) → map (renamed numbers) sources ≡ map Some found
    → (lane : ℕ) → map (maker_on cells lane) found ≡ map (maker_on list.cells lane) sources
makers_follow list cells numbers are [] [] e lane = refl
makers_follow list cells numbers are [] (new ∷ found) e lane = absurd (none_is_some (λ s. Some s) new found e)
makers_follow list cells numbers are (src ∷ sources) [] e lane = absurd (none_is_some (renamed numbers) src sources (sym e))
makers_follow list cells numbers are (src ∷ sources) (new ∷ found) e lane =
    let parts : (renamed numbers src ≡ Some new) × (map (renamed numbers) sources ≡ map Some found) = ∷-parts e in
    ap₂ (λ (i : Option Instr) (l : List (Option Instr)). i ∷ l) ((renames list cells numbers are src new parts.0).maker lane)
    (makers_follow list cells numbers are sources found parts.1 lane)

-- ---- the list with the cells that have come
pub compute_alike : (list new : CellList) (cells : List Cell) (numbers : Numbers) (outs latches nets : List Src) → AreRenamed list cells numbers
    → new.inputs ≡ list.inputs → new.starts ≡ list.starts → new.cells ≡ cells → length new.cells ≡ length list.cells → names_one new ≡ names_one list
    → ArePorts (renamed numbers) list.outs outs new.outs → ArePorts (renamed numbers) list.latches latches new.latches → ArePorts (renamed numbers) list.nets nets new.nets → ComputeAlike list new
compute_alike list new cells numbers outs latches nets are inputs starts same_cells many one out latch net =
    record {
      inputs = inputs;
      starts = starts;
      cells = many;
      one = one;
      outs = ports_alike list cells (renamed numbers) (follows list cells numbers are) new.cells list.outs outs new.outs same_cells out;
      latches = ports_alike list cells (renamed numbers) (follows list cells numbers are) new.cells list.latches latches new.latches same_cells latch;
      nets = ports_alike list cells (renamed numbers) (follows list cells numbers are) new.cells list.nets nets new.nets same_cells net;
      entries = ap (map entry_source) net.is ∙ entries_follow list cells numbers are list.nets nets net.follow;
      makers = λ lane. ap₂ (λ (c : List Cell) (l : List Src). map (maker_on c lane) l) same_cells net.is ∙ makers_follow list cells numbers are list.nets nets net.follow lane;
    }

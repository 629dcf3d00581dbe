-- The sources on lanes have the lanes' bits.
use Rattle.std.proofs.Common.{◌≡◌, refl, sym, ◌∙◌, ap, ap₂, ℕ, zero, suc, ◌+◌, ◌<◌, ◌≤◌, Bool, true, false, ◌||◌, List, [], ◌∷◌, ◌++◌, map, fold, length, set, arith}
use Rattle.std.specs.List.{list_any}
use Rattle.std.proofs.lemmas.Bool.{and_parts, and_from, lt-ltb, or_parts}
use Rattle.std.proofs.lemmas.List.{map-set, length-set, length_push, append-nil}
use Rattle.lane_core.specs.declared.instr.Instr.{Instr}
use Rattle.lane_core.specs.declared.instr.Instr.TheVariants.{Swap, Fork, Xor, Or, AndNot}
use Rattle.lane_core.specs.declared.instr.Column.{Column}
use Rattle.lane_core.specs.Instrs.{lane_of, upper_bit, lower_bit, bit_on, after_instr, after_instrs}
use Rattle.lane_core.specs.Columns.{after_columns}
use Rattle.cell_core.specs.declared.cells.Src.{Src}
use Rattle.cell_core.specs.declared.cells.Src.TheVariants.{Zero, Cell as Made}
use Rattle.cell_core.specs.declared.cells.Cell.{Cell}
use Rattle.cell_core.specs.declared.cells.Cell.TheVariants as cell
use Rattle.cell_core.specs.Sources.{is_there, are_in_order, are_there, is_one, read_one}
use Rattle.cell_core.specs.Meaning.{bit_in}
use Rattle.cell_core.proofs.Bits.{appending_keeps_bits, pushed_bit}
use Rattle.cell_core.proofs.Order.{all_there_more, in_order_push}
use Rattle.circuit_plans.specs.Lifted.{Lanes, source_on, cells_made, upper_source, lower_source, lift_instr, lift_column, lift_columns}

-- the cells are in order, and all sources are there, and none is constant 1
pub record IsSound (inputs latches : ℕ) (lanes : Lanes) : Type 0 where
  pub order : are_in_order inputs latches 0 lanes.cells ≡ true
  pub there : are_there inputs latches (length lanes.cells) lanes.sources ≡ true
  pub cells_plain : read_one lanes.cells ≡ false
  pub plain : list_any is_one lanes.sources ≡ false

pub there_at : (inputs latches made : ℕ) (sources : List Src) (lane : ℕ) → are_there inputs latches made sources ≡ true → is_there inputs latches made (source_on sources lane) ≡ true
there_at inputs latches made [] lane h = refl
there_at inputs latches made (s ∷ sources) zero h = (and_parts _ _ h).0
there_at inputs latches made (s ∷ sources) (suc lane) h = there_at inputs latches made sources lane (and_parts _ _ h).1

pub there_set : (inputs latches made : ℕ) (sources : List Src) (lane : ℕ) (s : Src) → are_there inputs latches made sources ≡ true → is_there inputs latches made s ≡ true
    → are_there inputs latches made (set sources lane s) ≡ true
there_set inputs latches made [] lane s h new = refl
there_set inputs latches made (x ∷ sources) zero s h new = and_from _ _ new (and_parts _ _ h).1
there_set inputs latches made (x ∷ sources) (suc lane) s h new = and_from _ _ (and_parts _ _ h).0 (there_set inputs latches made sources lane s (and_parts _ _ h).1 new)

pub both_false : (a b : Bool) → a ≡ false → b ≡ false → (a || b) ≡ false
both_false false false e f = refl
both_false false true e f = f
both_false true b e f = e

pub plain_at : (sources : List Src) (lane : ℕ) → list_any is_one sources ≡ false → is_one (source_on sources lane) ≡ false
plain_at [] lane h = refl
plain_at (s ∷ sources) zero h = (or_parts (is_one s) (list_any is_one sources) h).0
plain_at (s ∷ sources) (suc lane) h = plain_at sources lane (or_parts (is_one s) (list_any is_one sources) h).1

pub plain_set : (sources : List Src) (lane : ℕ) (s : Src) → list_any is_one sources ≡ false → is_one s ≡ false → list_any is_one (set sources lane s) ≡ false
plain_set [] lane s h new = refl
plain_set (x ∷ sources) zero s h new = both_false (is_one s) (list_any is_one sources) new (or_parts (is_one x) (list_any is_one sources) h).1
plain_set (x ∷ sources) (suc lane) s h new =
    both_false (is_one x) (list_any is_one (set sources lane s)) (or_parts (is_one x) (list_any is_one sources) h).0 (plain_set sources lane s (or_parts (is_one x) (list_any is_one sources) h).1 new)

-- bits of sources that are there, where a cell comes
bits_kept : (inputs latches : ℕ) (cells more : List Cell) (sources : List Src) (row state : List Bool) → are_there inputs latches (length cells) sources ≡ true
    → map (bit_in (cells ++ more) row state) sources ≡ map (bit_in cells row state) sources
bits_kept inputs latches cells more [] row state h = refl
bits_kept inputs latches cells more (s ∷ sources) row state h =
    ap₂ (λ b bs. b ∷ bs) (appending_keeps_bits cells more row state latches inputs s (and_parts _ _ h).0) (bits_kept inputs latches cells more sources row state (and_parts _ _ h).1)

bit_at : (cells : List Cell) (sources : List Src) (row state : List Bool) (lane : ℕ) → bit_on (map (bit_in cells row state) sources) lane ≡ bit_in cells row state (source_on sources lane)
bit_at cells [] row state lane = refl
bit_at cells (s ∷ sources) row state zero = refl
bit_at cells (s ∷ sources) row state (suc lane) = bit_at cells sources row state lane

-- what a step has to know of an instruction: its cells are in order, its sources are there, and they have its bits
pub record IsStep (inputs latches : ℕ) (cells : List Cell) (a b : Src) (instr : Instr) : Type 0 where
  pub order : are_in_order inputs latches 0 (cells ++ cells_made instr a b) ≡ true
  pub upper_there : is_there inputs latches (length (cells ++ cells_made instr a b)) (upper_source instr (length cells) a b) ≡ true
  pub lower_there : is_there inputs latches (length (cells ++ cells_made instr a b)) (lower_source instr a b) ≡ true
  pub longer : length cells ≤ length (cells ++ cells_made instr a b)
  pub cells_plain : read_one (cells ++ cells_made instr a b) ≡ false
  pub upper_plain : is_one (upper_source instr (length cells) a b) ≡ false
  pub lower_plain : is_one (lower_source instr a b) ≡ false
  pub upper : (row state : List Bool) → bit_in (cells ++ cells_made instr a b) row state (upper_source instr (length cells) a b) ≡ upper_bit instr (bit_in cells row state a) (bit_in cells row state b)
  pub lower : (row state : List Bool) → bit_in (cells ++ cells_made instr a b) row state (lower_source instr a b) ≡ lower_bit instr (bit_in cells row state a) (bit_in cells row state b)

plain_push : (cells : List Cell) (c : Cell) → read_one cells ≡ false → read_one (c ∷ []) ≡ false → read_one (cells ++ c ∷ []) ≡ false
plain_push [] c h new = new
plain_push (x ∷ cells) c h new = both_false _ _ (or_parts _ _ h).0 (plain_push cells c (or_parts _ _ h).1 new)

module _ (inputs latches : ℕ) (cells : List Cell) (a b : Src) (order : are_in_order inputs latches 0 cells ≡ true) (a_there : is_there inputs latches (length cells) a ≡ true)
    (b_there : is_there inputs latches (length cells) b ≡ true) (plain : read_one cells ≡ false) (a_plain : is_one a ≡ false) (b_plain : is_one b ≡ false) where
  none : cells ++ [] ≡ cells
  none = append-nil cells

  moves : (instr : Instr) → cells_made instr a b ≡ [] → is_there inputs latches (length cells) (upper_source instr (length cells) a b) ≡ true
      → is_there inputs latches (length cells) (lower_source instr a b) ≡ true → is_one (upper_source instr (length cells) a b) ≡ false → is_one (lower_source instr a b) ≡ false
      → ((row state : List Bool) → bit_in cells row state (upper_source instr (length cells) a b) ≡ upper_bit instr (bit_in cells row state a) (bit_in cells row state b))
      → ((row state : List Bool) → bit_in cells row state (lower_source instr a b) ≡ lower_bit instr (bit_in cells row state a) (bit_in cells row state b))
      → IsStep inputs latches cells a b instr
  moves instr e up low up_plain low_plain upper lower =
      let same : cells ++ cells_made instr a b ≡ cells = ap (λ more. cells ++ more) e ∙ none in
      record {
        order = ap (are_in_order inputs latches 0) same ∙ order;
        upper_there = ap (λ l. is_there inputs latches (length l) (upper_source instr (length cells) a b)) same ∙ up;
        lower_there = ap (λ l. is_there inputs latches (length l) (lower_source instr a b)) same ∙ low;
        longer = omega (arith, ap length same);
        cells_plain = ap read_one same ∙ plain;
        upper_plain = up_plain;
        lower_plain = low_plain;
        upper = λ row state. ap (λ l. bit_in l row state (upper_source instr (length cells) a b)) same ∙ upper row state;
        lower = λ row state. ap (λ l. bit_in l row state (lower_source instr a b)) same ∙ lower row state;
      }

  makes : (instr : Instr) (c : Cell) → cells_made instr a b ≡ c ∷ [] → upper_source instr (length cells) a b ≡ Made (length cells) → lower_source instr a b ≡ Zero
      → are_in_order inputs latches 0 (cells ++ c ∷ []) ≡ true → read_one (c ∷ []) ≡ false
      → ((row state : List Bool) → bit_in (cells ++ c ∷ []) row state (Made (length cells)) ≡ upper_bit instr (bit_in cells row state a) (bit_in cells row state b))
      → ((x y : Bool) → lower_bit instr x y ≡ false)
      → IsStep inputs latches cells a b instr
  makes instr c e up low ordered new_plain upper dark =
      let same : cells ++ cells_made instr a b ≡ cells ++ c ∷ [] = ap (λ more. cells ++ more) e in
      let longer : length cells < length (cells ++ c ∷ []) = omega (arith, length_push cells c) in
      record {
        order = ap (are_in_order inputs latches 0) same ∙ ordered;
        upper_there = ap₂ (λ l s. is_there inputs latches (length l) s) same up ∙ lt-ltb (length cells) (length (cells ++ c ∷ [])) longer;
        lower_there = ap (λ s. is_there inputs latches (length (cells ++ cells_made instr a b)) s) low;
        longer = omega (arith, ap length same);
        cells_plain = ap read_one same ∙ plain_push cells c plain new_plain;
        upper_plain = ap is_one up;
        lower_plain = ap is_one low;
        upper = λ row state. ap₂ (λ l s. bit_in l row state s) same up ∙ upper row state;
        lower = λ row state. ap (λ s. bit_in (cells ++ cells_made instr a b) row state s) low ∙ sym (dark (bit_in cells row state a) (bit_in cells row state b));
      }

  pub is_step : (instr : Instr) → IsStep inputs latches cells a b instr
  is_step (Swap i) = moves (Swap i) refl b_there a_there b_plain a_plain (λ row state. refl) (λ row state. refl)
  is_step (Fork i) = moves (Fork i) refl a_there a_there a_plain a_plain (λ row state. refl) (λ row state. refl)
  is_step (Xor i) =
      makes (Xor i) (cell.Xor a b) refl refl refl (in_order_push inputs latches cells (cell.Xor a b) order (and_from _ _ a_there b_there)) (both_false _ _ (both_false _ _ a_plain b_plain) refl)
      (λ row state. pushed_bit row state cells (cell.Xor a b) (length cells) refl) (λ x y. refl)
  is_step (Or i) =
      makes (Or i) (cell.Or a b) refl refl refl (in_order_push inputs latches cells (cell.Or a b) order (and_from _ _ a_there b_there)) (both_false _ _ (both_false _ _ a_plain b_plain) refl)
      (λ row state. pushed_bit row state cells (cell.Or a b) (length cells) refl) (λ x y. refl)
  is_step (AndNot i) =
      makes (AndNot i) (cell.AndNot a b) refl refl refl (in_order_push inputs latches cells (cell.AndNot a b) order (and_from _ _ a_there b_there)) (both_false _ _ (both_false _ _ a_plain b_plain) refl)
      (λ row state. pushed_bit row state cells (cell.AndNot a b) (length cells) refl) (λ x y. refl)

-- what an instruction does to sources it does to their bits, and they stay sound
module _ (inputs latches : ℕ) (lanes : Lanes) (sound : IsSound inputs latches lanes) (instr : Instr) where
  abbrev a : Src
  a = source_on lanes.sources (lane_of instr)

  abbrev b : Src
  b = source_on lanes.sources (lane_of instr + 1)

  step : IsStep inputs latches lanes.cells a b instr
  step = is_step inputs latches lanes.cells a b sound.order (there_at inputs latches (length lanes.cells) lanes.sources (lane_of instr) sound.there)
      (there_at inputs latches (length lanes.cells) lanes.sources (lane_of instr + 1) sound.there) sound.cells_plain
      (plain_at lanes.sources (lane_of instr) sound.plain) (plain_at lanes.sources (lane_of instr + 1) sound.plain) instr

  pub still_sound : IsSound inputs latches (lift_instr lanes instr)
  still_sound = record {
    order = step.order;
    there = there_set inputs latches (length (lift_instr lanes instr).cells) _ (lane_of instr + 1) (lower_source instr a b)
        (there_set inputs latches (length (lift_instr lanes instr).cells) lanes.sources (lane_of instr) (upper_source instr (length lanes.cells) a b)
        (all_there_more inputs latches (length lanes.cells) (length (lift_instr lanes instr).cells) lanes.sources step.longer sound.there) step.upper_there) step.lower_there;
    cells_plain = step.cells_plain;
    plain = plain_set _ (lane_of instr + 1) (lower_source instr a b) (plain_set lanes.sources (lane_of instr) (upper_source instr (length lanes.cells) a b) sound.plain step.upper_plain) step.lower_plain;
  }

  pub same_step : (row state : List Bool) → map (bit_in (lift_instr lanes instr).cells row state) (lift_instr lanes instr).sources ≡ after_instr (map (bit_in lanes.cells row state) lanes.sources) instr
  same_step row state =
      let bits = map (bit_in lanes.cells row state) lanes.sources in
      let now : Src → Bool = bit_in (lift_instr lanes instr).cells row state in
      let upper : now (upper_source instr (length lanes.cells) a b) ≡ upper_bit instr (bit_on bits (lane_of instr)) (bit_on bits (lane_of instr + 1)) =
      step.upper row state ∙ ap₂ (upper_bit instr) (sym (bit_at lanes.cells lanes.sources row state (lane_of instr))) (sym (bit_at lanes.cells lanes.sources row state (lane_of instr + 1))) in
      let lower : now (lower_source instr a b) ≡ lower_bit instr (bit_on bits (lane_of instr)) (bit_on bits (lane_of instr + 1)) =
      step.lower row state ∙ ap₂ (lower_bit instr) (sym (bit_at lanes.cells lanes.sources row state (lane_of instr))) (sym (bit_at lanes.cells lanes.sources row state (lane_of instr + 1))) in
      map-set now (set lanes.sources (lane_of instr) (upper_source instr (length lanes.cells) a b)) (lane_of instr + 1) (lower_source instr a b)
      ∙ ap (λ l. set l (lane_of instr + 1) (now (lower_source instr a b))) (map-set now lanes.sources (lane_of instr) (upper_source instr (length lanes.cells) a b))
      ∙ ap (λ l. set (set l (lane_of instr) (now (upper_source instr (length lanes.cells) a b))) (lane_of instr + 1) (now (lower_source instr a b)))
      (bits_kept inputs latches lanes.cells (cells_made instr a b) lanes.sources row state sound.there)
      ∙ ap₂ (λ u l. set (set bits (lane_of instr) u) (lane_of instr + 1) l) upper lower

pub record IsLifted (inputs latches : ℕ) (before after : Lanes) (done : List Bool → List Bool) : Type 0 where
  pub sound : IsSound inputs latches after
  pub bits : (row state : List Bool) → map (bit_in after.cells row state) after.sources ≡ done (map (bit_in before.cells row state) before.sources)

pub instrs_lifted : (inputs latches : ℕ) (lanes : Lanes) → IsSound inputs latches lanes → (instrs : List Instr) → IsLifted inputs latches lanes (fold lift_instr lanes instrs) (after_instrs instrs)
instrs_lifted inputs latches lanes sound [] = record { sound = sound; bits = λ row state. refl }
instrs_lifted inputs latches lanes sound (instr ∷ instrs) =
    let rest = instrs_lifted inputs latches (lift_instr lanes instr) (still_sound inputs latches lanes sound instr) instrs in
    record { sound = rest.sound; bits = λ row state. rest.bits row state ∙ ap (after_instrs instrs) (same_step inputs latches lanes sound instr row state) }

pub columns_lifted : (inputs latches : ℕ) (lanes : Lanes) → IsSound inputs latches lanes → (columns : List Column) → IsLifted inputs latches lanes (lift_columns lanes columns) (after_columns columns)
columns_lifted inputs latches lanes sound [] = record { sound = sound; bits = λ row state. refl }
columns_lifted inputs latches lanes sound (column ∷ columns) =
    let first = instrs_lifted inputs latches lanes sound column.instrs in
    let rest = columns_lifted inputs latches (lift_column lanes column) first.sound columns in
    record { sound = rest.sound; bits = λ row state. rest.bits row state ∙ ap (after_columns columns) (first.bits row state) }

-- there are as many lanes afterwards
instrs_length : (instrs : List Instr) (lanes : Lanes) → length (fold lift_instr lanes instrs).sources ≡ length lanes.sources
instrs_length [] lanes = refl
instrs_length (instr ∷ instrs) lanes =
    instrs_length instrs (lift_instr lanes instr)
    ∙ length-set (set lanes.sources (lane_of instr) (upper_source instr (length lanes.cells) (source_on lanes.sources (lane_of instr)) (source_on lanes.sources (lane_of instr + 1)))) (lane_of instr + 1)
    (lower_source instr (source_on lanes.sources (lane_of instr)) (source_on lanes.sources (lane_of instr + 1)))
    ∙ length-set lanes.sources (lane_of instr) (upper_source instr (length lanes.cells) (source_on lanes.sources (lane_of instr)) (source_on lanes.sources (lane_of instr + 1)))

pub lift_length : (columns : List Column) (lanes : Lanes) → length (lift_columns lanes columns).sources ≡ length lanes.sources
lift_length [] lanes = refl
lift_length (column ∷ columns) lanes = lift_length columns (lift_column lanes column) ∙ instrs_length column.instrs lanes

-- Cells that are put into a larger list.
use Rattle.std.proofs.Common.{◌≡◌, refl, sym, ◌∙◌, ap, ap₂, ℕ, ◌+◌, ◌<◌, Bool, true, false, ◌&&◌, ◌||◌, not, List, [], ◌∷◌, ◌++◌, take, length, get_or, ◌⊎◌, inl, inr, ⊎_elim, arith}
use Rattle.std.specs.List.{list_any, list_all}
use Rattle.std.proofs.lemmas.Bool.{ltb-true, or_cases, or_left, or_right, and_parts, and_from, true≢false}
use Rattle.std.proofs.lemmas.List.{get_or-map, map-append, length_push, take_all}
use Rattle.std.proofs.lemmas.List.Folds.{list_all-append, list_any-append, list_any_at}
use Rattle.cell_core.specs.declared.cells.Src.{Src}
use Rattle.cell_core.specs.declared.cells.Src.TheVariants.{Input, Latch, One, Zero, Cell as Made}
use Rattle.cell_core.specs.declared.cells.Cell.{Cell}
use Rattle.cell_core.specs.declared.cells.Cell.TheVariants.{Or, Xor, AndNot}
use Rattle.cell_core.specs.declared.list.CellList.{CellList}
use Rattle.cell_core.specs.Sources.{is_there, reads_there, is_one, reads_one}
use Rattle.cell_core.specs.Meaning.{source_bit, cell_bit, cell_bits, bit_in}
use Rattle.cell_sharing.specs.Grown.{HasSource, HasSources, bits_of, Answers}
use Rattle.cover_cells.specs.Placed.{relocated, relocated_cell, ReadsOne, ArePlaced}
use Rattle.cell_sharing.proofs.Growing.{grows, grows_refl, bits_after, all_there_after}
use Rattle.cover_cells.proofs.Products.{source_there}
use Rattle.cover_cells.proofs.Tabled.{cell_bits_more}

-- ---- what a source of the cells is in the list
pub moved_bit : (list : CellList) (sources made : List Src) (inputs state : List Bool) (src : Src) → is_there (length sources) 0 (length made) src ≡ true
    → bit_in list.cells inputs state (relocated sources made src) ≡ source_bit (bits_of list sources inputs state) [] (bits_of list made inputs state) src
moved_bit list sources made inputs state (Input i) there = sym (get_or-map (bit_in list.cells inputs state) sources i Zero false (ltb-true i (length sources) there))
moved_bit list sources made inputs state (Latch i) there = refl
moved_bit list sources made inputs state One there = refl
moved_bit list sources made inputs state Zero there = refl
moved_bit list sources made inputs state (Made i) there = sym (get_or-map (bit_in list.cells inputs state) made i Zero false (ltb-true i (length made) there))

pub moved_there : (list : CellList) (sources made : List Src) (src : Src) → HasSources list sources → HasSources list made → is_there (length sources) 0 (length made) src ≡ true → HasSource list (relocated sources made src)
moved_there list sources made (Input i) all others there = source_there _ _ _ sources i Zero (ltb-true i (length sources) there) all
moved_there list sources made (Latch i) all others there = refl
moved_there list sources made One all others there = refl
moved_there list sources made Zero all others there = refl
moved_there list sources made (Made i) all others there = source_there _ _ _ made i Zero (ltb-true i (length made) there) others

pub moved_one : (sources made : List Src) (src : Src) → is_there (length sources) 0 (length made) src ≡ true → is_one (relocated sources made src) ≡ true
    → (list_any is_one sources ≡ true) ⊎ ((list_any is_one made ≡ true) ⊎ (is_one src ≡ true))
moved_one sources made (Input i) there one = inl (list_any_at is_one sources i Zero (ltb-true i (length sources) there) one)
moved_one sources made (Latch i) there one = absurd (true≢false (sym one))
moved_one sources made One there one = inr (inr refl)
moved_one sources made Zero there one = absurd (true≢false (sym one))
moved_one sources made (Made i) there one = inr (inl (list_any_at is_one made i Zero (ltb-true i (length made) there) one))

-- ---- and a cell
pub moved_cell_bit : (list : CellList) (sources made : List Src) (inputs state : List Bool) (cell : Cell) → reads_there (length sources) 0 (length made) cell ≡ true
    → cell_bit inputs state (cell_bits inputs state list.cells) (relocated_cell sources made cell) ≡ cell_bit (bits_of list sources inputs state) [] (bits_of list made inputs state) cell
moved_cell_bit list sources made inputs state (Or a b) there =
    ap₂ (λ x y. x || y) (moved_bit list sources made inputs state a (and_parts _ _ there).0) (moved_bit list sources made inputs state b (and_parts _ _ there).1)
moved_cell_bit list sources made inputs state (Xor a b) there =
    ap₂ (λ x y. (x || y) && not (x && y)) (moved_bit list sources made inputs state a (and_parts _ _ there).0) (moved_bit list sources made inputs state b (and_parts _ _ there).1)
moved_cell_bit list sources made inputs state (AndNot a b) there =
    ap₂ (λ x y. x && not y) (moved_bit list sources made inputs state a (and_parts _ _ there).0) (moved_bit list sources made inputs state b (and_parts _ _ there).1)

pub moved_cell_there : (list : CellList) (sources made : List Src) (cell : Cell) → HasSources list sources → HasSources list made → reads_there (length sources) 0 (length made) cell ≡ true
    → reads_there list.inputs (length list.starts) (length list.cells) (relocated_cell sources made cell) ≡ true
moved_cell_there list sources made (Or a b) all others there =
    and_from _ _ (moved_there list sources made a all others (and_parts _ _ there).0) (moved_there list sources made b all others (and_parts _ _ there).1)
moved_cell_there list sources made (Xor a b) all others there =
    and_from _ _ (moved_there list sources made a all others (and_parts _ _ there).0) (moved_there list sources made b all others (and_parts _ _ there).1)
moved_cell_there list sources made (AndNot a b) all others there =
    and_from _ _ (moved_there list sources made a all others (and_parts _ _ there).0) (moved_there list sources made b all others (and_parts _ _ there).1)

pair_one : (sources made : List Src) (a b : Src) → is_there (length sources) 0 (length made) a && is_there (length sources) 0 (length made) b ≡ true
    → is_one (relocated sources made a) || is_one (relocated sources made b) ≡ true
    → (list_any is_one sources ≡ true) ⊎ ((list_any is_one made ≡ true) ⊎ ((is_one a || is_one b) ≡ true))
pair_one sources made a b there one =
    ⊎_elim
    (λ h. ⊎_elim inl (λ r. inr (⊎_elim inl (λ e. inr (or_left (is_one a) (is_one b) e)) r)) (moved_one sources made a (and_parts _ _ there).0 h))
    (λ h. ⊎_elim inl (λ r. inr (⊎_elim inl (λ e. inr (or_right (is_one a) (is_one b) e)) r)) (moved_one sources made b (and_parts _ _ there).1 h))
    (or_cases (is_one (relocated sources made a)) (is_one (relocated sources made b)) one)

pub moved_cell_one : (sources made : List Src) (cell : Cell) → reads_there (length sources) 0 (length made) cell ≡ true → reads_one (relocated_cell sources made cell) ≡ true
    → (list_any is_one sources ≡ true) ⊎ ((list_any is_one made ≡ true) ⊎ (reads_one cell ≡ true))
moved_cell_one sources made (Or a b) there one = pair_one sources made a b there one
moved_cell_one sources made (Xor a b) there one = pair_one sources made a b there one
moved_cell_one sources made (AndNot a b) there one = pair_one sources made a b there one

-- ---- one more of the cells
pub placed_more : (l l' l'' : CellList) (sources : List Src) (cells : List Cell) (i : ℕ) (made new : List Src) (placed : Src) (d : Cell) → i < length cells → HasSources l sources
    → reads_there (length sources) 0 i (get_or cells i d) ≡ true
    → ArePlaced l l' sources cells i made
    → Answers l' l'' 1 (reads_one (relocated_cell sources made (get_or cells i d)) ≡ true) placed (λ inputs state. cell_bit inputs state (cell_bits inputs state l'.cells) (relocated_cell sources made (get_or cells i d)))
    → new ≡ made ++ placed ∷ [] → ArePlaced l l'' sources cells (i + 1) new
placed_more l l' l'' sources cells i made new placed d within all reads first then is =
    let there : reads_there (length sources) 0 (length made) (get_or cells i d) ≡ true = ap (λ n. reads_there (length sources) 0 n (get_or cells i d)) first.long ∙ reads in
    let why : reads_one (relocated_cell sources made (get_or cells i d)) ≡ true → ReadsOne sources cells =
    λ e. ⊎_elim inl (λ r. ⊎_elim first.one (λ h. inr (list_any_at reads_one cells i d within h)) r) (moved_cell_one sources made (get_or cells i d) there e) in
    record {
      long = ap length is ∙ length_push made placed ∙ ap (λ n. n + 1) first.long;
      grows = grows l l' l'' _ _ _ _ _ _ first.grows then.grows (λ p. p) why (omega arith);
      there = ap (λ (m : List Src). list_all (is_there l''.inputs (length l''.starts) (length l''.cells)) m) is
          ∙ list_all-append (is_there l''.inputs (length l''.starts) (length l''.cells)) made (placed ∷ [])
          ∙ and_from _ _ (all_there_after l' l'' _ _ then.grows made first.there) (and_from _ _ then.there refl);
      one = λ e. ⊎_elim first.one (λ h. ⊎_elim (λ p. why (then.one p)) (λ n. absurd (true≢false (sym n))) (or_cases (is_one placed) false h))
          (or_cases (list_any is_one made) (list_any is_one (placed ∷ [])) (sym (list_any-append is_one made (placed ∷ [])) ∙ ap (λ (m : List Src). list_any is_one m) (sym is) ∙ e));
      bits = λ inputs state.
          let before : bits_of l' made inputs state ≡ cell_bits (bits_of l sources inputs state) [] (take i cells) = first.bits inputs state in
          ap (λ (m : List Src). bits_of l'' m inputs state) is ∙ map-append (bit_in l''.cells inputs state) made (placed ∷ [])
          ∙ ap₂ (λ (bs : List Bool) (b : Bool). bs ++ b ∷ [])
          (bits_after l' l'' _ _ then.grows made first.there inputs state ∙ before)
          (then.bit inputs state ∙ moved_cell_bit l' sources made inputs state (get_or cells i d) there
          ∙ ap₂ (λ (s : List Bool) (m : List Bool). cell_bit s [] m (get_or cells i d)) (bits_after l l' _ _ first.grows sources all inputs state) before)
          ∙ sym (cell_bits_more (bits_of l sources inputs state) [] cells i d within);
    }

-- ---- the root of cells that are all in the list
pub placed_root : (l l' : CellList) (sources : List Src) (cells : List Cell) (made : List Src) (root : Src) → HasSources l sources → is_there (length sources) 0 (length cells) root ≡ true
    → ArePlaced l l' sources cells (length cells) made
    → Answers l l' (length cells) (ReadsOne sources cells ⊎ (is_one root ≡ true)) (relocated sources made root) (λ inputs state. bit_in cells (bits_of l sources inputs state) [] root)
placed_root l l' sources cells made root all reads placed =
    let there : is_there (length sources) 0 (length made) root ≡ true = ap (λ n. is_there (length sources) 0 n root) placed.long ∙ reads in
    record {
      grows = grows l l' l' _ 0 _ _ _ _ placed.grows (grows_refl l' (ReadsOne sources cells ⊎ (is_one root ≡ true))) inl (λ p. p) (omega arith);
      there = moved_there l' sources made root (all_there_after l l' _ _ placed.grows sources all) placed.there there;
      one = λ e. ⊎_elim (λ h. inl (inl h)) (λ r. ⊎_elim (λ h. inl (placed.one h)) inr r) (moved_one sources made root there e);
      bit = λ inputs state.
          moved_bit l' sources made inputs state root there
          ∙ ap₂ (λ (s : List Bool) (m : List Bool). source_bit s [] m root) (bits_after l l' _ _ placed.grows sources all inputs state)
          (placed.bits inputs state ∙ ap (cell_bits (bits_of l sources inputs state) []) (take_all (length cells) cells (omega arith)));
    }

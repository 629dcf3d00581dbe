-- Cells that move, one after another.
use Rattle.std.proofs.Common.{◌≡◌, refl, sym, ◌∙◌, ap, ap₂, ℕ, zero, suc, ◌+◌, ◌<◌, ◌≤◌, Bool, true, false, List, [], ◌∷◌, ◌++◌, length, get_or, Some, None, subst, slice_set, replicate, slice_get, map, ⊎_elim, ◌≢◌, take, arith}
use Rattle.std.specs.Prelude.{Contains}
use Rattle.std.specs.Option.{unwrap_or}
use Rattle.std.proofs.lemmas.Bool.{lt-ltb, cases_eq, true≢false}
use Rattle.std.proofs.lemmas.List.{length_push, get_or-set_same, get_or-set_other, take_more, take_all}
use Rattle.std.proofs.lemmas.Option.{slice_get_within, get_or_from_slice_get, none-some, same_Some}
use Rattle.lists.proofs.Members.{In, in_parts, in_from}
use Rattle.cell_core.specs.declared.cells.Src.{Src}
use Rattle.cell_core.specs.declared.cells.Src.TheVariants.{Input, Latch, One, Zero, Cell as Made}
use Rattle.cell_core.specs.declared.cells.Cell.{Cell}
use Rattle.cell_core.specs.declared.cells.Cell.TheVariants.{Or, Xor, AndNot}
use Rattle.cell_core.specs.declared.list.CellList.{CellList}
use Rattle.cell_core.specs.Sources.{is_there, reads_there, are_in_order}
use Rattle.cell_core.specs.Meaning.{cell_bit, cell_bits, bit_in, bit_of}
use Rattle.cell_core.proofs.Bits.{appending_keeps_bits, pushed_bit}
use Rattle.cell_core.proofs.Following.{∷-parts, and_not_follows, both, none_is_some, or_follows, ports_alike, xor_follows, ArePorts, CellFollows, Follows}
use Rattle.cell_core.proofs.Order.{in_order_push, there_more}
use Rattle.cell_core.proofs.OwnBits.{cell_in_order, bit_of_cell}
use Rattle.cell_meaning.specs.Same.{is_cell, cell_over, StaysCell, Keeps}
use Rattle.cell_meaning.specs.Moved.{NewSources, new_source, new_cell, goes_to, AreMoved, IsRebuilt}

-- ---- a source that has moved is there, and has its bit
pub follows : (list : CellList) (cells : List Cell) (news : NewSources) → AreMoved list cells news → (src new : Src) → new_source news src ≡ Some new → Follows list cells src new
follows list cells news are (Input i) new e = subst (λ s. Follows list cells (Input i) s) (same_Some _ _ e) (record { there = λ made h. h; bit = λ inputs state. refl })
follows list cells news are (Latch i) new e = subst (λ s. Follows list cells (Latch i) s) (same_Some _ _ e) (record { there = λ made h. h; bit = λ inputs state. refl })
follows list cells news are One new e = subst (λ s. Follows list cells One s) (same_Some _ _ e) (record { there = λ made h. h; bit = λ inputs state. refl })
follows list cells news are Zero new e = subst (λ s. Follows list cells Zero s) (same_Some _ _ e) (record { there = λ made h. h; bit = λ inputs state. refl })
follows list cells news are (Made i) new e = record { there = λ made h. are.there i new e; bit = are.bits i new e }

-- ---- a cell that reads new sources
cell_follows : (list : CellList) (cells : List Cell) (news : NewSources) → AreMoved list cells news → (cell new : Cell) → new_cell news cell ≡ Some new → CellFollows list cells cell new
cell_follows list cells news are (Or a b) new e = or_follows list cells (new_source news) (follows list cells news are) a b new e
cell_follows list cells news are (Xor a b) new e = xor_follows list cells (new_source news) (follows list cells news are) a b new e
cell_follows list cells news are (AndNot a b) new e = and_not_follows list cells (new_source news) (follows list cells news are) a b new e

-- ---- a new source is written down
-- a list of one thing, throughout and past its end
pub all_the_same : {A : Type 0} (d : A) (n i : ℕ) → get_or (replicate n d) i d ≡ d
all_the_same d zero i = refl
all_the_same d (suc n) zero = refl
all_the_same d (suc n) (suc i) = all_the_same d n i

pub none_moved : (list : CellList) (cells : List Cell) (news : NewSources) (n : ℕ) → cells ≡ [] → news ≡ replicate n None → AreMoved list cells news
none_moved list cells news n no_cells is =
    let none : (i : ℕ) → get_or news i None ≡ None = λ i. ap (λ (l : NewSources). get_or l i None) is ∙ all_the_same None n i in
    record {
      in_order = ap (are_in_order list.inputs (length list.starts) 0) no_cells;
      there = λ i src e. absurd (none-some src (sym (none i) ∙ e));
      bits = λ i src e. absurd (none-some src (sym (none i) ∙ e));
    }

pub put_moved : (list : CellList) (cells : List Cell) (news : NewSources) → AreMoved list cells news → (number : ℕ) (new : Src) → number < length news
    → is_there list.inputs (length list.starts) (length cells) new ≡ true → ((inputs state : List Bool) → bit_in cells inputs state new ≡ bit_of list inputs state (Made number))
    → AreMoved list cells (slice_set news number (Some new))
put_moved list cells news are number new inside there bit =
    let same : (src : Src) → get_or (slice_set news number (Some new)) number None ≡ Some src → new ≡ src = λ src e. same_Some _ _ (sym (get_or-set_same news number (Some new) None inside) ∙ e) in
    let other : (i : ℕ) (src : Src) → i ≢ number → get_or (slice_set news number (Some new)) i None ≡ Some src → get_or news i None ≡ Some src =
    λ i src ne e. sym (get_or-set_other news number i (Some new) None ne) ∙ e in
    let own : (i : ℕ) (src : Src) → i ≡ number → get_or (slice_set news number (Some new)) i None ≡ Some src → new ≡ src =
    λ i src h e. same src (ap (λ j. get_or (slice_set news number (Some new)) j None) (sym h) ∙ e) in
    record {
      in_order = are.in_order;
      there = λ i src e. ⊎_elim
          (λ (h : i ≡ number). subst (λ s. is_there list.inputs (length list.starts) (length cells) s ≡ true) (own i src h e) there)
          (λ (ne : i ≢ number). are.there i src (other i src ne e)) (cases_eq i number);
      bits = λ i src e inputs state. ⊎_elim
          (λ (h : i ≡ number). ap (bit_in cells inputs state) (sym (own i src h e)) ∙ bit inputs state ∙ ap (λ j. bit_of list inputs state (Made j)) (sym h))
          (λ (ne : i ≢ number). are.bits i src (other i src ne e) inputs state) (cases_eq i number);
    }

-- ---- a cell comes, at the end
pub moved_more : (list : CellList) (cells : List Cell) (news : NewSources) → AreMoved list cells news → (i : ℕ) (cell new : Cell) → slice_get list.cells i ≡ Some cell
    → new_cell news cell ≡ Some new → AreMoved list (cells ++ new ∷ []) news
moved_more list cells news are i cell new at is =
    let f : CellFollows list cells cell new = cell_follows list cells news are cell new is in
    let within : i < length list.cells = slice_get_within list.cells i cell at in
    let reads : reads_there list.inputs (length list.starts) (0 + i) cell ≡ true =
    ap (λ c. reads_there list.inputs (length list.starts) (0 + i) c) (sym (get_or_from_slice_get list.cells i cell cell at))
    ∙ cell_in_order list.inputs (length list.starts) 0 list.cells i cell within list.in_order in
    let more : length (cells ++ new ∷ []) ≡ length cells + 1 = length_push cells new in
    record {
      in_order = in_order_push list.inputs (length list.starts) cells new are.in_order (f.there (0 + i) reads);
      there = λ k src e. there_more list.inputs (length list.starts) (length cells) (length (cells ++ new ∷ [])) src (omega (arith, more)) (are.there k src e);
      bits = λ k src e inputs state. appending_keeps_bits cells (new ∷ []) inputs state (length list.starts) list.inputs src (are.there k src e) ∙ are.bits k src e inputs state;
    }

-- and its number is written down
pub come_moved : (list : CellList) (cells : List Cell) (news : NewSources) → AreMoved list cells news → (i : ℕ) (cell new : Cell) → slice_get list.cells i ≡ Some cell
    → new_cell news cell ≡ Some new → (place : ℕ) → place ≡ length cells → i < length news → AreMoved list (cells ++ new ∷ []) (slice_set news i (Some (Made place)))
come_moved list cells news are i cell new at is place last inside =
    let f : CellFollows list cells cell new = cell_follows list cells news are cell new is in
    let within : i < length list.cells = slice_get_within list.cells i cell at in
    let long : length (cells ++ new ∷ []) ≡ length cells + 1 = length_push cells new in
    put_moved list (cells ++ new ∷ []) news (moved_more list cells news are i cell new at is) i (Made place) inside
    (lt-ltb place (length (cells ++ new ∷ [])) (omega (arith, long, last)))
    (λ inputs state. pushed_bit inputs state cells new place (sym last) ∙ f.bit inputs state
    ∙ ap (cell_bit inputs state (cell_bits inputs state list.cells)) (sym (get_or_from_slice_get list.cells i cell cell at))
    ∙ sym (bit_of_cell list i cell inputs state within))

-- ---- where sources go
stays : (news : NewSources) (src : Src) → is_cell src ≡ false → goes_to news src ≡ src
stays news (Input i) other = refl
stays news (Latch i) other = refl
stays news One other = refl
stays news Zero other = refl
stays news (Made i) other = absurd (true≢false other)

pub sources_are : (news : NewSources) (sources found : List Src) → map (new_source news) sources ≡ map Some found → found ≡ map (goes_to news) sources
sources_are news [] [] e = refl
sources_are news [] (new ∷ found) e = absurd (none_is_some (λ s. Some s) new found e)
sources_are news (src ∷ sources) [] e = absurd (none_is_some (new_source news) src sources (sym e))
sources_are news (src ∷ sources) (new ∷ found) e =
    let parts : (new_source news src ≡ Some new) × (map (new_source news) sources ≡ map Some found) = ∷-parts e in
    ap₂ (λ (s : Src) (l : List Src). s ∷ l) (sym (ap (λ o. unwrap_or o src) parts.0)) (sources_are news sources found parts.1)

pub is_rebuilt : (list new : CellList) (cells : List Cell) (news : NewSources) (outs latches nets : List Src) → AreMoved list cells news
    → new.inputs ≡ list.inputs → new.starts ≡ list.starts → new.cells ≡ cells
    → ArePorts (new_source news) list.outs outs new.outs → ArePorts (new_source news) list.latches latches new.latches → ArePorts (new_source news) list.nets nets new.nets → IsRebuilt list news new
is_rebuilt list new cells news outs latches nets are inputs starts same_cells out latch net =
    record {
      moves = record {
        stays = stays news;
        inputs = inputs;
        starts = starts;
        outs_go = out.is ∙ sources_are news list.outs outs out.follow;
        latches_go = latch.is ∙ sources_are news list.latches latches latch.follow;
        nets_go = net.is ∙ sources_are news list.nets nets net.follow;
        outs = ports_alike list cells (new_source news) (follows list cells news are) new.cells list.outs outs new.outs same_cells out;
        latches = ports_alike list cells (new_source news) (follows list cells news are) new.cells list.latches latches new.latches same_cells latch;
        nets = ports_alike list cells (new_source news) (follows list cells news are) new.cells list.nets nets new.nets same_cells net;
      };
      are = subst (λ (c : List Cell). AreMoved list c news) (sym same_cells) are;
    }

-- ---- kept cells
number_of : Src → ℕ
number_of (Input i) = 0
number_of (Latch i) = 0
number_of One = 0
number_of Zero = 0
number_of (Made i) = i

same_number : (i k : ℕ) → Made i ≡ Made k → i ≡ k
unfolding number_of
same_number i k e = ap number_of e

found_at : (news : NewSources) (src new : Src) → new_source news src ≡ Some new → new ≡ goes_to news src
found_at news src new e = sym (ap (λ o. unwrap_or o src) e)

by_parts : (news : NewSources) (old new : Cell) → new_cell news old ≡ Some new → new ≡ cell_over (goes_to news) old
by_parts news (Or a b) new e =
    let (x, y, at_a, at_b, is) = both Or (new_source news a) (new_source news b) new e in
    sym is ∙ ap₂ Or (found_at news a x at_a) (found_at news b y at_b)
by_parts news (Xor a b) new e =
    let (x, y, at_a, at_b, is) = both Xor (new_source news a) (new_source news b) new e in
    sym is ∙ ap₂ Xor (found_at news a x at_a) (found_at news b y at_b)
by_parts news (AndNot a b) new e =
    let (x, y, at_a, at_b, is) = both AndNot (new_source news a) (new_source news b) new e in
    sym is ∙ ap₂ AndNot (found_at news a x at_a) (found_at news b y at_b)

pub stays_cell : (list new : CellList) (news : NewSources) (src : Src) (i k : ℕ) (old found wanted : Cell) → src ≡ Made i → slice_get list.cells i ≡ Some old
    → new_source news src ≡ Some (Made k) → slice_get new.cells k ≡ Some found → new_cell news old ≡ Some wanted → found ≡ wanted → StaysCell list new (goes_to news) src
stays_cell list new news src i k old found wanted is at goes there by same = λ cell is_cell.
    let number : is_cell.0 ≡ i = same_number is_cell.0 i (sym is_cell.1 ∙ is) in
    let one : cell ≡ old = same_Some _ _ (sym is_cell.2 ∙ ap (slice_get list.cells) number ∙ at) in
    (k, sym (found_at news src (Made k) goes), there ∙ ap Some (same ∙ by_parts news old wanted by ∙ ap (cell_over (goes_to news)) (sym one)))

-- the first of the sources do
pub DoStay : CellList → CellList → (Src → Src) → List Src → Type 0
DoStay list new to sources = (src : Src) → In src sources → StaysCell list new to src

pub none_stays : (list new : CellList) (to : Src → Src) (sources : List Src) → DoStay list new to (take 0 sources)
unfolding DoStay
none_stays list new to sources = λ src i. absurd i

pub one_stays_more : (list new : CellList) (to : Src → Src) (sources : List Src) (i : ℕ) (d : Src) → i < length sources → DoStay list new to (take i sources)
    → StaysCell list new to (get_or sources i d) → DoStay list new to (take (i + 1) sources)
unfolding DoStay
one_stays_more list new to sources i d within so this = λ src at.
    ⊎_elim (λ (h : In src (take i sources)). so src h)
    (λ (h : In src (get_or sources i d ∷ [])). ⊎_elim (λ (e : src ≡ get_or sources i d). subst (λ s. StaysCell list new to s) (sym e) this) (λ (no_more : ⊥). absurd no_more) h)
    (in_parts (take i sources) (get_or sources i d ∷ []) src (subst (λ l. In src l) (take_more sources i d within) at))

pub all_stay : (list new : CellList) (to : Src → Src) (sources : List Src) (i : ℕ) → length sources ≤ i → DoStay list new to (take i sources)
    → (src : Src) → Contains sources src → StaysCell list new to src
unfolding DoStay
all_stay list new to sources i le so src c = so src (subst (λ l. In src l) (sym (take_all i sources le)) (in_from sources src c))

-- ---- the kept sources of the new list
-- each source has moved, and so it goes where its new source is, with its bit
bit_stays : (list : CellList) (cells : List Cell) (news : NewSources) → AreMoved list cells news → (sources found : List Src) → map (new_source news) sources ≡ map Some found → (src : Src) → In src sources
    → (inputs state : List Bool) → bit_in cells inputs state (goes_to news src) ≡ bit_of list inputs state src
bit_stays list cells news are [] found e src at inputs state = absurd at
bit_stays list cells news are (other ∷ sources) [] e src at inputs state = absurd (none_is_some (new_source news) other sources (sym e))
bit_stays list cells news are (other ∷ sources) (new ∷ found) e src at inputs state =
    let parts : (new_source news other ≡ Some new) × (map (new_source news) sources ≡ map Some found) = ∷-parts e in
    ⊎_elim
    (λ (h : src ≡ other).
    ap (λ s. bit_in cells inputs state (goes_to news s)) h ∙ ap (bit_in cells inputs state) (sym (found_at news other new parts.0))
    ∙ (follows list cells news are other new parts.0).bit inputs state ∙ ap (bit_of list inputs state) (sym h))
    (λ (h : In src sources). bit_stays list cells news are sources found parts.1 src h inputs state) at

pub keeps_moved : (list new : CellList) (news : NewSources) (kept still : List Src) → IsRebuilt list news new → map (new_source news) kept ≡ map Some still
    → ((src : Src) → Contains kept src → StaysCell list new (goes_to news) src) → Keeps list kept new still
keeps_moved list new news kept still is found stay =
    record {
      to = goes_to news;
      moves = is.moves;
      cells = stay;
      bits = λ src among cell at inputs state. bit_stays list new.cells news is.are kept still found src (in_from kept src among) inputs state;
      follow = sources_are news kept still found;
    }

-- Cells that are there already.
use Rattle.std.proofs.Common.{◌≡◌, refl, sym, ◌∙◌, ap, Bool, true, false, ◌&&◌, not, List, length, ◌⊎◌, inl, ⊎_elim, arith}
use Rattle.std.proofs.lemmas.Bool.{lt-ltb, true≢false}
use Rattle.std.proofs.lemmas.Option.{slice_get_within, get_or_from_slice_get}
use Rattle.cell_core.specs.declared.cells.Src.{Src}
use Rattle.cell_core.specs.declared.cells.Src.TheVariants.{One}
use Rattle.cell_core.specs.declared.cells.Cell.{Cell}
use Rattle.cell_core.specs.declared.cells.Cell.TheVariants.{AndNot}
use Rattle.cell_core.specs.declared.list.CellList.{CellList}
use Rattle.cell_core.specs.Sources.{is_there, is_one, reads_one}
use Rattle.cell_core.specs.Meaning.{cell_bit, cell_bits, bit_in}
use Rattle.cell_core.proofs.OwnBits.{bit_of_cell}
use Rattle.cell_sharing.specs.Grown.{HasSource, Answers}
use Rattle.cell_meaning.specs.Mapped.{IsCell}
use Rattle.cell_sharing.proofs.Growing.{grows, grows_refl, answers}

pub cell_there : (list : CellList) (src : Src) (cell : Cell) → IsCell list src cell → HasSource list src
cell_there list src cell (k, is, at) =
    ap (λ s. is_there list.inputs (length list.starts) (length list.cells) s) is ∙ lt-ltb k (length list.cells) (slice_get_within list.cells k cell at)

pub cell_says : (list : CellList) (src : Src) (cell : Cell) → IsCell list src cell → (inputs state : List Bool) → bit_in list.cells inputs state src ≡ cell_bit inputs state (cell_bits inputs state list.cells) cell
cell_says list src cell (k, is, at) inputs state =
    ap (bit_in list.cells inputs state) is ∙ bit_of_cell list k cell inputs state (slice_get_within list.cells k cell at)
    ∙ ap (cell_bit inputs state (cell_bits inputs state list.cells)) (get_or_from_slice_get list.cells k cell cell at)

pub cell_not_one : (list : CellList) (src : Src) (cell : Cell) → IsCell list src cell → is_one src ≡ true → ⊥
cell_not_one list src cell (k, is, at) e = true≢false (sym e ∙ ap is_one is)

-- a cell that is there answers
pub shared : (list : CellList) (src : Src) (cell : Cell) → IsCell list src cell → Answers list list 1 (reads_one cell ≡ true) src (λ inputs state. cell_bit inputs state (cell_bits inputs state list.cells) cell)
shared list src cell is =
    record {
      grows = grows list list list 0 0 1 _ _ _ (grows_refl list (reads_one cell ≡ true)) (grows_refl list (reads_one cell ≡ true)) (λ p. p) (λ p. p) (omega arith);
      there = cell_there list src cell is;
      one = λ e. absurd (cell_not_one list src cell is e);
      bit = cell_says list src cell is;
    }

-- both, where the second has a negation
unnegated : (a b n : Bool) → n ≡ (true && not b) → (a && not n) ≡ (a && b)
unnegated true true n e = ap not e
unnegated true false n e = ap not e
unnegated false b n e = refl

pub both_by_negation : (l l' : CellList) (a b negation src : Src) → IsCell l negation (AndNot One b)
    → Answers l l' 1 ((is_one a ≡ true) ⊎ (is_one negation ≡ true)) src (λ inputs state. bit_in l.cells inputs state a && not (bit_in l.cells inputs state negation))
    → Answers l l' 2 ((is_one a ≡ true) ⊎ (is_one b ≡ true)) src (λ inputs state. bit_in l.cells inputs state a && bit_in l.cells inputs state b)
both_by_negation l l' a b negation src is h =
    answers l l l' 0 1 2 ((is_one a ≡ true) ⊎ (is_one b ≡ true)) _ _ src _ (grows_refl l ((is_one a ≡ true) ⊎ (is_one b ≡ true))) h (λ p. p) (λ q. ⊎_elim inl (λ e. absurd (cell_not_one l negation (AndNot One b) is e)) q) (omega arith)
    _ (λ inputs state. unnegated (bit_in l.cells inputs state a) (bit_in l.cells inputs state b) (bit_in l.cells inputs state negation) (cell_says l negation (AndNot One b) is inputs state))

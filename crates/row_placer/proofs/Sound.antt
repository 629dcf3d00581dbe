-- The rule of a list, source by source.
use Rattle.std.proofs.Common.{◌≡◌, refl, sym, ◌∙◌, ap, ℕ, zero, suc, ◌+◌, ◌<◌, Bool, true, List, [], ◌∷◌, length, get_or, arith}
use Rattle.std.specs.Prelude.{All, ◌||◌, ◌&&◌}
use Rattle.std.specs.List.{list_all, list_any}
use Rattle.std.proofs.lemmas.List.Folds.{list_any_at}
use Rattle.std.proofs.lemmas.Bool.{ltb-true, and_parts, or_left, or_right}
use Rattle.cell_core.specs.declared.cells.Src.{Src}
use Rattle.cell_core.specs.declared.cells.Src.TheVariants.{Input, Latch, One, Zero, Cell as Made}
use Rattle.cell_core.specs.declared.cells.Cell.{Cell}
use Rattle.cell_core.specs.declared.cells.Cell.TheVariants.{Or, Xor, AndNot}
use Rattle.cell_core.specs.declared.list.CellList.{CellList}
use Rattle.cell_core.specs.Sources.{is_there, reads_there, are_there, is_one, reads_one, read_one}
use Rattle.cell_core.specs.Loops.{names_one}
use Rattle.cell_core.proofs.OwnBits.{cell_in_order}
use Rattle.row_placer.specs.Numbers.{IsThere, ReadsThere, ReadsWhatIsThere}

all_at : {X : Type 0} (p : X → Bool) (xs : List X) (i : ℕ) (d : X) → i < length xs → list_all p xs ≡ true → p (get_or xs i d) ≡ true
all_at p [] i d within all = absurd (omega (arith, within))
all_at p (x ∷ xs) zero d within all = (and_parts (p x) (list_all p xs) all).0
all_at p (x ∷ xs) (suc i) d within all = all_at p xs i d (omega (arith, within)) (and_parts (p x) (list_all p xs) all).1

src_there : (list : CellList) (n : ℕ) (src : Src) → is_there list.inputs (length list.starts) n src ≡ true → (is_one src ≡ true → names_one list ≡ true) → IsThere list n src
src_there list n (Input i) there one = ltb-true i list.inputs there
src_there list n (Latch i) there one = ltb-true i (length list.starts) there
src_there list n One there one = one refl
src_there list n Zero there one = tt
src_there list n (Made i) there one = ltb-true i n there

both_there : (list : CellList) (n : ℕ) (a b : Src) → (is_there list.inputs (length list.starts) n a && is_there list.inputs (length list.starts) n b) ≡ true → ((is_one a || is_one b) ≡ true → names_one list ≡ true)
    → IsThere list n a × IsThere list n b
both_there list n a b there one =
    let parts = and_parts (is_there list.inputs (length list.starts) n a) (is_there list.inputs (length list.starts) n b) there in
    (src_there list n a parts.0 (λ h. one (or_left (is_one a) (is_one b) h)), src_there list n b parts.1 (λ h. one (or_right (is_one a) (is_one b) h)))

cell_there : (list : CellList) (n : ℕ) (cell : Cell) → reads_there list.inputs (length list.starts) n cell ≡ true → (reads_one cell ≡ true → names_one list ≡ true) → ReadsThere list n cell
cell_there list n (Or a b) there one = both_there list n a b there one
cell_there list n (Xor a b) there one = both_there list n a b there one
cell_there list n (AndNot a b) there one = both_there list n a b there one

all_there : (list : CellList) (srcs : List Src) → are_there list.inputs (length list.starts) (length list.cells) srcs ≡ true → (list_any is_one srcs ≡ true → names_one list ≡ true) → All (IsThere list (length list.cells)) srcs
all_there list srcs there one i d within =
    src_there list (length list.cells) (get_or srcs i d) (all_at (is_there list.inputs (length list.starts) (length list.cells)) srcs i d within there)
    (λ h. one (list_any_at is_one srcs i d within h))

pub sound : (list : CellList) → ReadsWhatIsThere list
sound list = record {
  fits = sym list.starts_fit;
  cells = λ g d within. cell_there list g (get_or list.cells g d) ((let e : 0 + g ≡ g = omega arith in ap (λ n. reads_there list.inputs (length list.starts) n (get_or list.cells g d)) (sym e)) ∙ cell_in_order list.inputs (length list.starts) 0 list.cells g d within list.in_order)
      (λ h. in_cells (list_any_at reads_one list.cells g d within h));
  outs = all_there list list.outs list.outs_there in_outs;
  latches = all_there list list.latches list.latches_there in_latches;
  nets = all_there list list.nets list.nets_there in_nets;
}
  where
    cells : Bool
    cells = read_one list.cells

    outs : Bool
    outs = list_any is_one list.outs

    latches : Bool
    latches = list_any is_one list.latches

    nets : Bool
    nets = list_any is_one list.nets

    in_cells : read_one list.cells ≡ true → names_one list ≡ true
    in_cells h = or_left ((cells || outs) || latches) nets (or_left (cells || outs) latches (or_left cells outs h))

    in_outs : list_any is_one list.outs ≡ true → names_one list ≡ true
    in_outs h = or_left ((cells || outs) || latches) nets (or_left (cells || outs) latches (or_right cells outs h))

    in_latches : list_any is_one list.latches ≡ true → names_one list ≡ true
    in_latches h = or_left ((cells || outs) || latches) nets (or_right (cells || outs) latches h)

    in_nets : list_any is_one list.nets ≡ true → names_one list ≡ true
    in_nets h = or_right ((cells || outs) || latches) nets h

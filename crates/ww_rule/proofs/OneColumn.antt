-- Rows of one cell each, turned to one row.
use Rattle.std.proofs.Common.{ℕ, zero, suc, ◌+◌, ◌*◌, ◌<◌, ◌≡◌, refl, sym, ap, subst, ◌∙◌, List, [], length, get_or, drop, All, arith, length-take}
use Rattle.std.proofs.lemmas.List.{get_or-take, get_or-drop}
use Rattle.ww_rule.specs.declared.pattern.State.{State}
use Rattle.ww_rule.specs.declared.pattern.State.TheVariants.{Empty}
use Rattle.ww_rule.specs.Cuts.{cut_rows}
use Rattle.ww_rule.specs.Grid.{plane_of}
use Rattle.ww_rule.specs.Turns.{turned}
use Rattle.ww_rule.proofs.CutLemmas.{length-cut, long_rows, row_at_cut}
use Rattle.ww_rule.proofs.Turns.{turned_rows}

pub one_row_long : (n : ℕ) (cells : List State) (rows : List (List State)) → n * 1 ≡ length cells → cut_rows 1 n cells ≡ rows → All (λ row. length row ≡ length rows) (cut_rows n 1 cells)
one_row_long n cells rows whole same zero d h =
    let count : n ≡ length rows = sym (length-cut 1 n cells) ∙ ap length same in omega (arith, length-take n cells)
one_row_long n cells rows whole same (suc k) d h = absurd (omega arith)

pub one_row_shows : (n : ℕ) (cells : List State) (rows : List (List State)) → n * 1 ≡ length cells → cut_rows 1 n cells ≡ rows → plane_of (cut_rows n 1 cells) ≡ turned (plane_of rows)
one_row_shows n cells rows whole same =
    turned_rows rows (cut_rows n 1 cells) 1 (subst (All (λ row. length row ≡ 1)) same (long_rows 1 n cells whole)) refl wide at
  where
    wide : (v : ℕ) → v < 1 → length (get_or (cut_rows n 1 cells) v []) ≡ length rows
    wide zero h =
        let count : n ≡ length rows = sym (length-cut 1 n cells) ∙ ap length same in omega (arith, length-take n cells)
    wide (suc v) h = absurd (omega arith)

    at : (u v : ℕ) → u < length rows → v < 1 → get_or (get_or (cut_rows n 1 cells) v []) u Empty ≡ get_or (get_or rows u []) v Empty
    at u zero inside h =
        let count : n ≡ length rows = sym (length-cut 1 n cells) ∙ ap length same in
        let place : u * 1 + 0 ≡ u = omega arith in
        get_or-take n cells u Empty (omega arith)
        ∙ sym (ap (λ row. get_or row 0 Empty) (row_at_cut 1 n u cells rows same inside) ∙ get_or-take 1 (drop (u * 1) cells) 0 Empty (omega arith) ∙ get_or-drop (u * 1) cells 0 Empty ∙ ap (λ k. get_or cells k Empty) place)
    at u (suc v) inside h = absurd (omega arith)

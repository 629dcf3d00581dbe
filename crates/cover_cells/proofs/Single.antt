-- Covers of two nets that are one cell.
use Rattle.std.proofs.Common.{◌≡◌, refl, sym, ◌∙◌, ap, ap₂, subst, ℕ, ◌*◌, ◌≤◌, Bool, true, false, cond, ◌&&◌, ◌||◌, not, List, [], ◌∷◌, map, Option, Some, ◌⊎◌, inl, inr, ⊎_elim, arith, codes}
use Rattle.std.proofs.lemmas.Bool.{or_cases, and_parts, and_from, true≢false}
use Rattle.std.proofs.lemmas.Option.{none-some, same_Some}
use Rattle.std.proofs.lemmas.Slice.Eq.{bytes_eq-Decides}
use Rattle.netlist_core.specs.OwnWeight.{rows_weight}
use Rattle.netlist_meaning.specs.CoverValue.{cover_value}
use Rattle.cell_core.specs.declared.cells.Src.{Src}
use Rattle.cell_core.specs.declared.cells.Cell.{Cell}
use Rattle.cell_core.specs.declared.cells.Cell.TheVariants.{Or, Xor, AndNot}
use Rattle.cell_core.specs.declared.list.CellList.{CellList}
use Rattle.cell_core.specs.Sources.{is_there, are_there, reads_there, is_one, reads_one}
use Rattle.cell_core.specs.Meaning.{source_bit, cell_bit, cell_bits}
use Rattle.cell_sharing.specs.Grown.{Answers}
use Rattle.cover_cells.specs.Covers.{some_is_one, most_cells_of_cover, AnswersCover}
use Rattle.cell_meaning.specs.Singles.{is_only, are_both, are_pair, cell_of_rows, single_cell}
use Rattle.cell_sharing.proofs.Growing.{answers, grows_refl}

-- what a cell has that stands for a cover
pub record IsFor (sources : List Src) (rows : List (List ℕ)) (on : Bool) (cell : Cell) : Type 0 where
  pub there : (inputs latches made : ℕ) → are_there inputs latches made sources ≡ true → reads_there inputs latches made cell ≡ true
  pub one : reads_one cell ≡ true → some_is_one sources ≡ true
  pub value : (inputs state made : List Bool) → cell_bit inputs state made cell ≡ cover_value rows on (map (source_bit inputs state made) sources)
  pub few : 1 ≤ most_cells_of_cover rows on

-- ---- rows that are known
only_is : (rows : List (List ℕ)) (a : List ℕ) → is_only rows a ≡ true → rows ≡ a ∷ []
only_is [] a e = absurd (true≢false (sym e))
only_is (row ∷ []) a e = ap (λ r. r ∷ []) ((bytes_eq-Decides row a).0 e)
only_is (row ∷ other ∷ rows) a e = absurd (true≢false (sym e))

both_are : (rows : List (List ℕ)) (a b : List ℕ) → are_both rows a b ≡ true → rows ≡ a ∷ b ∷ []
both_are [] a b e = absurd (true≢false (sym e))
both_are (row ∷ []) a b e = absurd (true≢false (sym e))
both_are (row ∷ other ∷ []) a b e = ap₂ (λ r s. r ∷ s ∷ []) ((bytes_eq-Decides row a).0 (and_parts _ _ e).0) ((bytes_eq-Decides other b).0 (and_parts _ _ e).1)
both_are (row ∷ other ∷ third ∷ rows) a b e = absurd (true≢false (sym e))

pair_are : (rows : List (List ℕ)) (a b : List ℕ) → are_pair rows a b ≡ true → (rows ≡ a ∷ b ∷ []) ⊎ (rows ≡ b ∷ a ∷ [])
pair_are rows a b e = ⊎_elim (λ h. inl (both_are rows a b h)) (λ h. inr (both_are rows b a h)) (or_cases (are_both rows a b) (are_both rows b a) e)

-- ---- they may take a cell
two_few : (a b : List ℕ) → 1 ≤ most_cells_of_cover (a ∷ b ∷ []) true
two_few a b = let e : most_cells_of_cover (a ∷ b ∷ []) true ≡ 2 * rows_weight (a ∷ b ∷ []) = refl in omega (arith, e)

pair_few : (rows : List (List ℕ)) (a b : List ℕ) → are_pair rows a b ≡ true → 1 ≤ most_cells_of_cover rows true
pair_few rows a b e = ⊎_elim (λ h. subst (λ r. 1 ≤ most_cells_of_cover r true) (sym h) (two_few a b)) (λ h. subst (λ r. 1 ≤ most_cells_of_cover r true) (sym h) (two_few b a)) (pair_are rows a b e)

only_few : (rows : List (List ℕ)) (a : List ℕ) → is_only rows a ≡ true → most_cells_of_cover (a ∷ []) true ≡ 4 → 1 ≤ most_cells_of_cover rows true
only_few rows a e four = subst (λ r. 1 ≤ most_cells_of_cover r true) (sym (only_is rows a e)) (omega (arith, four))

-- ---- their values
four : (P : Bool → Bool → Type 0) → P true true → P true false → P false true → P false false → (p q : Bool) → P p q
four P tt' tf ft ff true true = tt'
four P tt' tf ft ff true false = tf
four P tt' tf ft ff false true = ft
four P tt' tf ft ff false false = ff

abbrev value_of : List (List ℕ) → Bool → Bool → Bool
value_of rows p q = cover_value rows true (p ∷ q ∷ [])

or_value : (p q : Bool) → (p || q) ≡ value_of (codes "1-" ∷ codes "-1" ∷ []) p q
or_value = four (λ p q. (p || q) ≡ value_of (codes "1-" ∷ codes "-1" ∷ []) p q) refl refl refl refl

or_value' : (p q : Bool) → (p || q) ≡ value_of (codes "-1" ∷ codes "1-" ∷ []) p q
or_value' = four (λ p q. (p || q) ≡ value_of (codes "-1" ∷ codes "1-" ∷ []) p q) refl refl refl refl

xor_value : (p q : Bool) → ((p || q) && not (p && q)) ≡ value_of (codes "10" ∷ codes "01" ∷ []) p q
xor_value = four (λ p q. ((p || q) && not (p && q)) ≡ value_of (codes "10" ∷ codes "01" ∷ []) p q) refl refl refl refl

xor_value' : (p q : Bool) → ((p || q) && not (p && q)) ≡ value_of (codes "01" ∷ codes "10" ∷ []) p q
xor_value' = four (λ p q. ((p || q) && not (p && q)) ≡ value_of (codes "01" ∷ codes "10" ∷ []) p q) refl refl refl refl

first_value : (p q : Bool) → (p && not q) ≡ value_of (codes "10" ∷ []) p q
first_value = four (λ p q. (p && not q) ≡ value_of (codes "10" ∷ []) p q) refl refl refl refl

second_value : (p q : Bool) → (q && not p) ≡ value_of (codes "01" ∷ []) p q
second_value = four (λ p q. (q && not p) ≡ value_of (codes "01" ∷ []) p q) refl refl refl refl

-- ---- the four cells
in_pair : (x y : Bool) → (x && (y && true)) ≡ true → (x && y) ≡ true
in_pair true y e = and_from _ _ refl (and_parts y true e).0
in_pair false y e = e

turned_pair : (x y : Bool) → (x && (y && true)) ≡ true → (y && x) ≡ true
turned_pair x y e = and_from y x (and_parts y true (and_parts x (y && true) e).1).0 (and_parts x (y && true) e).0

any_pair : (x y : Bool) → (x || y) ≡ true → (x || (y || false)) ≡ true
any_pair true y e = refl
any_pair false true e = refl
any_pair false false e = e

any_turned : (x y : Bool) → (y || x) ≡ true → (x || (y || false)) ≡ true
any_turned true y e = refl
any_turned false true e = refl
any_turned false false e = e

straight : (a b : Src) (rows : List (List ℕ)) (cell : Cell)
    → ((inputs latches made : ℕ) → (is_there inputs latches made a && is_there inputs latches made b) ≡ true → reads_there inputs latches made cell ≡ true)
    → (reads_one cell ≡ true → (is_one a || is_one b) ≡ true)
    → ((inputs state made : List Bool) → cell_bit inputs state made cell ≡ value_of rows (source_bit inputs state made a) (source_bit inputs state made b))
    → 1 ≤ most_cells_of_cover rows true
    → IsFor (a ∷ b ∷ []) rows true cell
straight a b rows cell there one value few =
    record {
      there = λ inputs latches made all. there inputs latches made (in_pair (is_there inputs latches made a) (is_there inputs latches made b) all);
      one = λ e. any_pair (is_one a) (is_one b) (one e);
      value = value;
      few = few;
    }

split : (t : Bool) (x cell : Cell) (rest : Option Cell) → cond t (Some x) rest ≡ Some cell → ((t ≡ true) × (x ≡ cell)) ⊎ (rest ≡ Some cell)
split true x cell rest e = inl (refl, same_Some _ _ e)
split false x cell rest e = inr e

of_or : (a b : Src) (rows : List (List ℕ)) → are_pair rows (codes "1-") (codes "-1") ≡ true → IsFor (a ∷ b ∷ []) rows true (Or a b)
of_or a b rows e =
    straight a b rows (Or a b) (λ inputs latches made h. h) (λ h. h) (λ inputs state made.
    ⊎_elim
    (λ h. or_value (source_bit inputs state made a) (source_bit inputs state made b) ∙ ap (λ r. value_of r (source_bit inputs state made a) (source_bit inputs state made b)) (sym h))
    (λ h. or_value' (source_bit inputs state made a) (source_bit inputs state made b) ∙ ap (λ r. value_of r (source_bit inputs state made a) (source_bit inputs state made b)) (sym h))
    (pair_are rows (codes "1-") (codes "-1") e)) (pair_few rows (codes "1-") (codes "-1") e)

of_xor : (a b : Src) (rows : List (List ℕ)) → are_pair rows (codes "10") (codes "01") ≡ true → IsFor (a ∷ b ∷ []) rows true (Xor a b)
of_xor a b rows e =
    straight a b rows (Xor a b) (λ inputs latches made h. h) (λ h. h) (λ inputs state made.
    ⊎_elim
    (λ h. xor_value (source_bit inputs state made a) (source_bit inputs state made b) ∙ ap (λ r. value_of r (source_bit inputs state made a) (source_bit inputs state made b)) (sym h))
    (λ h. xor_value' (source_bit inputs state made a) (source_bit inputs state made b) ∙ ap (λ r. value_of r (source_bit inputs state made a) (source_bit inputs state made b)) (sym h))
    (pair_are rows (codes "10") (codes "01") e)) (pair_few rows (codes "10") (codes "01") e)

of_first : (a b : Src) (rows : List (List ℕ)) → is_only rows (codes "10") ≡ true → IsFor (a ∷ b ∷ []) rows true (AndNot a b)
of_first a b rows e =
    straight a b rows (AndNot a b) (λ inputs latches made h. h) (λ h. h) (λ inputs state made.
    first_value (source_bit inputs state made a) (source_bit inputs state made b) ∙ ap (λ r. value_of r (source_bit inputs state made a) (source_bit inputs state made b)) (sym (only_is rows (codes "10") e))) (only_few rows (codes "10") e refl)

of_second : (a b : Src) (rows : List (List ℕ)) → is_only rows (codes "01") ≡ true → IsFor (a ∷ b ∷ []) rows true (AndNot b a)
of_second a b rows e =
    record {
      there = λ inputs latches made all. turned_pair (is_there inputs latches made a) (is_there inputs latches made b) all;
      one = λ h. any_turned (is_one a) (is_one b) h;
      value = λ inputs state made.
          second_value (source_bit inputs state made a) (source_bit inputs state made b) ∙ ap (λ r. value_of r (source_bit inputs state made a) (source_bit inputs state made b)) (sym (only_is rows (codes "01") e));
      few = only_few rows (codes "01") e refl;
    }

of_rows : (a b : Src) (rows : List (List ℕ)) (cell : Cell) → cell_of_rows a b rows ≡ Some cell → IsFor (a ∷ b ∷ []) rows true cell
of_rows a b rows cell e =
    ⊎_elim (λ h. subst (IsFor (a ∷ b ∷ []) rows true) h.1 (of_or a b rows h.0))
    (λ e1. ⊎_elim (λ h. subst (IsFor (a ∷ b ∷ []) rows true) h.1 (of_xor a b rows h.0))
    (λ e2. ⊎_elim (λ h. subst (IsFor (a ∷ b ∷ []) rows true) h.1 (of_first a b rows h.0))
    (λ e3. ⊎_elim (λ h. subst (IsFor (a ∷ b ∷ []) rows true) h.1 (of_second a b rows h.0)) (λ e4. absurd (none-some cell e4)) (split _ _ cell _ e3))
    (split _ _ cell _ e2)) (split _ _ cell _ e1)) (split _ _ cell _ e)

pub single_is_for : (sources : List Src) (rows : List (List ℕ)) (on : Bool) (cell : Cell) → single_cell sources rows on ≡ Some cell → IsFor sources rows on cell
single_is_for [] rows on cell e = absurd (none-some cell e)
single_is_for (a ∷ []) rows on cell e = absurd (none-some cell e)
single_is_for (a ∷ b ∷ []) rows true cell e = of_rows a b rows cell e
single_is_for (a ∷ b ∷ []) rows false cell e = absurd (none-some cell e)
single_is_for (a ∷ b ∷ c ∷ sources) rows on cell e = absurd (none-some cell e)

pub single_answers : (l l' : CellList) (sources : List Src) (rows : List (List ℕ)) (on : Bool) (cell : Cell) (src : Src) → single_cell sources rows on ≡ Some cell
    → Answers l l' 1 (reads_one cell ≡ true) src (λ inputs state. cell_bit inputs state (cell_bits inputs state l.cells) cell) → AnswersCover l l' sources rows on src
single_answers l l' sources rows on cell src is h =
    answers l l l' 0 1 _ (reads_one cell ≡ true) _ _ src _ (grows_refl l (reads_one cell ≡ true)) h (λ e. inl (inl ((single_is_for sources rows on cell is).one e))) (λ e. inl (inl ((single_is_for sources rows on cell is).one e))) (let few = (single_is_for sources rows on cell is).few in omega (arith, few))
    _ (λ inputs state. (single_is_for sources rows on cell is).value inputs state (cell_bits inputs state l.cells))

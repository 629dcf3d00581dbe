-- Covers that are a constant by their text.
use Rattle.std.proofs.Common.{◌≡◌, refl, sym, ap, subst, ℕ, Bool, true, false, ◌||◌, not, List, [], ◌∷◌, length, Some, inl, inr, arith}
use Rattle.std.proofs.lemmas.Bool.{true≢false}
use Rattle.std.proofs.lemmas.Option.{none-some, same_Some}
use Rattle.cell_core.specs.declared.cells.Src.{Src}
use Rattle.cell_core.specs.declared.cells.Src.TheVariants.{Zero}
use Rattle.cell_core.specs.declared.list.CellList.{CellList}
use Rattle.netlist_meaning.specs.CoverValue.{product_holds, any_holds, cover_value}
use Rattle.cell_sharing.specs.Grown.{bits_of}
use Rattle.cover_cells.specs.Covers.{CoverNeedsOne, AnswersCover}
use Rattle.cell_meaning.specs.Singles.{constant_source}
use Rattle.cell_sharing.proofs.Growing.{grows, grows_refl}

zero_answers : (l : CellList) (sources : List Src) (rows : List (List ℕ)) (on : Bool) → ((inputs state : List Bool) → false ≡ cover_value rows on (bits_of l sources inputs state)) → AnswersCover l l sources rows on Zero
zero_answers l sources rows on value =
    record {
      grows = grows l l l 0 0 _ _ _ _ (grows_refl l (CoverNeedsOne sources rows on)) (grows_refl l (CoverNeedsOne sources rows on)) (λ p. p) (λ p. p) (omega arith);
      there = refl;
      one = λ e. absurd (true≢false (sym e));
      bit = value;
    }

-- every row holds where there are no nets
row_holds : (row : List ℕ) → product_holds row [] ≡ true
row_holds [] = refl
row_holds (c ∷ row) = refl

some_holds : (row : List ℕ) (rows : List (List ℕ)) → any_holds (row ∷ rows) [] ≡ true
some_holds row rows = ap (λ b. b || any_holds rows []) (row_holds row)

-- without rows 0, and without nets what the rows end in
pub constant_answers : (l : CellList) (sources : List Src) (rows : List (List ℕ)) (on : Bool) (src : Src) → constant_source (length sources) rows on ≡ Some src → AnswersCover l l sources rows on src
constant_answers l sources [] on src e = subst (AnswersCover l l sources [] on) (same_Some _ _ e) (zero_answers l sources [] on (λ inputs state. refl))
constant_answers l [] (row ∷ rows) true src e =
    subst (AnswersCover l l [] (row ∷ rows) true) (same_Some _ _ e)
    (record {
      grows = grows l l l 0 0 _ _ _ _ (grows_refl l (CoverNeedsOne [] (row ∷ rows) true)) (grows_refl l (CoverNeedsOne [] (row ∷ rows) true)) (λ p. p) (λ p. p) (omega arith);
      there = refl;
      one = λ h. inl (inr refl);
      bit = λ inputs state. sym (some_holds row rows);
    })
constant_answers l [] (row ∷ rows) false src e = subst (AnswersCover l l [] (row ∷ rows) false) (same_Some _ _ e) (zero_answers l [] (row ∷ rows) false (λ inputs state. sym (ap not (some_holds row rows))))
constant_answers l (a ∷ sources) (row ∷ rows) on src e = absurd (none-some src e)

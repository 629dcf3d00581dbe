-- Marks for the lanes of a span.
use Rattle.std.proofs.Common.{◌≡◌, sym, ◌∙◌, subst, ℕ, ◌+◌, ◌<◌, ◌≤◌, Bool, true, false, eqb, List, [], length, get_or, set, take, replicate, ⊎_elim, eq-eqb, get_or-set_other, get_or-set_same, arith}
use Rattle.std.specs.Prelude.{◌≢◌, ◌⊎◌}
use Rattle.std.specs.List.{list_any}
use Rattle.std.proofs.lemmas.Bool.Decides.{nat_tests}
use Rattle.std.proofs.lemmas.Bool.{cases_eq, eqb-true}
use Rattle.std.proofs.lemmas.Grind.{get_or_default_zero}
use Rattle.std.proofs.lemmas.List.{get_or-take, get_or-replicate, length-replicate, length-set, length-take, take_more}
use Rattle.std.proofs.lemmas.List.Folds.{list_any_more, list_any_at, Any-from_list_any}
use Rattle.std.proofs.lemmas.List.Quantifiers.{all_pairs_push}
use Rattle.macro_grid.specs.Spans.{AreDistinctWithin}

-- a mark for each of the lanes from `from` on, as many as `size`: whether it is among the lanes
abbrev pub AreMarksOf : ℕ → ℕ → List ℕ → List Bool → Type 0
AreMarksOf size from lanes marks = (k : ℕ) → k < size → get_or marks k false ≡ list_any (λ y. eqb y (from + k)) lanes

-- the span has been looked at as far as these lanes, and none of them stands twice
pub record IsMarked (size from : ℕ) (lanes : List ℕ) (marks : List Bool) : Type 0 where
  pub full : length marks ≡ size
  pub each : AreMarksOf size from lanes marks
  pub distinct : AreDistinctWithin from (from + size) lanes

pub marked_start : (size from : ℕ) → IsMarked size from [] (replicate size false)
marked_start size from = record {
  full = length-replicate size false;
  each = λ k h. get_or-replicate size k false false h;
  distinct = λ i j d order within. absurd (omega arith);
}

distinct_more : (low high : ℕ) (xs : List ℕ) (i : ℕ) → i < length xs → AreDistinctWithin low high (take i xs)
    → ((k d : ℕ) → k < length (take i xs) → low ≤ get_or (take i xs) k d → get_or (take i xs) k d < high → get_or (take i xs) k d ≢ get_or xs i 0)
    → AreDistinctWithin low high (take (i + 1) xs)
distinct_more low high xs i within before other =
    subst (λ (ys : List ℕ). AreDistinctWithin low high ys) (sym (take_more xs i 0 within))
    (all_pairs_push (λ a b. low ≤ a → a < high → a ≢ b) (take i xs) (get_or xs i 0) before other)

-- a lane outside the span
pub marked_past : (size from : ℕ) (xs : List ℕ) (i : ℕ) (marks : List Bool) → i < length xs → IsMarked size from (take i xs) marks
    → (get_or xs i 0 < from) ⊎ (from + size ≤ get_or xs i 0) → IsMarked size from (take (i + 1) xs) marks
marked_past size from xs i marks within h out = record {
  full = h.full;
  each = λ k low.
      (let off : eqb (get_or xs i 0) (from + k) ≡ false = ⊎_elim (λ below. grind (arith, nat_tests)) (λ past. grind (arith, nat_tests)) out in
      let more = list_any_more (λ y. eqb y (from + k)) xs i 0 within in
      grind (arith, nat_tests, h.each k low));
  distinct = distinct_more from (from + size) xs i within h.distinct
      (λ k d low reached before same. ⊎_elim (λ below. omega arith) (λ past. omega arith) out);
}

-- a lane of the span that had no mark
pub marked_once : (size from : ℕ) (xs : List ℕ) (i place : ℕ) (marks : List Bool) → i < length xs → IsMarked size from (take i xs) marks
    → place < size → get_or xs i 0 ≡ from + place → get_or marks place false ≡ false
    → IsMarked size from (take (i + 1) xs) (set marks place true)
marked_once size from xs i place marks within h small here fresh = record {
  full = length-set marks place true ∙ h.full;
  each = λ k low.
      (let more = list_any_more (λ y. eqb y (from + k)) xs i 0 within in
      ⊎_elim
      (λ same. (let on : eqb (get_or xs i 0) (from + k) ≡ true = grind (arith, nat_tests) in
      let fits : place < length marks = omega (arith, h.full) in
      let lit : get_or (set marks place true) place false ≡ true = get_or-set_same marks place true false fits in
      grind (arith, nat_tests)))
      (λ differ. (let off : eqb (get_or xs i 0) (from + k) ≡ false = grind (arith, nat_tests) in
      let kept : get_or (set marks place true) k false ≡ get_or marks k false = get_or-set_other marks place k true false differ in
      grind (arith, nat_tests, h.each k low)))
      (cases_eq k place));
  distinct = distinct_more from (from + size) xs i within h.distinct
      (λ k d low reached before same.
      (let none : list_any (λ y. eqb y (from + place)) (take i xs) ≡ false = sym (h.each place small) ∙ fresh in
      let some = list_any_at (λ y. eqb y (from + place)) (take i xs) k d low (eq-eqb _ _ (same ∙ here)) in cc));
}

-- a lane of the span that had its mark
pub marked_twice : (size from : ℕ) (xs : List ℕ) (i place : ℕ) (marks : List Bool) → i < length xs → IsMarked size from (take i xs) marks
    → place < size → get_or xs i 0 ≡ from + place → get_or marks place false ≡ true
    → AreDistinctWithin from (from + size) xs → ⊥
marked_twice size from xs i place marks within h small here lit all =
    let found = Any-from_list_any (λ y. eqb y (from + place)) (take i xs) (sym (h.each place small) ∙ lit) in
    let earlier : found.0 < i = omega (arith, found.2, length-take i xs) in
    let value : get_or xs found.0 found.1 ≡ from + place = sym (get_or-take i xs found.0 found.1 earlier) ∙ found.3 ∙ eqb-true _ _ found.4 in
    all found.0 i found.1 earlier within (omega arith) (omega arith) (value ∙ sym (get_or_default_zero xs i found.1 within ∙ here))

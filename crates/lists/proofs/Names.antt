-- That names are compared by their bytes: an equivalence, and membership.
use Rattle.std.proofs.Common.{ℕ, ◌≡◌, ◌≢◌, ◌∙◌, refl, sym, ap, List, true, false}
use Rattle.std.specs.Cmp.{both_ways, IsEquivalence}
use Rattle.std.specs.Prelude.{bytes_eq}
use Rattle.std.specs.Bool.{one_answer}
use Rattle.std.proofs.lemmas.Slice.Eq.{bytes_eq-Decides}
use Rattle.std.proofs.lemmas.Bool.{false_from_ne_true, true≢false}

pub bytes_eq-same : (x : List ℕ) → bytes_eq x x ≡ true
bytes_eq-same x = (bytes_eq-Decides x x).1 refl

pub bytes_eq-turned : (x y : List ℕ) → bytes_eq x y ≡ bytes_eq y x
bytes_eq-turned x y =
    both_ways (bytes_eq x y) (bytes_eq y x) (λ e. (bytes_eq-Decides y x).1 (sym ((bytes_eq-Decides x y).0 e))) (λ e. (bytes_eq-Decides x y).1 (sym ((bytes_eq-Decides y x).0 e)))

pub bytes_eq-other : (x y : List ℕ) → x ≢ y → bytes_eq x y ≡ false
bytes_eq-other x y apart = false_from_ne_true (bytes_eq x y) (λ e. apart ((bytes_eq-Decides x y).0 e))

-- names that differ, by computing
pub apart_by : (x y : List ℕ) → bytes_eq x y ≡ false → x ≢ y
apart_by x y differs same = true≢false (sym ((bytes_eq-Decides x y).1 same) ∙ differs)

pub names_are_equal : IsEquivalence bytes_eq
names_are_equal =
    record {
      refl = bytes_eq-same;
      symm = λ x y. one_answer _ _ (bytes_eq-Decides x y) ((λ e. sym ((bytes_eq-Decides y x).0 e)), λ e. (bytes_eq-Decides y x).1 (sym e));
      congr = λ x y z e. ap (λ t. bytes_eq t z) ((bytes_eq-Decides x y).0 e);
    }

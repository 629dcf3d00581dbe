-- A list that was parted before and after one of its items.
use Rattle.std.proofs.Common.{ℕ, ◌+◌, ◌-◌, ◌<◌, ◌≡◌, sym, ap, ◌∙◌, List, ◌++◌, length, get_or, slice_set, arith}
use Rattle.std.proofs.lemmas.List.{set-append_left, set-append_right, length-append}
use Rattle.std.proofs.Math.ListN.{get_or-append}
use Rattle.std.proofs.Math.Seq.{get_or-append_right}

pub record IsParted {X : Type 0} (xs : List X) (r : ℕ) (before own after : List X) : Type 0 where
  pub whole : xs ≡ before ++ (own ++ after)
  pub place : length before ≡ r
  pub one : length own ≡ 1

-- parted twice: before the item, and after it
pub parted : {X : Type 0} (xs before rest own after : List X) (r : ℕ) → xs ≡ before ++ rest → length before ≡ r → rest ≡ own ++ after → length own ≡ 1 → IsParted xs r before own after
parted xs before rest own after r v p w o = record { whole = v ∙ ap (λ ys. before ++ ys) w; place = p; one = o }

module _ {X : Type 0} (xs before own after : List X) (r : ℕ) (p : IsParted xs r before own after) where
  pub many : length xs ≡ r + 1 + length after
  many =
      let e = ap length p.whole in
      let l = length-append before (own ++ after) in
      let m = length-append own after in
      let place = p.place in
      let one = p.one in
      omega (arith, e, l, m, place, one)

  pub at_before : (k : ℕ) (d : X) → k < r → get_or before k d ≡ get_or xs k d
  at_before k d lt =
      let place = p.place in
      sym (ap (λ xs. get_or xs k d) p.whole ∙ get_or-append before (own ++ after) d k (omega (arith, lt, place)))

  pub at_own : (d : X) → get_or own 0 d ≡ get_or xs r d
  at_own d =
      let place = p.place in
      let one = p.one in
      let zero : r - length before ≡ 0 = omega (arith, place) in
      sym (ap (λ xs. get_or xs r d) p.whole ∙ get_or-append_right before (own ++ after) r d (omega (arith, place)) ∙ ap (λ i. get_or (own ++ after) i d) zero ∙ get_or-append own after d 0 (omega (arith, one)))

  pub at_after : (d : X) → get_or after 0 d ≡ get_or xs (r + 1) d
  at_after d =
      let place = p.place in
      let one = p.one in
      let first : r + 1 - length before ≡ 1 = omega (arith, place) in
      let zero : 1 - length own ≡ 0 = omega (arith, one) in
      sym (ap (λ xs. get_or xs (r + 1) d) p.whole ∙ get_or-append_right before (own ++ after) (r + 1) d (omega (arith, place)) ∙ ap (λ i. get_or (own ++ after) i d) first ∙ get_or-append_right own after 1 d (omega (arith, one)) ∙ ap (λ i. get_or after i d) zero)

  pub put_together : (new : X) → before ++ (slice_set own 0 new ++ after) ≡ slice_set xs r new
  put_together new =
      let one = p.one in
      let zero : r - r ≡ 0 = omega arith in
      sym (ap (λ xs. slice_set xs r new) p.whole ∙ set-append_right before (own ++ after) r r new p.place (omega arith) ∙ ap (λ i. before ++ slice_set (own ++ after) i new) zero ∙ ap (λ ys. before ++ ys) (set-append_left own after 0 new (omega (arith, one))))

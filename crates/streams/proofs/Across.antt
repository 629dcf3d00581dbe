-- Rows of bits, read across.
use Rattle.std.proofs.Common.{ℕ, zero, suc, ◌≡◌, ◌<◌, refl, sym, ap₂, ◌∙◌, Bool, false, List, [], ◌∷◌, All, length, map, get_or, arith}
use Rattle.std.specs.Prelude.{slice_get, unwrap_or}
use Rattle.std.specs.List.{range_with_len}
use Rattle.std.proofs.lemmas.List.{length-map, get_or-map, same_lists}
use Rattle.std.proofs.lemmas.List.Elements.{All-map}
use Rattle.std.proofs.lemmas.List.FromFn.{length-map-range_with_len, get_or-map-range_with_len}
use Rattle.streams.specs.Rows.{bits_across}

module _ {X : Type 0} where
  bit_at : (f : X → Bool) (xs : List X) (k : ℕ) (d : X) → k < length xs → unwrap_or (slice_get (map f xs) k) false ≡ f (get_or xs k d)
  bit_at f [] k d lt = absurd (omega arith)
  bit_at f (x ∷ xs) zero d lt = refl
  bit_at f (x ∷ xs) (suc k) d lt = bit_at f xs k d (omega arith)

  column_at : (f : X → ℕ → Bool) (xs : List X) (ts : List ℕ) (k : ℕ) (d : X) → k < length xs → bits_across (map (λ t. map (λ x. f x t) xs) ts) k ≡ map (f (get_or xs k d)) ts
  column_at f xs [] k d lt = refl
  column_at f xs (t ∷ ts) k d lt = ap₂ (λ (b : Bool) (bs : List Bool). b ∷ bs) (bit_at (λ x. f x t) xs k d lt) (column_at f xs ts k d lt)

  -- the columns of the rows are the bits of each
  pub columns_are : (f : X → ℕ → Bool) (xs : List X) (ts : List ℕ) → map (bits_across (map (λ t. map (λ x. f x t) xs) ts)) (range_with_len 0 (length xs)) ≡ map (λ x. map (f x) ts) xs
  columns_are f [] ts = refl
  columns_are f (x ∷ xs) ts =
      let column = bits_across (map (λ t. map (λ x. f x t) (x ∷ xs)) ts) in
      let own = λ (x : X). map (f x) ts in
      let n = length (x ∷ xs) in
      let long : length (map column (range_with_len 0 n)) ≡ n = length-map-range_with_len column 0 n in
      same_lists (map column (range_with_len 0 n)) (map own (x ∷ xs)) (long ∙ sym (length-map (x ∷ xs) own))
      (λ k d lt.
      let in_list : k < n = omega arith in
      get_or-map-range_with_len column 0 n k k d in_list (omega arith)
      ∙ column_at f (x ∷ xs) ts k x in_list
      ∙ sym (get_or-map own (x ∷ xs) k x d in_list))

  -- and all rows are equally long
  pub rows_long : (f : X → ℕ → Bool) (xs : List X) (ts : List ℕ) → All (λ row. length row ≡ length xs) (map (λ t. map (λ x. f x t) xs) ts)
  rows_long f xs ts = All-map (λ (row : List Bool). length row ≡ length xs) (λ t. map (λ x. f x t) xs) ts (λ k d lt. length-map xs (λ x. f x (get_or ts k d)))

-- Pieces for each number of a range.
use Rattle.std.proofs.Common.{ℕ, ◌≡◌, ◌+◌, refl, ap, ◌∙◌, List, [], ◌∷◌, ◌++◌, map, arith}
use Rattle.std.specs.Prelude.{flat_map}
use Rattle.std.specs.List.{range_with_len}
use Rattle.std.proofs.lemmas.List.{map-append}
use Rattle.streams.proofs.Ranges.{flat_map_more}

-- one more number
pub pieces_more : {X : Type 0} (piece : ℕ → List X) (n : ℕ) → flat_map piece (range_with_len 0 (n + 1)) ≡ flat_map piece (range_with_len 0 n) ++ piece n
pieces_more piece n =
    let same : 0 + n ≡ n = omega arith in
    flat_map_more piece 0 n ∙ ap (λ k. flat_map piece (range_with_len 0 n) ++ piece k) same

module _ {W X : Type 0} where
  -- where each piece is empty, so is the whole
  pub no_pieces : (piece : W → List X) (ws : List W) → ((w : W) → piece w ≡ []) → flat_map piece ws ≡ []
  no_pieces piece [] none = refl
  no_pieces piece (w ∷ ws) none = ap (λ (front : List X). front ++ flat_map piece ws) (none w) ∙ no_pieces piece ws none

  -- a function of each element of the pieces
  pub map-flat_map : {Y : Type 0} (f : X → Y) (piece : W → List X) (ws : List W) → map f (flat_map piece ws) ≡ flat_map (λ w. map f (piece w)) ws
  map-flat_map f piece [] = refl
  map-flat_map f piece (w ∷ ws) = map-append f (piece w) (flat_map piece ws) ∙ ap (λ (later : List _). map f (piece w) ++ later) (map-flat_map f piece ws)

-- What is left of pieces that are written one after another.
use Rattle.std.proofs.Common.{◌≡◌, ℕ, ◌+◌, ◌≤◌, ◌<◌, List, ◌++◌, flat_map, drop, length, get_or, ap, ◌∙◌, append_assoc, drop_of_length-le}
use Rattle.std.proofs.lemmas.List.{drop_more}

-- what is left of the pieces begins with the next
module _ {X : Type 0} (f : X → List ℕ) where
  pub piece_next : (here : List ℕ) (xs : List X) (i : ℕ) (d : X) (rest : List ℕ) → i < length xs
      → here ++ (flat_map f (drop i xs) ++ rest) ≡ here ++ (f (get_or xs i d) ++ (flat_map f (drop (i + 1) xs) ++ rest))
  piece_next here xs i d rest within =
      ap (λ l. here ++ (flat_map f l ++ rest)) (drop_more xs i d within)
      ∙ ap (λ l. here ++ l) (append_assoc (f (get_or xs i d)) (flat_map f (drop (i + 1) xs)) rest)

  pub pieces_none : (here : List ℕ) (xs : List X) (i : ℕ) (rest : List ℕ) → length xs ≤ i → here ++ (flat_map f (drop i xs) ++ rest) ≡ here ++ rest
  pieces_none here xs i rest past = ap (λ l. here ++ (flat_map f l ++ rest)) (drop_of_length-le xs past)

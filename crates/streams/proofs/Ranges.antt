-- Lists over a range that grows.
use Rattle.std.proofs.Common.{ℕ, zero, suc, ◌≡◌, ◌<◌, ◌+◌, ◌++◌, ◌∷◌, [], refl, sym, ap, ap₂, ◌∙◌, List, arith}
use Rattle.std.specs.Prelude.{flat_map}
use Rattle.std.specs.List.{range_with_len}
use Rattle.std.proofs.lemmas.List.{append-nil, append_assoc, map-id}
use Rattle.std.proofs.lemmas.List.FromFn.{map-range_with_len_more}
use Rattle.std.proofs.lemmas.Grind.{flat_map-append}

range_more : (a n : ℕ) → range_with_len a (n + 1) ≡ range_with_len a n ++ (a + n) ∷ []
range_more a n =
    sym (map-id (range_with_len a (n + 1))) ∙ map-range_with_len_more (λ x. x) a n (a + n) refl ∙ ap (λ xs. xs ++ (a + n) ∷ []) (map-id (range_with_len a n))

module _ {X : Type 0} (f : ℕ → List X) where
  -- one more
  pub flat_map_more : (a n : ℕ) → flat_map f (range_with_len a (n + 1)) ≡ flat_map f (range_with_len a n) ++ f (a + n)
  flat_map_more a n =
      ap (flat_map f) (range_more a n)
      ∙ flat_map-append f (range_with_len a n) ((a + n) ∷ [])
      ∙ ap (λ last. flat_map f (range_with_len a n) ++ last) (append-nil (f (a + n)))

  -- so many more
  pub flat_map_rest : (m d : ℕ) → (rest : List X) × (flat_map f (range_with_len 0 (m + d)) ≡ flat_map f (range_with_len 0 m) ++ rest)
  flat_map_rest m zero =
      let same : m + 0 ≡ m = omega arith in
      ([], ap (λ n. flat_map f (range_with_len 0 n)) same ∙ sym (append-nil (flat_map f (range_with_len 0 m))))
  flat_map_rest m (suc d) =
      let (rest, e) = flat_map_rest m d in
      let next : m + suc d ≡ m + d + 1 = omega arith in (
        rest ++ f (0 + (m + d)),
        ap (λ n. flat_map f (range_with_len 0 n)) next ∙ flat_map_more 0 (m + d) ∙ ap (λ xs. xs ++ f (0 + (m + d))) e
            ∙ append_assoc (flat_map f (range_with_len 0 m)) rest (f (0 + (m + d))),
      )

-- functions that agree on a range
pub flat_map_same : {X : Type 0} (f g : ℕ → List X) (n : ℕ) → ((i : ℕ) → i < n → f i ≡ g i) → flat_map f (range_with_len 0 n) ≡ flat_map g (range_with_len 0 n)
flat_map_same f g zero same = refl
flat_map_same f g (suc n) same =
    let next : suc n ≡ n + 1 = omega arith in
    let at : 0 + n ≡ n = omega arith in
    ap (λ m. flat_map f (range_with_len 0 m)) next
    ∙ flat_map_more f 0 n
    ∙ ap₂ (λ xs ys. xs ++ ys) (flat_map_same f g n (λ i less. same i (omega (arith, less)))) (ap f at ∙ same n (omega arith) ∙ ap g (sym at))
    ∙ sym (flat_map_more g 0 n)
    ∙ ap (λ m. flat_map g (range_with_len 0 m)) (sym next)

-- Items of a list that is made of another in two steps, by number.
use Rattle.std.proofs.Common.{ℕ, ◌<◌, ◌≡◌, ◌∙◌, sym, ap, List, length, map, get_or, Some, slice_get, arith}
use Rattle.std.specs.Prelude.{Contains}
use Rattle.std.specs.Option.{option_map}
use Rattle.std.proofs.lemmas.List.{length-map}
use Rattle.std.proofs.lemmas.Option.{same_Some, slice_get-map, slice_get-get_or, slice_get_within}
use Rattle.lists.proofs.Members.{in_from, contains_from, in_got, got_from}

module _ {A B C : Type 0} (f : B → C) (g : A → B) (xs : List A) (d : A) where
  pub mapped : (k : ℕ) → k < length xs → slice_get (map f (map g xs)) k ≡ Some (f (g (get_or xs k d)))
  mapped k low = slice_get-map f (map g xs) k ∙ ap (option_map f) (slice_get-map g xs k ∙ ap (option_map g) (slice_get-get_or xs k d low))

  pub within : (k : ℕ) (y : C) → slice_get (map f (map g xs)) k ≡ Some y → k < length xs
  within k y at =
      let low = slice_get_within (map f (map g xs)) k y at in
      let outer = length-map (map g xs) f in
      let inner = length-map xs g in
      omega (arith, low, outer, inner)

  pub found : (k : ℕ) (y : C) → slice_get (map f (map g xs)) k ≡ Some y → y ≡ f (g (get_or xs k d))
  found k y at = same_Some _ _ (sym at ∙ mapped k (within k y at))

  -- a member, by its number
  pub record Member (y : C) : Type 0 where
    pub number : ℕ
    pub low : number < length xs
    pub is : y ≡ f (g (get_or xs number d))

  pub member : (y : C) → Contains (map f (map g xs)) y → Member y
  member y among =
      let at = got_from (map f (map g xs)) y (in_from (map f (map g xs)) y among) in
      record { number = at.0; low = within at.0 y at.1; is = found at.0 y at.1 }

  pub among : (k : ℕ) → k < length xs → Contains (map f (map g xs)) (f (g (get_or xs k d)))
  among k low = contains_from _ _ (in_got _ k _ (mapped k low))

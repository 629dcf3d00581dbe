-- From a run of one machine to one of another that has the same cycles.
use Rattle.std.proofs.Common.{◌≡◌, refl, sym, ◌∙◌, subst, ℕ, Bool, List}
use Rattle.std.specs.Prelude.{Option, Some, None, slice_get}
use Rattle.std.proofs.lemmas.Option.{none-some, same_Some}

module _ {Bits Others : Type 0} (Solves : List Bool → List Bool → Bits → Type 0) (Solved : List Bool → List Bool → Others → Type 0) (Same : Bits → Others → Type 0)
    (other_of : (inputs state : List Bool) (bits : Bits) → Solves inputs state bits → (others : Others) × Solved inputs state others × Same bits others)
    (rows : List (List Bool)) (state : ℕ → List Bool) (run : ℕ → Bits) (is_run : (t : ℕ) (row : List Bool) → slice_get rows t ≡ Some row → Solves row (state t) (run t)) (nothing : Others) where
  in_row : (t : ℕ) (o : Option (List Bool)) → slice_get rows t ≡ o → Others
  in_row t None e = nothing
  in_row t (Some row) e = (other_of row (state t) (run t) (is_run t row e)).0

  -- the bits of each cycle, which are the other machine's in the same state
  pub other_run : ℕ → Others
  other_run t = in_row t (slice_get rows t) refl

  pub each_cycle : (t : ℕ) (row : List Bool) → slice_get rows t ≡ Some row → Solved row (state t) (other_run t) × Same (run t) (other_run t)
  unfolding other_run in_row
  each_cycle t row e = by (slice_get rows t) refl
    where
      by : (o : Option (List Bool)) (f : slice_get rows t ≡ o) → Solved row (state t) (in_row t o f) × Same (run t) (in_row t o f)
      by None f = absurd (none-some row (sym f ∙ e))
      by (Some own) f =
          let found = other_of own (state t) (run t) (is_run t own f) in
          (subst (λ r. Solved r (state t) (in_row t (Some own) f)) (same_Some own row (sym f ∙ e)) found.1, found.2)

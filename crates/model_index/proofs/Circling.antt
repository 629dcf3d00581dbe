-- A circle by numbers is one of models.
use Rattle.std.proofs.Common.{◌≡◌, subst, ℕ, suc, ◌+◌, ◌-◌, ◌<◌, List, [], ◌∷◌, length, map, get_or, arith}
use Rattle.netlist_core.specs.declared.model.Model.{Model}
use Rattle.depth_walk.specs.Links.{Links, LeadsOnTo}
use Rattle.depth_walk.specs.Order.{IsCircleOf}
use Rattle.model_index.specs.Links.{AreLines}
use Rattle.model_index.specs.Numbers.{name_at, PlacesSomewhere, LeadsBy}
use Rattle.model_index.specs.Reasons.{IsCircular}
use Rattle.model_index.proofs.Naming.{placed_named, leads_named}
use Rattle.model_index.proofs.Linked.{placed_by}

-- numbers of which each places the next lead on to what the last places
leads_along : (models : List Model) (x : ℕ) (xs : List ℕ) (end : ℕ) → ((i : ℕ) → i + 1 < length (x ∷ xs) → PlacesSomewhere models (get_or (x ∷ xs) i 0) (get_or (x ∷ xs) (i + 1) 0))
    → PlacesSomewhere models (get_or (x ∷ xs) (length (x ∷ xs) - 1) 0) end → LeadsBy models x xs end
leads_along models x [] end each last = last
leads_along models x (y ∷ ys) end each last =
    let more : length (x ∷ y ∷ ys) - 1 ≡ suc (length (y ∷ ys) - 1) = omega arith in
    (each 0 (omega arith), leads_along models y ys end (λ i l. onward i (each (suc i) (omega arith))) (subst (λ v. PlacesSomewhere models (get_or (x ∷ y ∷ ys) v 0) end) more last))
  where
    onward : (i : ℕ) → PlacesSomewhere models (get_or (y ∷ ys) i 0) (get_or (x ∷ y ∷ ys) (suc i + 1) 0) → PlacesSomewhere models (get_or (y ∷ ys) i 0) (get_or (y ∷ ys) (i + 1) 0)
    onward i p = let e : suc i + 1 ≡ suc (i + 1) = omega arith in subst (λ v. PlacesSomewhere models (get_or (y ∷ ys) i 0) (get_or (x ∷ y ∷ ys) v 0)) e p

pub circular : (models : List Model) (links : Links) (circle : List ℕ) → AreLines models links → IsCircleOf links circle → IsCircular models
circular models links [] are c = absurd (let some : 0 < length {A = ℕ} [] = c.some in omega arith)
circular models links (x ∷ xs) are c =
    let (k, closing) = c.closes in
    let placed = placed_by models links are (get_or (x ∷ xs) (length (x ∷ xs) - 1) 0) k x closing in (
      name_at models x,
      map (name_at models) xs,
      leads_named models (name_at models x) x xs x (placed_named models (get_or (x ∷ xs) (length (x ∷ xs) - 1) 0) k x placed)
          (leads_along models x xs x (λ i l. along i (c.steps i l)) (k, placed)),
    )
  where
    along : (i : ℕ) → LeadsOnTo links (get_or (x ∷ xs) i 0) (get_or (x ∷ xs) (i + 1) 0) → PlacesSomewhere models (get_or (x ∷ xs) i 0) (get_or (x ∷ xs) (i + 1) 0)
    along i (k, step) = (k, placed_by models links are (get_or (x ∷ xs) i 0) k (get_or (x ∷ xs) (i + 1) 0) step)

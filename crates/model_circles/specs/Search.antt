-- What a search among models keeps.
use Rattle.model_circles.specs.declared.search.Search.{Search}
use Rattle.std.specs.Prelude.{ℕ, ◌≡◌, ◌<◌, ◌+◌, List, [], ◌∷◌, ◌++◌, length, get_or, slice_set, Option, Some, None, is_none, count_by}
use Rattle.netlist_core.specs.declared.model.Model.{Model}
use Rattle.model_index.specs.Numbers.{PlacesSomewhere}

-- the model has been found
abbrev pub IsFound : List (Option ℕ) → ℕ → Type 0
IsFound places n = (p : ℕ) × (get_or places n None ≡ Some p)

-- `places` tells where each model stands among those found, and `parents` gives for each but the
-- first the place of an earlier one that places it
pub record IsSearch (models : List Model) (first : ℕ) (places : List (Option ℕ))
    (found parents : List ℕ) : Type 0 where
  pub fit : length places ≡ length models
  pub parents_fit : length parents ≡ length found
  pub counted : count_by is_none places + length found ≡ length models
  pub some : 0 < length found
  pub is_first : get_or found 0 0 ≡ first
  pub numbers : (i : ℕ) → i < length found → get_or found i 0 < length models
  pub at_place : (i : ℕ) → i < length found → get_or places (get_or found i 0) None ≡ Some i
  pub place_of : (n i : ℕ) → get_or places n None ≡ Some i
      → (i < length found) × (get_or found i 0 ≡ n)
  pub before : (i : ℕ) → 0 < i → i < length found
      → (get_or parents i 0 < i) × PlacesSomewhere models (get_or found (get_or parents i 0) 0)
      (get_or found i 0)

abbrev pub IsSearchOf : List Model → ℕ → Search → Type 0
IsSearchOf models first search =
    IsSearch models first search.places.items search.found.items search.parents.items

-- each model that was found keeps its place
abbrev pub StillFound : List (Option ℕ) → List (Option ℕ) → Type 0
StillFound before after = (n p : ℕ) → get_or before n None ≡ Some p → get_or after n None ≡ Some p

-- all that the models found before a place place is found
abbrev pub AreMetBefore : List Model → List (Option ℕ) → List ℕ → ℕ → Type 0
AreMetBefore models places found at =
    (i inner : ℕ) → i < at → PlacesSomewhere models (get_or found i 0) inner → IsFound places inner

-- all that the first leads to is found
pub record IsWholeSearch (models : List Model) (first : ℕ) (search : Search) : Type 0 where
  pub is_search : IsSearchOf models first search
  pub closed : AreMetBefore models search.places.items search.found.items
      (length search.found.items)

-- a model that is met keeps its place, or gets the next place if it had none
abbrev pub IsMetAs : Option ℕ → Search → ℕ → ℕ → Search → Type 0
IsMetAs (Some p) old inner at new =
    (new.places.items ≡ old.places.items) × (new.found.items ≡ old.found.items)
    × (new.parents.items ≡ old.parents.items)
IsMetAs None old inner at new =
    (new.places.items ≡ slice_set old.places.items inner (Some (length old.found.items)))
    × (new.found.items ≡ old.found.items ++ inner ∷ [])
    × (new.parents.items ≡ old.parents.items ++ at ∷ [])

abbrev pub Meets : Search → ℕ → ℕ → Search → Type 0
Meets old inner at new = IsMetAs (get_or old.places.items inner None) old inner at new

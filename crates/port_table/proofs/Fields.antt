-- Fields of which there are neither four nor five nor six nor seven have no form.
use Rattle.std.proofs.Common.{ℕ, ◌≡◌, ◌≢◌, refl, List, [], ◌∷◌, take, length, None}
use Rattle.pattern_reading.specs.declared.ports.TableVersion.{TableVersion}
use Rattle.pattern_reading.specs.PortLines.{form_of_fields}

pub no_form : (version : TableVersion) (fields : List (List ℕ)) → length fields ≢ 4 → length fields ≢ 5 → length fields ≢ 6 → length fields ≢ 7 → form_of_fields version fields ≡ None
no_form v [] h4 h5 h6 h7 = refl
no_form v (a ∷ []) h4 h5 h6 h7 = refl
no_form v (a ∷ b ∷ []) h4 h5 h6 h7 = refl
no_form v (a ∷ b ∷ c ∷ []) h4 h5 h6 h7 = refl
no_form v (a ∷ b ∷ c ∷ d ∷ []) h4 h5 h6 h7 = absurd (h4 refl)
no_form v (a ∷ b ∷ c ∷ d ∷ e ∷ []) h4 h5 h6 h7 = absurd (h5 refl)
no_form v (a ∷ b ∷ c ∷ d ∷ e ∷ f ∷ []) h4 h5 h6 h7 = absurd (h6 refl)
no_form v (a ∷ b ∷ c ∷ d ∷ e ∷ f ∷ g ∷ []) h4 h5 h6 h7 = absurd (h7 refl)
no_form v (a ∷ b ∷ c ∷ d ∷ e ∷ f ∷ g ∷ i ∷ more) h4 h5 h6 h7 = refl

-- what stands after eight fields says no more
pub first_eight : (version : TableVersion) (fields : List (List ℕ)) → form_of_fields version (take 8 fields) ≡ form_of_fields version fields
first_eight v [] = refl
first_eight v (a ∷ []) = refl
first_eight v (a ∷ b ∷ []) = refl
first_eight v (a ∷ b ∷ c ∷ []) = refl
first_eight v (a ∷ b ∷ c ∷ d ∷ []) = refl
first_eight v (a ∷ b ∷ c ∷ d ∷ e ∷ []) = refl
first_eight v (a ∷ b ∷ c ∷ d ∷ e ∷ f ∷ []) = refl
first_eight v (a ∷ b ∷ c ∷ d ∷ e ∷ f ∷ g ∷ []) = refl
first_eight v (a ∷ b ∷ c ∷ d ∷ e ∷ f ∷ g ∷ i ∷ more) = refl

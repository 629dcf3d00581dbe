-- The models that a step between models leaves from.
use Rattle.lists.proofs.Members.{In, contains_from}
use Rattle.std.proofs.Common.{cond, ◌≡◌, refl, sym, subst, ℕ, inl, inr, List, [], ◌∷◌, Bool, true, false}
use Rattle.std.specs.Prelude.{Contains, bytes_eq, Some}
use Rattle.std.proofs.lemmas.Slice.Eq.{bytes_eq-Decides}
use Rattle.netlist_core.specs.declared.model.Model.{Model}
use Rattle.netlist_core.specs.Names.{model_named}
use Rattle.netlist_rules.specs.Circles.{HasSubcktOf, IsOnCircle}

-- the model of a name is one of the models, and has the name
pub model_of_name : (models : List Model) (name : List ℕ) (m : Model) → model_named models name ≡ Some m → In m models × (m.name ≡ name)
model_of_name [] name m e = absurd (cc)
model_of_name (x ∷ xs) name m e = by (bytes_eq x.name name) refl e (λ h. model_of_name xs name m h)
  where
    by : (b : Bool) → bytes_eq x.name name ≡ b → cond b (Some x) (model_named xs name) ≡ Some m → (model_named xs name ≡ Some m → In m xs × (m.name ≡ name)) → In m (x ∷ xs) × (m.name ≡ name)
    by true h d again = let same : x ≡ m = cc in (inl (sym same), subst (λ u. u.name ≡ name) same ((bytes_eq-Decides x.name name).0 h))
    by false h d again = let r : In m xs × (m.name ≡ name) = again d in (inr r.0, r.1)

-- the model that a step leaves from
pub leaves : (models : List Model) (name other : List ℕ) (p : HasSubcktOf models name other) → Contains models p.model × (p.model.name ≡ name)
leaves models name other p = let r : In p.model models × (p.model.name ≡ name) = model_of_name models name p.model p.is_model in (contains_from models p.model r.0, r.1)

pub circle_model : (models : List Model) (line : ℕ) (names : List (List ℕ)) (c : IsOnCircle models line names) → Contains models c.model
circle_model models line names c = contains_from models c.model (model_of_name models c.model.name c.model c.is_model).0
